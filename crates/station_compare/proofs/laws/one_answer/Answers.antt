use Rattle.station_compare.proofs.OneAnswer.{one_answer}
use Rattle.station_compare.proofs.laws.one_answer.Goals as goal

pub returns : goal.returns
returns c = λ form limits file stated name within r s small set also p h.
    one_answer form limits small file stated name within r s set also p h
