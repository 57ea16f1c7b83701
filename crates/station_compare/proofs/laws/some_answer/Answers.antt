use Rattle.station_compare.proofs.SomeAnswer.{some_answer}
use Rattle.station_compare.proofs.laws.some_answer.Goals as goal

pub returns : goal.returns
returns c = λ form limits file stated name within small.
    some_answer form limits small file stated name within
