use Rattle.sheet_promise.proofs.LawLemmas.{promised_of}
use Rattle.sheet_promise.proofs.promised.check_slices_promised.Goals as goal

pub returns : goal.returns
returns c = promised_of _ _ _ _ c.check_slices.result c.recall.ensures
    c.check_slices.ensures.promise.accepted
