use Rattle.station_check.specs.Came.{source_of}
use Rattle.sheet_promise.proofs.LawLemmas.{promised_of}
use Rattle.sheet_promise.proofs.promised.check_kept_promised.Goals as goal

pub returns : goal.returns
returns g c file stated kept_file kept_sheet =
    promised_of _ _ (source_of file) (source_of stated) c.check_kept.result.0 c.recall.ensures
    (c.check_kept.ensures file stated kept_file kept_sheet)
