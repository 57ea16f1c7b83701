use Rattle.std.proofs.Common.{[], refl}
use Rattle.station_check.proofs.KeptBytes.{of_kept}
use Rattle.station_check.proofs.kept.check_kept.Goals as goal

pub returns : goal.returns
returns g c file stated kept_file kept_sheet =
    let a = c.check_sources.ensures in
    of_kept c.args.limits c.args.limit _ _ c.check_sources.result.0 file stated a
    (rw kept_file at a.gsi_reads.adds 0 [] (rw c.requires.new_gsi refl))
    (rw kept_sheet at a.sheet_reads.adds 0 [] (rw c.requires.new_sheet refl))
