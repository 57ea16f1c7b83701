use Rattle.std.proofs.Common.{◌+◌, List, sym, subst}
use Rattle.adjust_kernel.specs.declared.row.Orientation.{Orientation}
use Rattle.adjust_kernel.specs.Pairs.{turned_by_rows}
use Rattle.sheet_means.specs.Parts.{AreEach, IsMeansOrientation}
use Rattle.sheet_means.proofs.EachLaws.{each_more}
use Rattle.sheet_means.proofs.adjusted.orientations_of.Goals as goal

pub loop-set-preserved : goal.loop-set-preserved
loop-set-preserved c =
    let P = IsMeansOrientation c.args.station.now
    (turned_by_rows c.args.station.now.obs c.args.rows.now) in
    subst (AreEach P (c.loop-set.set + 1)) (sym {A = List Orientation} c.in_ok-push.ensures.items)
    (each_more P c.loop-set.set c.loop-set.orientations.items c.orientation_of.result
    c.loop-set.invariant c.orientation_of.ensures)
