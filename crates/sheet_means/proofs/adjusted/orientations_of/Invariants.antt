use Rattle.adjust_kernel.specs.Pairs.{turned_by_rows}
use Rattle.sheet_means.specs.Parts.{AreEach, IsMeansOrientation}
use Rattle.sheet_means.proofs.adjusted.orientations_of.Given as goal

-- The orientations of the first sets.
abbrev pub invariant-loop-set : goal.invariant-loop-set
invariant-loop-set l = AreEach (IsMeansOrientation l.station
    (turned_by_rows l.station.obs l.rows)) l.set l.orientations.items
