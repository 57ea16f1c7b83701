use Rattle.std.proofs.Common.{◌≡◌, ◌++◌, length}
use Rattle.station_mark.specs.Notes.{zenith_lines}
use Rattle.station_mark.proofs.notes.add_zeniths.Given as goal

abbrev pub invariant-targets : goal.invariant-targets
invariant-targets l =
    l.text.items ++ zenith_lines l.name l.left ≡ l.fn.text.items ++ zenith_lines l.name l.ranges

abbrev pub decreases-targets : goal.decreases-targets
decreases-targets l = length l.left
