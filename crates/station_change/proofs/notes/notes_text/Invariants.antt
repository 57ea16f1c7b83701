use Rattle.std.proofs.Common.{◌≡◌, ◌++◌, length}
use Rattle.station_change.specs.Notes.{notes_text}
use Rattle.station_change.proofs.notes.notes_text.Given as goal

abbrev pub invariant-changes : goal.invariant-changes
invariant-changes l = notes_text l.changes ≡ l.text.items ++ notes_text l.left

abbrev pub decreases-changes : goal.decreases-changes
decreases-changes l = length l.left
