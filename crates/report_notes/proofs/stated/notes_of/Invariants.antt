use Rattle.std.proofs.Common.{map, take}
use Rattle.report_notes.specs.Stated.{AreNoted}
use Rattle.report_notes.proofs.stated.notes_of.Given as goal

abbrev pub invariant-loop-text : goal.invariant-loop-text
invariant-loop-text l =
    AreNoted l.language (map (λ text. text.now) (take l.text-index l.texts)) l.notes.items
