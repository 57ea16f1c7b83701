use Rattle.std.proofs.Common.{map, take}
use Rattle.changed_lines.specs.Stated.{SayEach}
use Rattle.changed_lines.proofs.stated.changes_of.Given as goal

abbrev pub invariant-loop-text : goal.invariant-loop-text
invariant-loop-text l =
    SayEach l.kind (map (λ text. text.now) (take l.text-index l.texts)) l.changes.items
