use Rattle.std.proofs.Common.{◌≡◌, List, false, length, rules, sym, ap, ◌∙◌}
use Rattle.set_marks.specs.declared.sight.Sight.{Sight}
use Rattle.set_marks.specs.Divisions.{targets_of}
use Rattle.set_marks.proofs.Others.{none_of_another}
use Rattle.set_marks.proofs.remarks.count_others.Goals as goal

pub returns-then-not-has_second : goal.returns-then-not-has_second
returns-then-not-has_second c =
    let none : c.has_second.result ≡ false = search rules in
    sym (ap (λ (l : List Sight). length (targets_of l))
    (none_of_another c.args.in_sets.now c.args.after.now c.args.after.now
    (sym c.has_second.ensures ∙ none)))
