use Rattle.std.proofs.Common.{◌+◌, ◌∙◌, Bor, List, Some, None, ℕ, rules, sym}
use Rattle.std.proofs.lemmas.List.{take-map}
use Rattle.report_pages.proofs.Heads.{head_by}
use Rattle.report_pages.proofs.head.head_of.Goals as goal

pub returns-in-Some-clause-head : goal.returns-in-Some-clause-head
returns-in-Some-clause-head c =
    let ls = c.args.lines.now in
    let place = c.in-Some.place in
    let by = head_by c.args.label.now ls (Some place) (search rules) in
    sym (by ∙ take-map (λ (l : Bor (List ℕ)). l.now) (place + 1) ls)

pub returns-in-None-clause-head : goal.returns-in-None-clause-head
returns-in-None-clause-head c =
    sym (head_by c.args.label.now c.args.lines.now None (search rules))
