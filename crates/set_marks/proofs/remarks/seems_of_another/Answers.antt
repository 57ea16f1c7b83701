use Rattle.std.proofs.Common.{◌≡◌, ◌&&◌, not, true, false, Bool, rules, sym, ap, ◌∙◌}
use Rattle.set_marks.proofs.Others.{of_another}
use Rattle.set_marks.proofs.remarks.seems_of_another.Goals as goal

pub returns-then-not-is_known-clause-value : goal.returns-then-not-is_known-clause-value
returns-then-not-is_known-clause-value c in_sets after all kept =
    let second : c.args.sight.now.second ≡ true = search rules in
    let new : c.has-is_known.result ≡ false = search rules in
    ap (λ (b : Bool). not b && c.has-is_paired.result) (sym new)
    ∙ of_another in_sets after c.args.known.now c.args.faces.now c.args.sight.now
    c.has-is_known.result c.has-is_paired.result c.has-is_known.ensures.value
    c.has-is_paired.ensures.value second all kept

pub returns-else-not-is_known-clause-value : goal.returns-else-not-is_known-clause-value
returns-else-not-is_known-clause-value c in_sets after all kept =
    let second : c.args.sight.now.second ≡ true = search rules in
    let old : c.has-is_known.result ≡ true = search rules in
    ap not old ∙ ap (λ (b : Bool). not b && c.has-is_paired.result) (sym old)
    ∙ of_another in_sets after c.args.known.now c.args.faces.now c.args.sight.now
    c.has-is_known.result c.has-is_paired.result c.has-is_known.ensures.value
    c.has-is_paired.ensures.value second all kept
