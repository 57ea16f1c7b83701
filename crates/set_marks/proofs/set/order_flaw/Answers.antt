use Rattle.std.proofs.Common.{rules, refl, ◌∙◌, length, option_map, nat_lt, not}
use Rattle.set_marks.proofs.Few.{order_flaw_is}
use Rattle.set_marks.proofs.set.order_flaw.Goals as goal

pub returns : goal.returns
returns c = c.first_flaw.ensures
    ∙ order_flaw_is c.args.first.now c.args.set.now c.flaw_when-one.result c.flaw_when-order.result
    c.flaw_when-elsewhere.result (option_map (λ s. s.now) c.sight_at-opening.result)
    (option_map (λ s. s.now) c.sight_at-middle.result)
    (option_map (λ s. s.now) c.sight_at-last.result) (nat_lt (length c.args.set.now) 4)
    (not c.are_read_alike.result) (not c.ends_alike.result) (search rules) (search rules)
    (search rules) refl (search rules) (search rules) c.sight_at-opening.ensures
    c.sight_at-middle.ensures (search rules)
