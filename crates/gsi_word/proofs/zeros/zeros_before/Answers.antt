use Rattle.std.proofs.Common.{inl, inr, arith, length, ◌-◌}
use Rattle.gsi_word.proofs.NameLaws.{name_beyond, some_byte}
use Rattle.gsi_word.proofs.zeros.zeros_before.Goals as goal

pub returns-then-zeros-content-clause-name : goal.returns-then-zeros-content-clause-name
returns-then-zeros-content-clause-name c =
    name_beyond c.leading_zeros-zeros.result c.args.content.now
    (omega (arith, c.leading_zeros-zeros.ensures)) c.if-zeros-content.true
    (inl c.leading_zeros-zeros.ensures)

pub returns-else-zeros-content-clause-name : goal.returns-else-zeros-content-clause-name
returns-else-zeros-content-clause-name c =
    let some = some_byte c.args.content.now c.requires in
    name_beyond (length c.args.content.now - 1) c.args.content.now
    (omega (arith, c.leading_zeros-zeros.ensures, c.if-zeros-content.false))
    (omega (arith, some)) (inr (omega (arith, some)))
