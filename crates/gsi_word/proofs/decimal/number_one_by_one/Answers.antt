use Rattle.std.proofs.Common.{arith, ◌<◌}
use Rattle.gsi_word.proofs.DecimalLaws.{below_fifteen}
use Rattle.gsi_word.proofs.decimal.number_one_by_one.Goals as goal

pub overflow_mul-number : goal.overflow_mul-number
overflow_mul-number c =
    let small : c.loop-byte.number < 1000000000000000 =
    below_fifteen c.loop-byte.byte-index c.loop-byte.number (omega arith)
    c.loop-byte.invariant.small in
    omega arith

pub overflow_add-number : goal.overflow_add-number
overflow_add-number c =
    let small : c.loop-byte.number < 1000000000000000 =
    below_fifteen c.loop-byte.byte-index c.loop-byte.number (omega arith)
    c.loop-byte.invariant.small in
    omega (arith, c.type_inv.bytes c.loop-byte.byte-index)
