use Rattle.std.proofs.Common.{◌+ℤ◌, ◌*ℤ◌, ◌∙◌, rules}
use mir.Syntax.{w8, w64}
use Rattle.std.proofs.lemmas.Int.{to_z-of_z}
use Rattle.adjust_kernel.proofs.row.unrolled.Goals as goal

pub overflow_mul-result : goal.overflow_mul-result
overflow_mul-result c = search rules

pub overflow_add-result : goal.overflow_add-result
overflow_add-result c = search rules

pub returns : goal.returns
returns c =
    let value = to_z-of_z w64 c.from.result (record { sfits = c.from.type_inv })
    ∙ c.from.ensures in
    let circle = to_z-of_z w64 c.from-2.result (record { sfits = c.from-2.type_inv })
    ∙ c.from-2.ensures in
    let turn = to_z-of_z w64 c.from-3.result (record { sfits = c.from-3.type_inv })
    ∙ c.from-3.ensures ∙ to_z-of_z w8 c.args.turn c.ranges.turn in
    let turns = to_z-of_z w64 _ (overflow_mul-result c) ∙ (λ i. circle i *ℤ turn i) in
    to_z-of_z w64 _ (overflow_add-result c) ∙ (λ i. value i +ℤ turns i)
