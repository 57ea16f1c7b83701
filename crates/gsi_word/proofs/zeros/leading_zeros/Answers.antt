use Rattle.std.proofs.Common.{ℕ, not, ap, ◌∙◌, arith}
use Rattle.std.specs.Prelude.{◌==◌, if◌then◌else◌}
use Rattle.std.specs.Int.{trailing_zeros, w8, w64}
use Rattle.std.proofs.lemmas.Simd.{length-chunk, bitmask_splat, first_set_mask_l}
use lib.Lanes.{chunk}
use Rattle.gsi_word.proofs.NameLaws.{zeros_in_load, long_content}
use Rattle.gsi_word.proofs.zeros.leading_zeros.Goals as goal

pub returns-then-content-eq-GSI_8 : goal.returns-then-content-eq-GSI_8
returns-then-content-eq-GSI_8 c =
    let is = c.if-content-eq-GSI_8.true in
    let v = chunk 0 8 c.args.content.now in
    let all = length-chunk 0 8 c.args.content.now (omega (arith, is)) in
    c.lowest_lane.ensures
    ∙ ap (λ (m : ℕ). if m == 0 then 8 else trailing_zeros w64 m)
    (bitmask_splat w8 (λ a b. not (a == b)) v 8 48 all (omega arith))
    ∙ first_set_mask_l (λ (b : ℕ). not (b == 48)) v 8 all (omega arith)
    ∙ zeros_in_load 8 c.args.content.now is

pub returns-else-content-eq-GSI_8 : goal.returns-else-content-eq-GSI_8
returns-else-content-eq-GSI_8 c =
    let is = long_content c.args.content.now c.requires c.if-content-eq-GSI_8.false in
    let v = chunk 0 16 c.args.content.now in
    let all = length-chunk 0 16 c.args.content.now (omega (arith, is)) in
    c.lowest_lane-else-content-eq-GSI_8.ensures
    ∙ ap (λ (m : ℕ). if m == 0 then 16 else trailing_zeros w64 m)
    (bitmask_splat w8 (λ a b. not (a == b)) v 16 48 all (omega arith))
    ∙ first_set_mask_l (λ (b : ℕ). not (b == 48)) v 16 all (omega arith)
    ∙ zeros_in_load 16 c.args.content.now is
