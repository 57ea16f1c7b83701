use Rattle.std.proofs.Common.{◌<◌, ◌≡◌, ◌*◌, ℕ, true, false, pos, subst, arith, below_more}
use Rattle.std.specs.Prelude.{map, slice_index_or}
use Rattle.std.specs.Int.RustNames.{unsigned_abs}
use Rattle.std.proofs.lemmas.List.{get_or-map}
use Rattle.adjust_kernel.specs.Within.{IsWithin}
use Rattle.adjust_kernel.specs.Residuals.{residual}
use Rattle.adjust_kernel.specs.Pairs.{choice_stated_by, turned_by_rows}
use Rattle.adjust_kernel.proofs.GreatestLaws.{within_size}
use Rattle.adjust_kernel.proofs.ObservationLaws.{length-turned_by_rows}
use Rattle.adjust_kernel.proofs.residual_limit.first_above_limit.Goals as goal

pub loop-row-preserved : goal.loop-row-preserved
loop-row-preserved c =
    let stated = residual (choice_stated_by c.args.sheet.now) in
    let observations = turned_by_rows c.args.obs.now c.args.sheet.now.rows in
    below_more (λ (k : ℕ). c.args.limit * c.args.sheet.now.denominator
    < unsigned_abs (slice_index_or (map stated observations) k (pos 0)) → ⊥) c.loop-row.row
    c.loop-row.invariant (λ above. let e : false ≡ true = c.if-is_row_above.ensures.1 above in
    cc)

pub returns-clause-none : goal.returns-clause-none
returns-clause-none c = λ k d inside.
    let stated = residual (choice_stated_by c.args.sheet.now) in
    let observations = turned_by_rows c.args.obs.now c.args.sheet.now.rows in
    let seen : k < c.loop-row.row = let l =
    length-turned_by_rows c.args.obs.now c.args.sheet.now.rows
    c.requires.same_length in omega (arith, inside, c.loop-row-test.false) in
    subst (IsWithin (pos (c.args.limit * c.args.sheet.now.denominator)))
    (get_or-map stated observations k d (pos 0) inside)
    (within_size (c.args.limit * c.args.sheet.now.denominator)
    (slice_index_or (map stated observations) k (pos 0)) (c.loop-row.invariant k seen))
