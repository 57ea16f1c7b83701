use Rattle.std.proofs.Common.{◌≤◌, ◌<◌, ◌∙◌, ℕ, List, [], length, take, pos, ap, subst, sym, arith}
use Rattle.std.proofs.Common.{FitsSigned}
use mir.Syntax.{w128}
use Rattle.std.proofs.lemmas.Int.{ints, to_z-of_z}
use Rattle.std.proofs.lemmas.List.{take_all}
use Rattle.std.proofs.lemmas.List.Sums.{fold_more}
use Rattle.std.specs.Prelude.{max}
use Rattle.std.specs.Int.RustNames.{unsigned_abs}
use Rattle.adjust_kernel.specs.declared.tally.Added.{Added}
use Rattle.adjust_kernel.specs.declared.obs.Obs.{Obs}
use Rattle.adjust_kernel.specs.declared.row.Row.{Row}
use Rattle.adjust_kernel.specs.Greatest.{IsGreatest}
use Rattle.adjust_kernel.specs.Pairs.{choice_stated_by, turned_by_rows}
use Rattle.adjust_kernel.specs.TurnedObservations.{TurnedObservation}
use Rattle.adjust_kernel.specs.Residuals.{residual}
use Rattle.adjust_kernel.specs.Tallies.{all_added}
use Rattle.adjust_kernel.proofs.GreatestLaws.{greatest_size, greatest_is}
use Rattle.adjust_kernel.proofs.ObservationLaws.{length-turned_by_rows}
use Rattle.adjust_kernel.proofs.TallyLaws.{all_added-more}
use Rattle.adjust_kernel.proofs.sums.add_residuals.Goals as goal

pub loop-row-preserved : goal.loop-row-preserved
loop-row-preserved g c =
    let none : Obs = record { set = 0; target = 0; value = 0 } in
    let no_row : Row = record { set = 0; target = []; value = 0; turn = pos 0 } in
    let no_observation : TurnedObservation =
    record { set = 0; target = 0; value = 0; turn = pos 0 } in
    let stated = choice_stated_by c.args.sheet.now in
    let v = residual stated in
    let observations = turned_by_rows c.args.obs.now c.args.sheet.now.rows in
    let earlier : List Added = all_added stated (take c.loop-row.row observations) in
    let known : ℕ = greatest_size stated (take c.loop-row.row observations) in
    let fits : FitsSigned w128 c.row_residual-residual.result = omega (arith, ints) in
    let passed = to_z-of_z w128 c.row_residual-residual.result fits in
    let out : FitsSigned w128 c.larger_size-greatest.result =
    record { sfits = c.larger_size-greatest.type_inv } in
    let inside : c.loop-row.row < length c.args.obs.now = let k =
    ap length c.rows-row-end.ensures.value in
    omega (arith, c.requires.paired.same_length, c.loop-row-test.true) in
    let among : c.loop-row.row < length observations = let k =
    length-turned_by_rows c.args.obs.now c.args.sheet.now.rows c.requires.paired.same_length in
    omega (arith, inside) in
    record {
      stands = subst (λ (l : List Added). g.T.Tally.StandsFor c.add.new.self l)
          (all_added-more stated c.args.obs.now c.args.sheet.now.rows c.loop-row.row none no_row _
          c.requires.paired.same_length inside (λ d. passed
          ∙ c.row_residual-residual.ensures.value d))
          (c.add.ensures.added earlier c.loop-row.invariant.stands);
      room = omega (arith, c.add.ensures.room, c.loop-row.invariant.room);
      greatest =
          to_z-of_z w128 c.larger_size-greatest.result out
          ∙ c.larger_size-greatest.ensures known c.loop-row.invariant.greatest
          ∙ ap (λ z. pos (max known (unsigned_abs z))) (passed
          ∙ c.row_residual-residual.ensures.value no_observation)
          ∙ ap pos (sym
          (fold_more (λ (size : ℕ) (r : TurnedObservation). max size (unsigned_abs (v r))) 0
          observations c.loop-row.row no_observation among));
    }

pub returns-clause-sums : goal.returns-clause-sums
returns-clause-sums g c =
    let observations = turned_by_rows c.args.obs.now c.args.sheet.now.rows in
    let rows_are = ap length c.rows-row-end.ensures.value in
    let all : length observations ≤ c.loop-row.row = let k =
    length-turned_by_rows c.args.obs.now c.args.sheet.now.rows c.requires.paired.same_length in
    omega (arith, c.requires.paired.same_length) in
    subst (λ (l : List Added). g.T.Tally.StandsFor c.loop-row.tally l)
    (ap (all_added (choice_stated_by c.args.sheet.now)) (take_all c.loop-row.row observations all))
    c.loop-row.invariant.stands

pub returns-clause-greatest : goal.returns-clause-greatest
returns-clause-greatest g c =
    let observations = turned_by_rows c.args.obs.now c.args.sheet.now.rows in
    let stated = choice_stated_by c.args.sheet.now in
    let as_many = length-turned_by_rows c.args.obs.now c.args.sheet.now.rows
    c.requires.paired.same_length in
    let rows = ap length c.rows-row-end.ensures.value in
    let all : length observations ≤ c.loop-row.row =
    omega (arith, as_many, c.requires.paired.same_length, c.loop-row-test.false) in
    let some : 1 ≤ length observations = omega (
      arith,
      as_many,
      c.requires.paired.same_length,
      c.rows-row-end.ensures.valid.rows.some,
    ) in
    subst (IsGreatest stated observations) (sym (c.loop-row.invariant.greatest
    ∙ ap (λ rs. pos (greatest_size stated rs)) (take_all c.loop-row.row observations all)))
    (greatest_is stated observations some)
