use Rattle.std.proofs.Common.{◌≡◌, ◌∙◌, ◌<◌, ◌≤◌, length, pos, arith, get_or, FitsSigned, refl, sym}
use Rattle.std.proofs.Common.{true, false}
use Rattle.std.proofs.lemmas.Bool.{OnFalse_at, OnTrue_at, true_from_ne_false}
use Rattle.std.proofs.lemmas.Int.{ints, to_z-of_z}
use mir.Syntax.{w8}
use Rattle.adjust_kernel.specs.Residuals.{choice_of}
use Rattle.exact_adjustment.specs.Nearest.{place_of, steps_of}
use Rattle.exact_adjustment.proofs.CarrySteps.{agrees_here, all_agree, all_marked, all_reached}
use Rattle.exact_adjustment.proofs.CarrySteps.{one_step_more, start_marked}
use Rattle.exact_adjustment.proofs.ObservedLaws.{place_inside}
use Rattle.exact_adjustment.proofs.nearest.are_carried.Goals as goal

pub loop-step-init : goal.loop-step-init
loop-step-init c = record {
  marked = rw c.sets-sets.ensures.value
      (start_marked c.args.station.now c.sets-sets.ensures.valid);
  carried = λ n below carries. absurd (omega (arith, below));
}

pub returns-then-are_marked : goal.returns-then-are_marked
returns-then-are_marked c =
    let station = c.args.station.now in
    let is = c.obs-obs.ensures.valid in
    let angles = choice_of 1 c.args.directions.now c.args.orientations.now in
    let l = c.loop-step in
    let all = rw (c.sets-sets.ensures.value, c.targets.ensures.value)
    at c.if-are_marked.ensures.all in
    let inside : l.step < steps_of station =
    rw (c.sets-sets.ensures.value, c.targets.ensures.value, c.obs-obs.ensures.value)
    at c.loop-step-test.true in (
      λ e. (
        all_reached station is c.args.turns.now angles c.requires.each l.marks l.step l.invariant
            all (omega (arith, inside)),
        all_agree station is c.args.turns.now angles c.requires.each l.marks l.step l.invariant all,
      ),
      λ both. refl,
    )

pub returns-then-not-is_carried : goal.returns-then-not-is_carried
returns-then-not-is_carried c =
    let station = c.args.station.now in
    let ks = c.args.turns.now in
    let place = place_of station c.loop-step.step in
    let inside : place < length station.obs =
    place_inside station c.obs-obs.ensures.valid c.loop-step.step in
    let turn = c.requires.turns place (pos 0) (omega (arith, inside, c.requires.each)) in
    let fits : FitsSigned w8 (get_or ks place (pos 0)) = omega (arith, ints) in
    let agrees = simp to_z-of_z at (rw (c.obs-obs.ensures.value, c.requires.each_set)
    at c.if-not-is_carried.ensures.agrees) in (
      λ e. absurd cc,
      λ both. agrees.1 (agrees_here station c.obs-obs.ensures.valid ks
          (choice_of 1 c.args.directions.now c.args.orientations.now) c.requires.each
          c.loop-step.marks c.loop-step.step c.loop-step.invariant both.1),
    )

pub loop-step-preserved : goal.loop-step-preserved
loop-step-preserved c =
    let station = c.args.station.now in
    let ks = c.args.turns.now in
    let place = place_of station c.loop-step.step in
    let inside : place < length station.obs =
    place_inside station c.obs-obs.ensures.valid c.loop-step.step in
    let turn = c.requires.turns place (pos 0) (omega (arith, inside, c.requires.each)) in
    let fits : FitsSigned w8 (get_or ks place (pos 0)) = omega (arith, ints) in
    let along = rw (c.obs-obs.ensures.value, c.requires.each_set, c.requires.each_target)
    at c.is_carried.ensures.marked in
    let agrees = simp to_z-of_z at (rw (c.obs-obs.ensures.value, c.requires.each_set)
    at c.if-not-is_carried.ensures.agrees) in
    one_step_more station c.obs-obs.ensures.valid ks
    (choice_of 1 c.args.directions.now c.args.orientations.now) c.requires.each c.loop-step.marks
    c.loop-step.step c.loop-step.invariant c.is_carried.new.marks along (agrees.0 refl)

pub returns : goal.returns
returns c =
    let station = c.args.station.now in
    let is = c.obs-obs.ensures.valid in
    let angles = choice_of 1 c.args.directions.now c.args.orientations.now in
    let l = c.loop-step in
    let here =
    rw (c.sets-sets.ensures.value, c.targets.ensures.value, c.obs-obs.ensures.value)
    at c.loop-step-test.false in
    let upto : l.step ≤ steps_of station =
    rw (c.sets-sets.ensures.value, c.targets.ensures.value, c.obs-obs.ensures.value)
    at l.auto.step-end in
    let last : l.step ≡ steps_of station = omega (arith, here, upto) in (
      λ e.
          let all = rw (c.sets-sets.ensures.value, c.targets.ensures.value)
          at (OnTrue_at e c.are_marked-2.ensures.all) in (
            all_reached station is c.args.turns.now angles c.requires.each l.marks l.step
                l.invariant all upto,
            all_agree station is c.args.turns.now angles c.requires.each l.marks l.step l.invariant
                all,
          ),
      λ both. true_from_ne_false c.are_marked-2.result (λ e.
          let some =
          rw (c.sets-sets.ensures.value, c.targets.ensures.value)
          at (OnFalse_at e c.are_marked-2.ensures.some_not) in
          let f : true ≡ false = sym (all_marked station is c.args.turns.now angles c.requires.each
          l.marks l.step l.invariant last both.0 some.0 some.1) ∙ some.2 in
          absurd cc),
    )
