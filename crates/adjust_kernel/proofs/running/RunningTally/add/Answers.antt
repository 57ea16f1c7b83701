use Rattle.std.proofs.Common.{arith, subst, sym, List, ℤ, pos, ◌+ℤ◌, All, ◌*◌, ◌+◌, ◌<◌, length}
use Rattle.std.proofs.Common.{set, get_or, ◌++◌, ◌∷◌, [], ap, ◌∙◌}
use Rattle.std.proofs.lemmas.Int.{to_z-of_z}
use Rattle.adjust_kernel.specs.declared.tally.Added.{Added}
use Rattle.adjust_kernel.specs.Within.{IsWithin}
use Rattle.adjust_kernel.specs.Tallies.{AreSumsOf}
use Rattle.adjust_kernel.proofs.TallyLaws.{keeps_sums, still_within}
use Rattle.adjust_kernel.proofs.running.RunningTally.add.Goals as goal
use mir.Syntax.{w128}

pub invariant_of-self-clause-targets_in : goal.invariant_of-self-clause-targets_in
invariant_of-self-clause-targets_in c =
    let t : c.args.target < length c.args.self.now.targets =
    omega (arith, c.args.self.now.all_targets, c.requires.target) in
    let e = c.add_at.ensures ∙ ap (λ z. set c.args.self.now.targets c.args.target
    (get_or c.args.self.now.targets c.args.target (pos 0) +ℤ z))
    (to_z-of_z w128 c.args.residual c.ranges.residual) in
    subst (λ (x : List ℤ). All (IsWithin (pos
    (2_800_000_000_000_000_000_000 * (c.args.self.now.taken + 1)))) x) (sym e)
    (still_within 2_800_000_000_000_000_000_000 c.args.self.now.taken c.args.self.now.targets
    c.args.target c.args.residual t c.requires.residual c.args.self.now.targets_in)

pub invariant_of-self-clause-sets_in : goal.invariant_of-self-clause-sets_in
invariant_of-self-clause-sets_in c =
    let t : c.args.set < length c.args.self.now.sets =
    omega (arith, c.args.self.now.all_sets, c.requires.set) in
    let e = c.add_at-2.ensures ∙ ap (λ z. set c.args.self.now.sets c.args.set
    (get_or c.args.self.now.sets c.args.set (pos 0) +ℤ z))
    (to_z-of_z w128 c.args.residual c.ranges.residual) in
    subst (λ (x : List ℤ). All (IsWithin (pos
    (2_800_000_000_000_000_000_000 * (c.args.self.now.taken + 1)))) x) (sym e)
    (still_within 2_800_000_000_000_000_000_000 c.args.self.now.taken c.args.self.now.sets
    c.args.set c.args.residual t c.requires.residual c.args.self.now.sets_in)

pub returns-clause-added : goal.returns-clause-added
returns-clause-added c = λ l h.
    let e = c.add_at.ensures ∙ ap (λ z. set c.args.self.now.targets c.args.target
    (get_or c.args.self.now.targets c.args.target (pos 0) +ℤ z))
    (to_z-of_z w128 c.args.residual c.ranges.residual) in
    let f = c.add_at-2.ensures ∙ ap (λ z. set c.args.self.now.sets c.args.set
    (get_or c.args.self.now.sets c.args.set (pos 0) +ℤ z))
    (to_z-of_z w128 c.args.residual c.ranges.residual) in
    let x : Added = record {
      target = c.args.target;
      set = c.args.set;
      residual = c.args.residual;
    } in
    subst (λ (p : List ℤ × List ℤ). AreSumsOf (l ++ x ∷ []) p.0 p.1 (c.args.self.now.taken + 1))
    (λ i. (sym e i, sym f i))
    (keeps_sums c.args.self.now.targets c.args.self.now.sets c.args.self.now.taken l x
    c.args.self.now.all_targets c.args.self.now.all_sets c.requires.target c.requires.set h)
