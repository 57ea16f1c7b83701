use Rattle.std.proofs.Common.{arith, eqb, eq-eqb, pos}
use Rattle.std.proofs.lemmas.Int.{ints}
use Rattle.std.proofs.lemmas.Bool.{ne_eqb}
use Rattle.adjust_kernel.specs.declared.tally.Added.{Added}
use Rattle.adjust_kernel.proofs.SumLaws.{int_sum_where_more_yes, int_sum_where_more_no}
use Rattle.adjust_kernel.proofs.scan.set_sum_of.Goals as goal
use Rattle.adjust_kernel.proofs.scan.set_sum_of.Goals.{then-one-set, else-one-set}

pub loop-one-preserved : goal.loop-one-preserved
loop-one-preserved c =
    let one : Added = record { target = 0; set = 0; residual = pos 0 } in
    let within = c.requires.within c.loop-one.one-index one c.loop-one-test.true in
    elim c.if-one-set.branch [
      | then-one-set w ↦
          let e = int_sum_where_more_yes (λ (a : Added). eqb a.set c.args.set) (λ a. a.residual)
          c.args.added.now c.loop-one.one-index _ c.loop-one-test.true
          (eq-eqb _ _ w.if-one-set.true) in
          record { sum = omega (arith, ints); bound = omega (arith, ints) }
      | else-one-set w ↦
          let e = int_sum_where_more_no (λ (a : Added). eqb a.set c.args.set) (λ a. a.residual)
          c.args.added.now c.loop-one.one-index _ c.loop-one-test.true
          (ne_eqb _ _ w.if-one-set.false) in
          record { sum = omega (arith, ints); bound = omega (arith, ints) }
    ]
