use Rattle.std.proofs.Common.{◌≡◌, ◌≤◌, ◌%◌, ℕ, subst, sym}
use Rattle.adjust_kernel.specs.declared.units.TheConstants.{CIRCLE}
use Rattle.station_answers.specs.Steps.{fits}
use Rattle.station_answers.proofs.directions.step_of.Goals as goal

pub returns-clause-some : goal.returns-clause-some
returns-clause-some c =
    subst (λ (k : ℕ). 1 ≤ k) (sym c.step.ensures) (fits c.args.decimals).0

pub returns-clause-circle : goal.returns-clause-circle
returns-clause-circle c =
    subst (λ (k : ℕ). CIRCLE % k ≡ 0) (sym c.step.ensures) (fits c.args.decimals).1
