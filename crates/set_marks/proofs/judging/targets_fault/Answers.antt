use Rattle.std.proofs.Common.{◌≡◌, ℕ, ◌≤◌, [], Option, rules, sym, ap, subst}
use Rattle.adjust_kernel.specs.declared.bounds.TheConstants.{MOST_TARGETS}
use Rattle.set_marks.specs.declared.fault.MarkKind.TheVariants.{TooManyTargets}
use Rattle.set_marks.specs.declared.sight.Sight.{Sight}
use Rattle.set_marks.specs.Divisions.{flaw_found, one_too_many}
use Rattle.set_marks.proofs.FewTargets.{none_too_many, few_unless}
use Rattle.set_marks.proofs.judging.targets_fault.Goals as goal

pub returns-then-targets-le-MOST_TARGETS-clause-flaw : goal.returns-then-targets-le-MOST_TARGETS-clause-flaw
returns-then-targets-le-MOST_TARGETS-clause-flaw c =
    sym (ap (λ (o : Option Sight). flaw_found TooManyTargets o) (none_too_many []
    c.args.sights.now
    (subst (λ (n : ℕ). n ≤ MOST_TARGETS) c.requires c.if-targets-le-MOST_TARGETS.true)))

pub returns-clause-few : goal.returns-clause-few
returns-clause-few c =
    let is : c.flaw_found.result
    ≡ flaw_found TooManyTargets (one_too_many [] c.args.sights.now) = search rules in
    few_unless c.args.targets c.args.sights.now c.flaw_found.result c.requires is
