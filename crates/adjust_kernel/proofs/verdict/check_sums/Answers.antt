use Rattle.adjust_kernel.specs.Pairs.{choice_stated_by}
use Rattle.adjust_kernel.specs.Verdict.{observations}
use Rattle.adjust_kernel.proofs.VerdictLaws.{target_sum_fault, set_sum_fault}
use Rattle.adjust_kernel.proofs.verdict.check_sums.Goals as goal

pub returns-in-Some-clause-fault : goal.returns-in-Some-clause-fault
returns-in-Some-clause-fault g c =
    let station = c.args.station.now in
    let sheet = c.args.sheet.now in
    let added = rw c.obs.ensures.value at c.add_residuals-tally.ensures.sums in
    let first = c.in-Some.ensures.some (choice_stated_by sheet)
    (observations station sheet) added in
    target_sum_fault station sheet c.in-Some.target c.requires.matches
    (rw (← c.targets.ensures.value) first)

pub returns-in-Some-first_uneven_set-clause-fault :
    goal.returns-in-Some-first_uneven_set-clause-fault
returns-in-Some-first_uneven_set-clause-fault g c =
    let station = c.args.station.now in
    let sheet = c.args.sheet.now in
    let added = rw c.obs.ensures.value at c.add_residuals-tally.ensures.sums in
    let targets = c.in_default.ensures.none (choice_stated_by sheet) (observations station sheet)
    added in
    let first = c.in-Some-first_uneven_set.ensures.some (choice_stated_by sheet)
    (observations station sheet) added in
    set_sum_fault station sheet c.in-Some-first_uneven_set.set c.requires.matches
    (rw (← c.targets.ensures.value) targets) (rw (← c.sets.ensures.value) first)
