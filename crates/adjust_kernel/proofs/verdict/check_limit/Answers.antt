use Rattle.std.proofs.Common.{length}
use Rattle.adjust_kernel.specs.Firsts.{IsFirstWhere}
use Rattle.adjust_kernel.specs.Pairs.{choice_stated_by}
use Rattle.adjust_kernel.specs.Turns.{IsAbove}
use Rattle.adjust_kernel.specs.Verdict.{observations}
use Rattle.adjust_kernel.proofs.VerdictLaws.{residual_fault}
use Rattle.adjust_kernel.proofs.verdict.check_limit.Goals as goal

pub returns-in-Some-first_above_limit-clause-fault :
    goal.returns-in-Some-first_above_limit-clause-fault
returns-in-Some-first_above_limit-clause-fault c =
    let station = c.args.station.now in
    let sheet = c.args.sheet.now in
    let row = c.in-Some-first_above_limit.row in
    let first : IsFirstWhere (IsAbove c.in-Some.limit (choice_stated_by sheet)
    (observations station sheet)) (length (observations station sheet)) row =
    rw (← c.half_units.ensures.value, ← c.obs.ensures.value)
    c.in-Some-first_above_limit.ensures.some in
    rw c.in-Some.is (residual_fault station sheet c.in-Some.limit row c.requires.matches
    c.requires.targets c.requires.sets c.requires.connected first)
