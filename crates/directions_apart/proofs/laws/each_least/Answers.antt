use Rattle.std.proofs.Common.{length}
use Rattle.exact_adjustment.specs.Adjustments.{choice_by}
use Rattle.directions_apart.proofs.ApartLaws.{as_far_apart, as_near}
use Rattle.directions_apart.proofs.LeastLaws.{are_turned, first_is_0}
use Rattle.directions_apart.proofs.RoundingLaws.{as_rounded}
use Rattle.directions_apart.proofs.laws.each_least.Goals as goal

pub returns-clause-apart : goal.returns-clause-apart
returns-clause-apart c = λ station a stated off apart choice turns s t e k least is.
    as_far_apart (length station.targets) (choice_by a) choice stated off apart e.rules.positive
    least.positive (are_turned station a s t e k choice turns least) is

pub returns-clause-near : goal.returns-clause-near
returns-clause-near c = λ station a stated most choice turns s t e k least b.
    as_near (length station.targets) (choice_by a) choice stated most e.rules.positive
    (are_turned station a s t e k choice turns least) b

pub returns-clause-rounded : goal.returns-clause-rounded
returns-clause-rounded c = λ station a target step rounded choice turns s t e k least some inside r.
    as_rounded (length station.targets) (choice_by a) choice target step rounded e.rules.positive
    least.positive some inside (are_turned station a s t e k choice turns least)
    (first_is_0 a e.rules) r
