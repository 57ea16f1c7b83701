use Rattle.std.proofs.Common.{length, rules}
use Rattle.directions_apart.specs.Apart.{stated_by}
use Rattle.directions_apart.proofs.ApartLaws.{half_spread_is_apart}
use Rattle.exact_adjustment.specs.Adjustments.{choice_by}
use Rattle.directions_apart.proofs.apart.apart_of.Goals as goal

pub returns-clause-apart : goal.returns-clause-apart
returns-clause-apart c =
    half_spread_is_apart (length c.args.stated.now) (choice_by c.args.adjustment.now)
    (stated_by c.args.stated.now) c.args.off c.rounded_up.result (search rules) (search rules)
