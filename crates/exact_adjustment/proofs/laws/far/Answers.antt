use Rattle.exact_adjustment.proofs.FarLaws.{keeps_limit_too}
use Rattle.exact_adjustment.proofs.laws.far.Goals as goal

pub returns : goal.returns
returns c = λ station a limit small is_station tied exact nearest above other turns each some sums
    limited.
    above (keeps_limit_too station a limit small is_station tied exact nearest other turns each some
    sums limited)
