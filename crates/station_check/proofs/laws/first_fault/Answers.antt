use Rattle.station_check.proofs.FirstFaultLaws.{is_first, comes_to_first}
use Rattle.station_check.proofs.laws.first_fault.Goals as goal

pub returns : goal.returns
returns c = λ limits answers fault.
    (is_first limits answers fault, comes_to_first limits answers fault)
