use Rattle.station_book.proofs.faults.FirstFault.{fault_or_none, no_first_fault, one_first_fault}
use Rattle.station_book.proofs.laws.one_fault.Goals as goal

pub returns-clause-some : goal.returns-clause-some
returns-clause-some c = fault_or_none

pub returns-clause-none : goal.returns-clause-none
returns-clause-none c = no_first_fault

pub returns-clause-one : goal.returns-clause-one
returns-clause-one c = one_first_fault
