use Rattle.station_book.proofs.recorded.WholeFile.{whole_or_fault, whole_has_none, one_file_fault}
use Rattle.station_book.proofs.laws.one_file_fault.Goals as goal

pub returns-clause-some : goal.returns-clause-some
returns-clause-some c = whole_or_fault

pub returns-clause-none : goal.returns-clause-none
returns-clause-none c = whole_has_none

pub returns-clause-one : goal.returns-clause-one
returns-clause-one c = one_file_fault
