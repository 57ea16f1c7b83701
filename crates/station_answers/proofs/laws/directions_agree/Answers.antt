use Rattle.station_answers.proofs.OwnDirections.{agrees_by_1, may_refuse}
use Rattle.station_answers.proofs.laws.directions_agree.Goals as goal

pub returns-clause-agrees : goal.returns-clause-agrees
returns-clause-agrees c limits file name text count within a small many own h =
    agrees_by_1 count text many limits small file name own within a h

pub returns-clause-refused : goal.returns-clause-refused
returns-clause-refused c limits file name text count within fault small many own h =
    may_refuse count text many limits small file name own within fault h
