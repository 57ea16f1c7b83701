use Rattle.direction_table.proofs.ReadWays.{none-stated-way, reads-same, refused-in, stated-way}
use Rattle.direction_table.proofs.reading.read_as.Goals as goal

pub returns-in-Some-clause-read : goal.returns-in-Some-clause-read
returns-in-Some-clause-read c =
    reads-same c.args.form.unit c.args.targets.now c.args.bytes.now _ _
    (stated-way c.args.form c.args.targets.now c.args.bytes.now c.in-Some.pair c.in-Some.is) _
    c.read_stated_columns.ensures.read

pub returns-in-Some-clause-fault : goal.returns-in-Some-clause-fault
returns-in-Some-clause-fault c =
    refused-in c.args.form c.args.targets.now c.args.bytes.now _ _ c.requires.short
    (stated-way c.args.form c.args.targets.now c.args.bytes.now c.in-Some.pair c.in-Some.is)
    c.read_stated_columns.ensures.fault

pub returns-in-None-clause-read : goal.returns-in-None-clause-read
returns-in-None-clause-read c =
    reads-same c.args.form.unit c.args.targets.now c.args.bytes.now _ _
    (none-stated-way c.args.form c.args.targets.now c.args.bytes.now c.in-None.is) _
    c.read_unstated.ensures.read

pub returns-in-None-clause-fault : goal.returns-in-None-clause-fault
returns-in-None-clause-fault c =
    refused-in c.args.form c.args.targets.now c.args.bytes.now _ _ c.requires.short
    (none-stated-way c.args.form c.args.targets.now c.args.bytes.now c.in-None.is)
    c.read_unstated.ensures.fault
