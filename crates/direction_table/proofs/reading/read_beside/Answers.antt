use Rattle.std.proofs.Common.{◌≡◌, ◌∙◌, sym}
use Rattle.direction_table.specs.Faults.{table_rules}
use Rattle.direction_table.specs.FoundColumns.{is_table}
use Rattle.direction_table.specs.Separators.{rows_of}
use Rattle.direction_table.proofs.FaultTests.{table-test}
use Rattle.direction_table.proofs.ReadWays.{faults-same, other-way, own-way, read-same, reads-same}
use Rattle.direction_table.proofs.reading.read_beside.Goals as goal
use Rattle.direction_table.proofs.reading.read_beside.Goals.{After-are_all_stated}

-- Whether all is stated says whether the rows are a table of two columns.
test : (c : After-are_all_stated)
    → is_table c.args.unit c.args.targets.now (table_rules c.args.unit c.args.targets.now)
    (rows_of c.args.targets.now c.args.bytes.now) ≡ c.are_all_stated.result
test c = sym (c.are_all_stated.ensures
    ∙ table-test c.args.unit c.args.targets.now (table_rules c.args.unit c.args.targets.now)
    (rows_of c.args.targets.now c.args.bytes.now) _ c.requires.own.faultless
    (c.deref.ensures.value ∙ c.requires.own.stated))

pub returns-then-are_all_stated-clause-read : goal.returns-then-are_all_stated-clause-read
returns-then-are_all_stated-clause-read c =
    read-same c.args.unit c.args.targets.now c.args.bytes.now _ _
    (own-way c.args.unit c.args.targets.now c.args.bytes.now
    (test (goal.at.returns-then-are_all_stated-clause-read c).After-are_all_stated
    ∙ c.if-are_all_stated.true)) _ c.requires.own

pub returns-clause-read : goal.returns-clause-read
returns-clause-read c =
    reads-same c.args.unit c.args.targets.now c.args.bytes.now _ _
    (other-way c.args.unit c.args.targets.now c.args.bytes.now
    (test (goal.at.returns-clause-read c).After-are_all_stated ∙ c.if-are_all_stated.false)) _
    c.read_found.ensures.read

pub returns-clause-fault : goal.returns-clause-fault
returns-clause-fault c =
    faults-same c.args.unit c.args.targets.now c.args.bytes.now _ _
    (other-way c.args.unit c.args.targets.now c.args.bytes.now
    (test (goal.at.returns-clause-fault c).After-are_all_stated ∙ c.if-are_all_stated.false)) _
    c.read_found.ensures.fault
