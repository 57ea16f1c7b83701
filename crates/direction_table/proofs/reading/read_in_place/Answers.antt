use Rattle.std.proofs.Common.{◌≡◌, false, refl, sym}
use Rattle.direction_table.specs.Faults.{table_rules}
use Rattle.direction_table.specs.FoundColumns.{is_table}
use Rattle.direction_table.specs.Separators.{rows_of}
use Rattle.direction_table.proofs.FaultTests.{no-table}
use Rattle.direction_table.proofs.ReadWays.{faults-same, other-way, reads-same}
use Rattle.direction_table.proofs.reading.read_in_place.Goals as goal
use Rattle.direction_table.proofs.reading.read_in_place.Goals.{In_ok-none_or_memory}

-- Rows with a fault are no table of two columns.
test : (c : In_ok-none_or_memory)
    → is_table c.args.unit c.args.targets.now (table_rules c.args.unit c.args.targets.now)
    (rows_of c.args.targets.now c.args.bytes.now) ≡ false
test c = sym (no-table c.args.unit c.args.targets.now
    (table_rules c.args.unit c.args.targets.now) (λ rows. refl)
    (rows_of c.args.targets.now c.args.bytes.now) c.args.fault c.requires.own
    c.in_ok-none_or_memory.ensures.known)

pub returns-clause-read : goal.returns-clause-read
returns-clause-read c =
    reads-same c.args.unit c.args.targets.now c.args.bytes.now _ _
    (other-way c.args.unit c.args.targets.now c.args.bytes.now
    (test (goal.at.returns-clause-read c).In_ok-none_or_memory)) _ c.read_found.ensures.read

pub returns-clause-fault : goal.returns-clause-fault
returns-clause-fault c =
    faults-same c.args.unit c.args.targets.now c.args.bytes.now _ _
    (other-way c.args.unit c.args.targets.now c.args.bytes.now
    (test (goal.at.returns-clause-fault c).In_ok-none_or_memory)) _ c.read_found.ensures.fault
