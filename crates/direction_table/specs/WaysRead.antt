-- What is read of bytes in a way, and what their fault is.
use Rattle.std.specs.Prelude.{◌≡◌, ◌⊎◌, ℕ, ◌+◌, ◌≤◌, List}
use Rattle.direction_table.specs.FaultsOfRows.{AreFaultless, IsRowFault}
use Rattle.direction_table.specs.TableNotes.{columns_by}
use Rattle.direction_table.specs.TableRows.{IsOneWay, rows_read, rules_read}
use Rattle.direction_table.specs.Tables.{stated_by}
use Rattle.direction_table.specs.UsualLimits.{finest_step}
use Rattle.direction_table.specs.declared.direction.TheConstants.{COARSEST_STEP}
use Rattle.direction_table.specs.declared.fault.TableFault.{TableFault}
use Rattle.direction_table.specs.declared.fault.TableFault.TheVariants.{Columns, Memory}
use Rattle.direction_table.specs.declared.reading.ReadTable.{ReadTable}
use Rattle.direction_table.specs.declared.unit.AngleUnit.{AngleUnit}
use Rattle.direction_table.specs.declared.way.Way.{Way}
use Rattle.direction_table.specs.declared.way.Way.TheVariants.{TwoColumns, ByColumns, MoreFit}

-- This was read of bytes in a way: one pair of columns, no row of which has a fault, what they
-- state of each target, and what is told of it.
pub record IsReadIn (unit : AngleUnit) (targets : List (List ℕ)) (bytes : List ℕ) (way : Way)
    (read : ReadTable) : Type 0 where
  pub one_way : IsOneWay way
  pub faultless : AreFaultless (rules_read unit targets way) (rows_read unit targets bytes way)
  pub stated : read.stated.directions.items
      ≡ stated_by unit (rows_read unit targets bytes way) targets
  pub finest : read.stated.finest_step ≡ finest_step unit (rows_read unit targets bytes way)
  pub small_step : read.stated.finest_step ≤ COARSEST_STEP
  pub columns : read.by_columns ≡ columns_by unit targets bytes way

-- The fault of bytes that are read in a way: the first two columns that fit, or that of a row.
abbrev pub IsWayFault : AngleUnit → List (List ℕ) → List ℕ → Way → TableFault → Type 0
IsWayFault unit targets bytes TwoColumns fault =
    IsRowFault (rules_read unit targets TwoColumns) (rows_read unit targets bytes TwoColumns) fault
IsWayFault unit targets bytes (ByColumns separator pair) fault =
    IsRowFault (rules_read unit targets (ByColumns separator pair))
    (rows_read unit targets bytes (ByColumns separator pair)) fault
IsWayFault unit targets bytes (MoreFit first second) fault =
    fault ≡ Columns (first + 1) (second + 1)

-- That is the fault, or memory ran out.
abbrev pub IsWayFaultOrMemory : AngleUnit → List (List ℕ) → List ℕ → Way → TableFault → Type 0
IsWayFaultOrMemory unit targets bytes way fault =
    IsWayFault unit targets bytes way fault ⊎ (fault ≡ Memory)
