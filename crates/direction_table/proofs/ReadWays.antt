-- What is read of bytes in the way in which they are read.
use Rattle.std.proofs.Common.{◌≡◌, ◌≢◌, ℕ, ◌≤◌, true, false, List, length, refl, sym}
use Rattle.std.proofs.Common.{subst, None, Some, IfErr, IfOk, Result, Ok, Err, inl, inr}
use Rattle.direction_table.specs.Faults.{table_rules}
use Rattle.direction_table.specs.FoundColumns.{found_way, is_table, separator_by}
use Rattle.direction_table.specs.Separators.{rows_of}
use Rattle.direction_table.specs.TableRows.{unstated_way, way_of}
use Rattle.direction_table.specs.Tables.{IsPartFaultOrMemory, IsTableFaultOrMemory}
use Rattle.direction_table.specs.WaysRead.{IsReadIn, IsWayFaultOrMemory}
use Rattle.direction_table.specs.declared.fault.TableFault.{TableFault}
use Rattle.direction_table.specs.declared.fault.TableFault.TheVariants.{Missing}
use Rattle.direction_table.specs.declared.form.ColumnPair.{ColumnPair}
use Rattle.direction_table.specs.declared.form.TableForm.{TableForm}
use Rattle.direction_table.specs.declared.reading.ReadTable.{ReadTable}
use Rattle.direction_table.specs.declared.reading.TheConstants.{LONGEST_TABLE}
use Rattle.direction_table.specs.declared.unit.AngleUnit.{AngleUnit}
use Rattle.direction_table.specs.declared.way.Way.{Way}
use Rattle.direction_table.specs.declared.way.Way.TheVariants.{TwoColumns, ByColumns, MoreFit}

module _ (unit : AngleUnit) (targets : List (List ℕ)) (bytes : List ℕ) where
  -- Bytes that are a table of two columns are read as that.
  pub own-way : is_table unit targets (table_rules unit targets) (rows_of targets bytes) ≡ true
      → TwoColumns ≡ unstated_way unit targets bytes
  own-way e = rw e refl

  -- Others are read by the columns that are found.
  pub other-way : is_table unit targets (table_rules unit targets) (rows_of targets bytes) ≡ false
      → found_way unit targets bytes ≡ unstated_way unit targets bytes
  other-way e = rw e refl

  module _ (one other : Way) (same : one ≡ other) where
    -- What is read in one way is read in the same.
    pub read-same : (read : ReadTable) → IsReadIn unit targets bytes one read
        → IsReadIn unit targets bytes other read
    read-same read is = subst (λ w. IsReadIn unit targets bytes w read) same is

    pub reads-same : (r : Result ReadTable TableFault) → IfOk r (IsReadIn unit targets bytes one)
        → IfOk r (IsReadIn unit targets bytes other)
    reads-same r is = subst (λ w. IfOk r (IsReadIn unit targets bytes w)) same is

    pub faults-same : (r : Result ReadTable TableFault)
        → IfErr r (IsWayFaultOrMemory unit targets bytes one)
        → IfErr r (IsWayFaultOrMemory unit targets bytes other)
    faults-same r is = subst (λ w. IfErr r (IsWayFaultOrMemory unit targets bytes w)) same is

-- Columns that are stated are read.
pub stated-way : (form : TableForm) (targets : List (List ℕ)) (bytes : List ℕ) (pair : ColumnPair)
    → form.columns ≡ Some pair
    → ByColumns (separator_by targets pair.names bytes) pair ≡ way_of form targets bytes
unfolding way_of
stated-way form targets bytes pair e = rw e refl

-- Where none are, bytes are read as they are without.
pub none-stated-way : (form : TableForm) (targets : List (List ℕ)) (bytes : List ℕ)
    → form.columns ≡ None → unstated_way form.unit targets bytes ≡ way_of form targets bytes
unfolding way_of
none-stated-way form targets bytes e = rw e refl

-- Those faults name no missing target.
not-missed : (unit : AngleUnit) (targets : List (List ℕ)) (bytes : List ℕ) (way : Way)
    (fault : TableFault) → IsWayFaultOrMemory unit targets bytes way fault
    → (number : ℕ) → fault ≢ Missing number
not-missed unit targets bytes way fault (inr memory) number is = cc (memory, is)
not-missed unit targets bytes TwoColumns fault (inl found) number is = cc (found.is_row, is)
not-missed unit targets bytes (ByColumns separator pair) fault (inl found) number is =
    cc (found.is_row, is)
not-missed unit targets bytes (MoreFit first second) fault (inl found) number is = cc (found, is)

-- The fault of bytes that are not too many, in the way in which a form is read.
pub fault-of : (form : TableForm) (targets : List (List ℕ)) (bytes : List ℕ) (way : Way)
    (fault : TableFault) → length bytes ≤ LONGEST_TABLE → way_of form targets bytes ≡ way
    → IsWayFaultOrMemory form.unit targets bytes way fault
    → IsTableFaultOrMemory form targets bytes fault
fault-of form targets bytes way fault short is (inr memory) = inr memory
fault-of form targets bytes TwoColumns fault short is (inl found) =
    inl (rw found.is_row (short, found.place, refl, rw is found.first))
fault-of form targets bytes (ByColumns separator pair) fault short is (inl found) =
    inl (rw found.is_row (short, found.place, refl, rw is found.first))
fault-of form targets bytes (MoreFit first second) fault short is (inl found) =
    inl (rw found (short, first, second, refl, refl, is))

-- A refusal in the way in which a form is read is one of its form.
pub refused-in : (form : TableForm) (targets : List (List ℕ)) (bytes : List ℕ) (way : Way)
    (r : Result ReadTable TableFault) → length bytes ≤ LONGEST_TABLE
    → way ≡ way_of form targets bytes
    → IfErr r (IsWayFaultOrMemory form.unit targets bytes way)
    → IfErr r (IsPartFaultOrMemory form targets bytes)
refused-in form targets bytes way (Ok read) short is fault = fault
refused-in form targets bytes way (Err k) short is fault = (
  fault-of form targets bytes way k short (sym is) fault,
  not-missed form.unit targets bytes way k fault,
)
