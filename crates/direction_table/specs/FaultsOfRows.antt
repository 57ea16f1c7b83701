-- The faults of rows that are read, by what they have to keep.
use Rattle.std.specs.Prelude.{◌≡◌, ◌⊎◌, ℕ, ◌+◌, List, None}
use Rattle.sheet_format.specs.RowFaults.{IsFirstFault, RowRules, fault_at}
use Rattle.direction_table.specs.declared.fault.RowKind.{RowKind}
use Rattle.direction_table.specs.declared.fault.TableFault.{TableFault}
use Rattle.direction_table.specs.declared.fault.TableFault.TheVariants.{Row, Memory}

-- No place has a fault.
abbrev pub AreFaultless : RowRules (List (List ℕ)) RowKind → List (List (List ℕ)) → Type 0
AreFaultless rules rows = (place : ℕ) → fault_at rules rows place ≡ None

-- A row, counted from 1, has this fault, and none before it has one.
pub record IsRowFault (rules : RowRules (List (List ℕ)) RowKind) (rows : List (List (List ℕ)))
    (fault : TableFault) : Type 0 where
  pub place : ℕ
  pub kind : RowKind
  pub is_row : fault ≡ Row (place + 1) kind
  pub first : IsFirstFault rules rows place kind

-- That is the fault, or memory ran out.
abbrev pub IsRowFaultOrMemory : RowRules (List (List ℕ)) RowKind → List (List (List ℕ)) → TableFault
    → Type 0
IsRowFaultOrMemory rules rows fault = IsRowFault rules rows fault ⊎ (fault ≡ Memory)
