-- Rows that are read one after the other: none of them has a fault, and what the next row or the
-- end says of the whole.
use Rattle.std.proofs.Common.{◌≡◌, ◌∙◌, ℕ, ◌+◌, List, [], ◌∷◌, ◌++◌, length, Option, Some}
use Rattle.std.proofs.Common.{None, refl, ap, sym, subst, arith, inl, inr, ℤ, length-append}
use Rattle.std.proofs.Common.{append_assoc}
use Rattle.std.proofs.lemmas.Bool.{cases_lt}
use Rattle.std.proofs.lemmas.List.{append-nil}
use Rattle.sheet_format.specs.RowFaults.{IsFirstFault, NoFaultBefore, RowRules, fault_between}
use Rattle.sheet_format.proofs.RowFaultLaws.{faultless-more, first-here, past-end}
use Rattle.direction_table.specs.FaultsOfRows.{AreFaultless}
use Rattle.direction_table.specs.Tables.{stated_by}
use Rattle.direction_table.specs.UsualLimits.{finer, finest_step, row_step}
use Rattle.direction_table.proofs.UsualLimits.{finer-again, finer-none}
use Rattle.direction_table.specs.declared.fault.RowKind.{RowKind}
use Rattle.direction_table.specs.declared.unit.AngleUnit.{AngleUnit}

module _ (unit : AngleUnit) where
  -- The finest step with one more row.
  finest-more : (before : List (List (List ℕ))) (row : List (List ℕ))
      → finest_step unit (before ++ (row ∷ []))
      ≡ finer (finest_step unit before) (row_step unit row)
  finest-more [] row = finer-none (row_step unit row)
  finest-more (first ∷ before) row =
      ap (finer (row_step unit first)) (finest-more before row)
      ∙ finer-again (row_step unit first) (finest_step unit before) (row_step unit row)

  -- What rows have to keep, by the targets, where their end has no fault.
  module _ (targets : List (List ℕ))
      (of_row : List (List (List ℕ)) → List (List ℕ) → Option RowKind) where
    abbrev rules : RowRules (List (List ℕ)) RowKind
    rules = record { of_row = of_row; of_end = λ before. None }

    module _ (all : List (List (List ℕ))) where
      -- So many rows were read, none of which has a fault, and these are left.
      pub record HasReadBy (stated : List (Option ℤ)) (step number : ℕ)
          (rest : List (List (List ℕ))) : Type 0 where
        pub before : List (List (List ℕ))
        pub whole : all ≡ before ++ rest
        pub count : number ≡ length before
        pub clean : NoFaultBefore rules all (length before)
        pub each : stated ≡ stated_by unit before targets
        pub finest : step ≡ finest_step unit before

      -- Before the first row none was read, and all are left.
      pub begin : (stated : List (Option ℤ)) → stated ≡ stated_by unit [] targets
          → HasReadBy stated 0 0 all
      begin stated none = record {
        before = [];
        whole = refl;
        count = refl;
        clean = λ earlier below. absurd (omega (arith, below));
        each = none;
        finest = refl;
      }

      module _ (stated : List (Option ℤ)) (step number : ℕ) (row : List (List ℕ))
          (rest : List (List (List ℕ))) (read : HasReadBy stated step number (row ∷ rest)) where
        -- A row without a fault is read, and those after it are left.
        pub more : (next : List (Option ℤ)) (least : ℕ) → of_row read.before row ≡ None
            → next ≡ stated_by unit (read.before ++ (row ∷ [])) targets
            → least ≡ finer step (row_step unit row) → HasReadBy next least (number + 1) rest
        unfolding fault_between
        more next least none states is = record {
          before = read.before ++ (row ∷ []);
          whole = read.whole ∙ sym (append_assoc read.before (row ∷ []) rest);
          count = omega (arith, read.count, length-append read.before (row ∷ []));
          clean = λ earlier below. faultless-more rules all read.before (row ∷ rest) read.whole
              read.clean none earlier
              (omega (arith, below, length-append read.before (row ∷ [])));
          each = states;
          finest =
              is ∙ ap (λ s. finer s (row_step unit row)) read.finest
              ∙ sym (finest-more read.before row);
        }

        -- The fault of the next row is the first of all, at the number of the rows before it.
        pub here : (k : RowKind) → of_row read.before row ≡ Some k → IsFirstFault rules all number k
        unfolding fault_between
        here k found =
            subst (λ n. IsFirstFault rules all n k) (sym read.count)
            (first-here rules all read.before (row ∷ rest) read.whole read.clean k found)

      -- Where no row is left, none has a fault.
      pub clean-all : (stated : List (Option ℤ)) (step number : ℕ)
          → HasReadBy stated step number [] → AreFaultless rules all
      clean-all stated step number read =
          λ place. elim (cases_lt place (length all)) [
            | inl inside ↦ read.clean place (rw (read.whole ∙ append-nil read.before) at inside)
            | inr past ↦ past-end rules all place past
          ]

      -- They state what all state, and tell the finest step of all.
      pub stated-all : (stated : List (Option ℤ)) (step number : ℕ)
          → HasReadBy stated step number [] → stated ≡ stated_by unit all targets
      stated-all stated step number read =
          read.each ∙ ap (λ (rows : List (List (List ℕ))). stated_by unit rows targets)
          (sym (read.whole ∙ append-nil read.before))

      pub finest-all : (stated : List (Option ℤ)) (step number : ℕ)
          → HasReadBy stated step number [] → step ≡ finest_step unit all
      finest-all stated step number read =
          read.finest ∙ ap (finest_step unit) (sym (read.whole ∙ append-nil read.before))
