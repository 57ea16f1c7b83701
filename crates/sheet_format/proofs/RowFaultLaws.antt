-- The first fault of rows, as they are read one by one. It is the only one.
use Rattle.std.proofs.Common.{◌≡◌, ◌∙◌, ℕ, ◌<◌, ◌≤◌, List, ◌++◌, length, take, get_or}
use Rattle.std.proofs.Common.{◌+◌, Some, None, refl, ap, sym, arith, inl, inr}
use Rattle.std.proofs.Math.Seq.{drop-append_seam, drop-cons, take-append_seam}
use Rattle.std.proofs.lemmas.Bool.{cases_eq}
use Rattle.std.proofs.lemmas.List.{drop_all, take_all}
use Rattle.std.proofs.lemmas.Option.{none-some}
use Rattle.sheet_format.specs.RowFaults.{IsFirstFault, NoFaultBefore, RowRules, fault_at}
use Rattle.sheet_format.specs.RowFaults.{fault_between}

module _ {Row Kind : Type 0} (rules : RowRules Row Kind) where
  -- The fault at a place is that of its row, by those before it.
  pub fault-row : (rows : List Row) (place : ℕ) (d : Row) → place < length rows
      → fault_at rules rows place ≡ rules.of_row (take place rows) (get_or rows place d)
  unfolding fault_between
  fault-row rows place d below = rw (drop-cons rows place d below) refl

  -- Past the last row it is that of the end.
  pub past-end : (rows : List Row) (place : ℕ) → length rows ≤ place
      → fault_at rules rows place ≡ rules.of_end rows
  unfolding fault_between
  past-end rows place past = rw (take_all place rows past, drop_all place rows past) refl

  -- Two first faults stand at one place, and are one.
  first-of-two : (rows : List Row) (p q : ℕ) (j k : Kind) → IsFirstFault rules rows p j
      → IsFirstFault rules rows q k → p < q → ⊥
  first-of-two rows p q j k one two below = none-some j (sym (two.before p below) ∙ one.here)

  pub same-place : (rows : List Row) (p q : ℕ) (j k : Kind) → IsFirstFault rules rows p j
      → IsFirstFault rules rows q k → p ≡ q
  same-place rows p q j k one two =
      let not_before : p < q → ⊥ = first-of-two rows p q j k one two in
      let not_after : q < p → ⊥ = first-of-two rows q p k j two one in
      omega (arith, not_before, not_after)

  pub same-kind : (rows : List Row) (p q : ℕ) (j k : Kind) → IsFirstFault rules rows p j
      → IsFirstFault rules rows q k → p ≡ q → j ≡ k
  same-kind rows p q j k one two same =
      let both : Some j ≡ Some k = sym one.here ∙ ap (fault_at rules rows) same ∙ two.here in
      cc both

  module _ (all before rest : List Row) (whole : all ≡ before ++ rest)
      (none : NoFaultBefore rules all (length before)) where
    -- Where rows part, their fault is the one between those before and those left.
    fault_at-seam : fault_at rules all (length before) ≡ fault_between rules before rest
    fault_at-seam = rw (whole, take-append_seam before rest, drop-append_seam before rest) refl

    -- Where that is one, and no row before has one, it is the first.
    pub first-here : (kind : Kind) → fault_between rules before rest ≡ Some kind
        → IsFirstFault rules all (length before) kind
    first-here kind found = record { here = fault_at-seam ∙ found; before = none }

    -- Where it is none, no place up to there has one.
    pub faultless-more : fault_between rules before rest ≡ None
        → (earlier : ℕ) → earlier < length before + 1 → fault_at rules all earlier ≡ None
    faultless-more here earlier below =
        elim (cases_eq earlier (length before)) [
          | inl same ↦ ap (fault_at rules all) same ∙ fault_at-seam ∙ here
          | inr other ↦ none earlier (omega (arith, other, below))
        ]
