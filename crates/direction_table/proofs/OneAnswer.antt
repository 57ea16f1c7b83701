-- Bytes are a table of one list of directions, or have one fault, and never both.
use Rattle.std.specs.Prelude.{◌⊎◌, ◌≢◌, ◌≤◌}
use Rattle.std.proofs.Common.{◌≡◌, ◌∙◌, ℕ, suc, ◌+◌, ◌<◌, List, [], ◌∷◌, map, length, get_or}
use Rattle.std.proofs.Common.{Option, Some, None, refl, ap, sym, subst, arith, inl, inr, ℤ}
use Rattle.std.proofs.lemmas.Bool.{cases_lt}
use Rattle.std.proofs.lemmas.Option.{none-some}
use Rattle.adjust_kernel.proofs.FirstLaws.{none_or_first, one_first}
use Rattle.sheet_format.specs.RowFaults.{IsFirstFault, RowRules, fault_at}
use Rattle.sheet_format.proofs.RowFaultLaws.{past-end, same-kind, same-place}
use Rattle.direction_table.specs.TableRows.{IsOneWay, rows_read, rules_read, way_of}
use Rattle.direction_table.specs.Tables.{HasNoRowFault, IsNoneAt, IsPartText, IsTableFault}
use Rattle.direction_table.specs.Tables.{IsTableText, stated_in_table}
use Rattle.direction_table.specs.declared.fault.RowKind.{RowKind}
use Rattle.direction_table.specs.declared.fault.TableFault.{TableFault}
use Rattle.direction_table.specs.declared.fault.TableFault.TheVariants.{TooLong, Columns, Row}
use Rattle.direction_table.specs.declared.fault.TableFault.TheVariants.{Missing, Memory}
use Rattle.direction_table.specs.declared.form.TableForm.{TableForm}
use Rattle.direction_table.specs.declared.reading.TheConstants.{LONGEST_TABLE}
use Rattle.direction_table.specs.declared.unit.AngleUnit.{AngleUnit}
use Rattle.direction_table.specs.declared.way.Way.{Way}
use Rattle.direction_table.specs.declared.way.Way.TheVariants.{TwoColumns, ByColumns, MoreFit}
use Rattle.direction_table.proofs.StatedDirections.{not-missing}

-- The directions are what is stated.
same-directions : (a b : List ℤ) → map Some a ≡ map Some b → a ≡ b
same-directions [] [] e = refl
same-directions [] (y ∷ ys) e = cc e
same-directions (x ∷ xs) [] e = cc e
same-directions (x ∷ xs) (y ∷ ys) e =
    let first : x ≡ y = cc e in
    let rest : map Some xs ≡ map Some ys = cc e in
    rw (first, same-directions xs ys rest) refl

-- Where nothing is missing, all is stated.
all-stated : (stated : List (Option ℤ))
    → ((place : ℕ) → place < length stated → IsNoneAt stated place → ⊥)
    → (directions : List ℤ) × (stated ≡ map Some directions)
all-stated [] some = ([], refl)
all-stated (None ∷ rest) some = absurd (some 0 (omega arith) refl)
all-stated (Some z ∷ rest) some =
    let (zs, e) = all-stated rest (λ n below. some (suc n) (omega (arith, below))) in
    (z ∷ zs, ap (λ rest. Some z ∷ rest) e)

dec-none : {A : Type 0} (o : Option A) → Dec (o ≡ None)
dec-none None = yes refl
dec-none (Some x) = no (λ e. cc e)

-- It is known whether there is something, and where there is not, there is none.
dec-some : {A : Type 0} (o : Option A) → Dec ((x : A) × (o ≡ Some x))
dec-some None = no (λ some. none-some some.0 some.1)
dec-some (Some x) = yes (x, refl)

none-of : {A : Type 0} (o : Option A) → ((x : A) × (o ≡ Some x) → ⊥) → o ≡ None
none-of None none = refl
none-of (Some x) none = absurd (none (x, refl))

-- Several pairs of columns fit: their columns of directions, or of names, are these.
abbrev AreMore : Way → ℕ → ℕ → Type 0
AreMore way first second = way ≡ MoreFit first second

-- One pair of columns is read, or several fit.
one-or-more : (way : Way) → IsOneWay way ⊎ ((a : ℕ) × (b : ℕ) × AreMore way a b)
one-or-more TwoColumns = inl tt
one-or-more (ByColumns separator pair) = inl tt
one-or-more (MoreFit a b) = inr (a, b, refl)

-- Where several fit, no one is read.
not-one : (way : Way) (a b : ℕ) → AreMore way a b → IsOneWay way → ⊥
not-one way a b e one = subst IsOneWay e one

-- Of two such pairs, both are the same.
same-more : (way : Way) (a b c d : ℕ) → AreMore way a b → AreMore way c d → (a ≡ c) × (b ≡ d)
same-more way a b c d e f =
    let both : MoreFit a b ≡ MoreFit c d = sym e ∙ f in
    (cc both, cc both)

-- The end of a table has no fault, however it is read.
clean-end : (unit : AngleUnit) (targets : List (List ℕ)) (way : Way) (rows : List (List (List ℕ)))
    → (rules_read unit targets way).of_end rows ≡ None
clean-end unit targets TwoColumns rows = refl
clean-end unit targets (ByColumns separator pair) rows = refl
clean-end unit targets (MoreFit a b) rows = refl

-- Where several pairs fit, no row is read.
no-rows : (unit : AngleUnit) (targets : List (List ℕ)) (bytes : List ℕ) (way : Way) (a b : ℕ)
    → AreMore way a b → rows_read unit targets bytes way ≡ []
no-rows unit targets bytes way a b e = ap (rows_read unit targets bytes) e

module _ (form : TableForm) (targets : List (List ℕ)) (bytes : List ℕ) where
  abbrev way : Way
  way = way_of form targets bytes

  abbrev rows : List (List (List ℕ))
  rows = rows_read form.unit targets bytes way

  abbrev rules : RowRules (List (List ℕ)) RowKind
  rules = rules_read form.unit targets way

  abbrev stated : List (Option ℤ)
  stated = stated_in_table form targets bytes

  abbrev HasFault : ℕ → Type 0
  HasFault place = (kind : RowKind) × (fault_at rules rows place ≡ Some kind)

  -- Past the last row there is no fault.
  past-rows : (place : ℕ) → length rows ≤ place → fault_at rules rows place ≡ None
  past-rows place past = past-end rules rows place past ∙ clean-end form.unit targets way rows

  -- Where several pairs fit, no row has a fault.
  no-row-fault : (a b : ℕ) → AreMore way a b → (place : ℕ) (kind : RowKind)
      → IsFirstFault rules rows place kind → ⊥
  no-row-fault a b more place kind found =
      let none : length rows ≡ 0 = ap length (no-rows form.unit targets bytes way a b more) in
      none-some kind (sym (past-rows place (omega (arith, none))) ∙ found.here)

  -- Bytes are a table of one list of directions at most.
  pub one-table : (a b : List ℤ) → IsTableText form targets bytes a
      → IsTableText form targets bytes b → a ≡ b
  one-table a b s t = same-directions a b (sym s.stated ∙ t.stated)

  -- Of a part they state one list too,
  pub one-part : (a b : List (Option ℤ)) → IsPartText form targets bytes a
      → IsPartText form targets bytes b → a ≡ b
  one-part a b s t = sym s.stated ∙ t.stated

  -- and have no fault but a missing target.
  pub part-or-fault : (directions : List (Option ℤ)) (fault : TableFault)
      → IsPartText form targets bytes directions → IsTableFault form targets bytes fault
      → ((number : ℕ) → fault ≢ Missing number) → ⊥
  part-or-fault directions TooLong text fault other = omega (arith, text.short, fault)
  part-or-fault directions (Columns first second) text fault other =
      let (short, a, b, of_first, of_second, more) = fault in
      not-one way a b more text.one_way
  part-or-fault directions (Row number kind) text fault other =
      let (short, place, counted, found) = fault in
      none-some kind (sym (text.faultless place) ∙ found.here)
  part-or-fault directions (Missing number) text fault other = other number refl
  part-or-fault directions Memory text fault other = fault

  -- Bytes that are a table have no fault.
  pub never-both : (directions : List ℤ) (fault : TableFault)
      → IsTableText form targets bytes directions → IsTableFault form targets bytes fault → ⊥
  never-both directions (Missing number) text fault =
      let (short, one, clean, absent) = fault in
      let (place, counted, first) = absent in
      let missing = rw text.stated at first in
      not-missing directions place missing.inside missing.here
  never-both directions TooLong text fault =
      part-or-fault (map Some directions) TooLong text fault (λ n e. cc e)
  never-both directions (Columns first second) text fault =
      part-or-fault (map Some directions) (Columns first second) text fault (λ n e. cc e)
  never-both directions (Row number kind) text fault =
      part-or-fault (map Some directions) (Row number kind) text fault (λ n e. cc e)
  never-both directions Memory text fault = fault

  -- Bytes have one fault at most.
  pub one-fault : (f g : TableFault) → IsTableFault form targets bytes f
      → IsTableFault form targets bytes g → f ≡ g
  one-fault TooLong TooLong a b = refl
  one-fault (Columns i j) (Columns m n) f g =
      let (short, a, b, is_a, is_b, more) = f in
      let (short2, c, d, is_c, is_d, more2) = g in
      let (first, second) = same-more way a b c d more more2 in
      let one : i ≡ m = omega (arith, is_a, is_c, first) in
      let other : j ≡ n = omega (arith, is_b, is_d, second) in
      rw (one, other) refl
  one-fault (Columns i j) (Row n k) f g =
      let (short, a, b, is_a, is_b, more) = f in
      let (short2, p, at_p, found) = g in
      absurd (no-row-fault a b more p k found)
  one-fault (Row n k) (Columns i j) f g =
      let (short, a, b, is_a, is_b, more) = g in
      let (short2, p, at_p, found) = f in
      absurd (no-row-fault a b more p k found)
  one-fault (Columns i j) (Missing n) f g =
      let (short, a, b, is_a, is_b, more) = f in
      absurd (not-one way a b more g.1)
  one-fault (Missing n) (Columns i j) f g =
      let (short, a, b, is_a, is_b, more) = g in
      absurd (not-one way a b more f.1)
  one-fault (Row n j) (Row m k) a b =
      let (short, p, at_p, one) = a in
      let (short2, q, at_q, two) = b in
      let place = same-place rules rows p q j k one two in
      let number : n ≡ m = omega (arith, at_p, at_q, place) in
      rw (number, same-kind rules rows p q j k one two place) refl
  one-fault (Row n j) (Missing m) a b =
      let (short, p, at_p, found) = a in
      let (short2, one, clean, missing) = b in
      absurd (none-some j (sym (clean p) ∙ found.here))
  one-fault (Missing n) (Row m k) a b =
      let (short, p, at_p, found) = b in
      let (short2, one, clean, missing) = a in
      absurd (none-some k (sym (clean p) ∙ found.here))
  one-fault (Missing n) (Missing m) a b =
      let (p, at_p, one) = a.3 in
      let (q, at_q, two) = b.3 in
      let place = one_first (IsNoneAt stated) (length stated) p q one two in
      let number : n ≡ m = omega (arith, at_p, at_q, place) in
      rw number refl
  one-fault f g a b = absurd (grind arith)

  -- Bytes are a table of the targets or have a fault.
  abbrev TableOrFault : Type 0
  TableOrFault = ((directions : List ℤ) × IsTableText form targets bytes directions)
      ⊎ ((fault : TableFault) × IsTableFault form targets bytes fault)

  by-targets : length bytes ≤ LONGEST_TABLE → IsOneWay way → HasNoRowFault form targets bytes
      → TableOrFault
  by-targets short one clean =
      elim (none_or_first (IsNoneAt stated) (λ place. dec-none (get_or stated place None))
      (length stated)) [
        | inl some ↦
            let (directions, all) = all-stated stated some in
            inl (
              directions,
              record { short = short; one_way = one; faultless = clean; stated = all },
            )
        | inr first ↦ inr (
          Missing (first.0 + 1),
          (short, one, clean, (first.0, refl, first.1)),
        )
      ]

  by-rows : length bytes ≤ LONGEST_TABLE → IsOneWay way → TableOrFault
  by-rows short one =
      elim (none_or_first HasFault (λ place. dec-some (fault_at rules rows place))
      (length rows)) [
        | inl clean ↦ by-targets short one (λ place. elim (cases_lt place (length rows)) [
          | inl inside ↦ none-of _ (clean place inside)
          | inr past ↦ past-rows place past
        ])
        | inr first ↦ inr (
          Row (first.0 + 1) first.1.here.0,
          (
            short,
            first.0,
            refl,
            record {
              here = first.1.here.1;
              before = λ earlier below. none-of _ (first.1.before earlier below);
            },
          ),
        )
      ]

  by-way : length bytes ≤ LONGEST_TABLE → TableOrFault
  by-way short = elim (one-or-more way) [
    | inl one ↦ by-rows short one
    | inr more ↦ inr (
      Columns (more.0 + 1) (more.1 + 1),
      (short, more.0, more.1, refl, refl, more.2),
    )
  ]

  pub table-or-fault : TableOrFault
  table-or-fault = elim (cases_lt LONGEST_TABLE (length bytes)) [
    | inl long ↦ inr (TooLong, long)
    | inr short ↦ by-way short
  ]
