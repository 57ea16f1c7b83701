-- Each record takes a byte of the text, whatever separates its fields, so the records of a text are
-- its first one and those of the rest.
use Rattle.std.proofs.Common.{◌≡◌, ℕ, zero, suc, ◌<◌, ◌≤◌, true, false, List, []}
use Rattle.std.proofs.Common.{◌∷◌, length, Option, Some, None, IfSome, refl, ap, arith, add-one}
use Rattle.std.proofs.Common.{inl, inr}
use Rattle.std.proofs.lemmas.Bool.{cases_Bool}
use Rattle.std.proofs.lemmas.Option.{same_Some}
use Rattle.csv.specs.Machine.{Read, next_record, step, is_end, ends_at_end}
use Rattle.csv.specs.Reading.{records, records_from, records_next}
use Rattle.csv.specs.declared.parser.State.{State}
use Rattle.csv.specs.declared.parser.State.TheVariants as st
use Rattle.direction_table.specs.ByteSteps.{config_with}

-- The state after a record ends none at the end of the text.
step-well : (d c : ℕ) (s : State) → is_end (step (config_with d) s c).1 ≡ true
    → ends_at_end (step (config_with d) s c).0 ≡ false
step-well d c s e = grind arith

-- What a record leaves: a state that ends no record, and no more bytes.
abbrev pub Leaves : State → List ℕ → Read → Type 0
Leaves s xs p = (length p.2 ≤ length xs) × (ends_at_end p.1 ≡ false)
    × (ends_at_end s ≡ false → length p.2 < length xs)

-- So it is with each record that is read; it takes a byte where it began in such a state.
next-leaves : (d : ℕ) (s : State) (fields : List (List ℕ)) (field xs : List ℕ) (p : Read)
    → next_record (config_with d) s fields field xs ≡ Some p → Leaves s xs p
unfolding next_record
next-leaves d s fields field [] p e = elim (cases_Bool (ends_at_end s)) [
  | inl h ↦ rw (← same_Some _ p (rw h at e)) (omega arith, refl, λ z. cc)
  | inr h ↦ let none = rw h at e in cc
]
next-leaves d s fields field (c ∷ rest) p e =
    elim (cases_Bool (is_end (step (config_with d) s c).1)) [
      | inl h ↦ rw (← same_Some _ p (rw h at e))
          (omega arith, step-well d c s h, λ z. omega arith)
      | inr h ↦ let l = next-leaves d (step (config_with d) s c).0 _ _ rest p
          (rw h at e) in
          (omega (arith, l.0), l.1, λ z. omega (arith, l.0))
    ]

-- A line feed after a carriage return is passed over, as before any record.
after-return : (d c : ℕ) → step (config_with d) st.AfterCr c ≡ step (config_with d) st.StartRecord c
after-return d c = grind arith

-- So the next record is the same from either state between records.
between : (d : ℕ) (s : State) (xs : List ℕ) → ends_at_end s ≡ false
    → next_record (config_with d) s [] [] xs ≡ next_record (config_with d) st.StartRecord [] [] xs
unfolding next_record
between d st.StartRecord xs h = refl
between d st.AfterCr [] h = refl
between d st.AfterCr (c ∷ rest) h = rw (after-return d c) refl
between d s xs h = cc h

-- Records are the same, where enough may be read.
same-records : (d n m : ℕ) (s : State) (xs : List ℕ) → ends_at_end s ≡ false → length xs < n
    → length xs < m → records_from (config_with d) n s xs ≡ records_from (config_with d) m s xs
unfolding records_from
same-records d zero m s xs a n-room m-room = absurd (omega (arith, n-room))
same-records d (suc n) zero s xs a n-room m-room = absurd (omega (arith, m-room))
same-records d (suc n) (suc m) s xs a n-room m-room =
    by (next_record (config_with d) s [] [] xs) refl (λ p. same-records d n m p.1 p.2)
  where
    by : (o : Option Read) → next_record (config_with d) s [] [] xs ≡ o
        → ((p : Read) → ends_at_end p.1 ≡ false → length p.2 < n → length p.2 < m
        → records_from (config_with d) n p.1 p.2 ≡ records_from (config_with d) m p.1 p.2)
        → records_next (records_from (config_with d) n) o
        ≡ records_next (records_from (config_with d) m) o
    by None e after = refl
    by (Some p) e after =
        let l = next-leaves d s [] [] xs p e in
        let shorter = l.2 a in
        ap (λ rows. p.0 ∷ rows)
        (after p l.1 (omega (arith, n-room, shorter)) (omega (arith, m-room, shorter)))

-- The records of a text are its first one, if it has one, and those of the rest.
pub records_more : (d : ℕ) (xs : List ℕ) → records (config_with d) xs
    ≡ records_next (λ s rest. records (config_with d) rest)
    (next_record (config_with d) st.StartRecord [] [] xs)
unfolding records_from
records_more d xs =
    rw (add-one (length xs)) (by (next_record (config_with d) st.StartRecord [] [] xs) refl)
  where
    by : (o : Option Read) → next_record (config_with d) st.StartRecord [] [] xs ≡ o
        → records_next (records_from (config_with d) (length xs)) o
        ≡ records_next (λ s rest. records (config_with d) rest) o
    by None e = refl
    by (Some p) e =
        let l = next-leaves d st.StartRecord [] [] xs p e in
        ap (λ rows. p.0 ∷ rows) (rw (add-one (length p.2), ← between d p.1 p.2 l.1)
        (same-records d (length xs) (suc (length p.2)) p.1 p.2 l.1 (l.2 refl) (omega arith)))

-- Its first record takes a byte.
pub first_shorter : (d : ℕ) (xs : List ℕ)
    → IfSome (next_record (config_with d) st.StartRecord [] [] xs) (λ p. length p.2 < length xs)
first_shorter d xs = by (next_record (config_with d) st.StartRecord [] [] xs) refl
  where
    by : (o : Option Read) → next_record (config_with d) st.StartRecord [] [] xs ≡ o
        → IfSome o (λ p. length p.2 < length xs)
    by None e = tt
    by (Some p) e = (next-leaves d st.StartRecord [] [] xs p e).2 refl
