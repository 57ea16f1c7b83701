-- The rows that a reader has left, among which the row of titles is looked for.
use Rattle.std.proofs.Common.{◌≡◌, ℕ, zero, suc, ◌+◌, ◌<◌, ◌≤◌, true, false, List, [], ◌∷◌}
use Rattle.std.proofs.Common.{length, length-append, Option, Some, None, refl, arith}
use Rattle.std.proofs.Common.{inl, inr}
use Rattle.std.specs.Prelude.{find, unwrap_or}
use Rattle.std.proofs.lemmas.Bool.{cases_Bool}
use Rattle.std.proofs.lemmas.Option.{same_Some}
use Rattle.csv.specs.Machine.{Read, next_record, step, is_end, ends_at_end, fields_after}
use Rattle.csv.specs.Reading.{ReadRecord, Reached, records_from, source_of, strip_bom}
use Rattle.csv.specs.declared.parser.Action.{Action}
use Rattle.csv.specs.declared.parser.Action.TheVariants as act
use Rattle.csv.specs.declared.parser.Config.{Config}
use Rattle.csv.specs.declared.parser.State.{State}
use Rattle.csv.specs.declared.parser.State.TheVariants as st
use Rattle.csv.specs.declared.reader.Reader.{Reader}
use Rattle.csv.proofs.ReadFacts.{rows-end, rows-more}
use Rattle.direction_table.specs.ByteSteps.{config_with}
use Rattle.table_titles.specs.Titles.{has_title, title_row_by}

-- The state after a record ends none at the end of the text.
step-well : (d c : ℕ) (s : State) → is_end (step (config_with d) s c).1 ≡ true
    → ends_at_end (step (config_with d) s c).0 ≡ false
step-well d c s e = grind arith

-- A byte adds one field at most.
one-more : (a : Action) (fields : List (List ℕ)) (field : List ℕ)
    → length (fields_after a fields field) ≤ length fields + 1
one-more act.EndField fields field = rw (length-append fields (field ∷ [])) (omega arith)
one-more act.Skip fields field = omega arith
one-more act.Copy fields field = omega arith
one-more act.EndRecord fields field = rw (length-append fields (field ∷ [])) (omega arith)

-- What a record leaves: a state that ends no record, and no more bytes; it has one field more than
-- bytes at most.
record Leaves (s : State) (fields : List (List ℕ)) (xs : List ℕ) (p : Read) : Type 0 where
  fewer : length p.2 ≤ length xs
  well : ends_at_end p.1 ≡ false
  shorter : ends_at_end s ≡ false → length p.2 < length xs
  few : length p.0 ≤ length fields + length xs + 1

-- So it is with each record that is read; it takes a byte where it began in such a state.
next-leaves : (d : ℕ) (s : State) (fields : List (List ℕ)) (field xs : List ℕ) (p : Read)
    → next_record (config_with d) s fields field xs ≡ Some p → Leaves s fields xs p
unfolding next_record
next-leaves d s fields field [] p e = elim (cases_Bool (ends_at_end s)) [
  | inl h ↦ rw (← same_Some _ p (rw h at e)) (record {
    fewer = omega arith;
    well = refl;
    shorter = λ z. cc;
    few = rw (length-append fields (field ∷ [])) (omega arith);
  })
  | inr h ↦ let none = rw h at e in cc
]
next-leaves d s fields field (c ∷ rest) p e =
    let more = one-more (step (config_with d) s c).1 fields field in
    elim (cases_Bool (is_end (step (config_with d) s c).1)) [
      | inl h ↦ rw (← same_Some _ p (rw h at e)) (record {
        fewer = omega arith;
        well = step-well d c s h;
        shorter = λ z. omega arith;
        few = omega (arith, more);
      })
      | inr h ↦ let l = next-leaves d (step (config_with d) s c).0 _ _ rest p (rw h at e) in
          record {
            fewer = omega (arith, l.fewer);
            well = l.well;
            shorter = λ z. omega (arith, l.fewer);
            few = omega (arith, l.few, more);
          }
    ]

-- One read of a reader is a step of the text that it has left.
joined : (o : Option Read) (p : Read) (f : List (List ℕ)) (s : State) (z : List ℕ) → o ≡ Some p
    → f ≡ p.0 → p.1 ≡ s → p.2 ≡ z → o ≡ Some (f, s, z)
joined o p f s z e a b c = rw (e, a, ← b, ← c) refl

row-read : {R : Type 0} (cfg : Config) (rem : R → Option (List ℕ)) (a b : Reader R)
    (f : List (List ℕ)) (y : List ℕ) → a.config ≡ cfg → source_of rem a ≡ Some y
    → ReadRecord rem a b true f
    → (z : List ℕ) × (source_of rem b ≡ Some z)
    × (next_record cfg a.state [] [] y ≡ Some (f, b.state, z))
unfolding Reached
row-read cfg rem a b f y ec ex r =
    let m = rows-more rem a b f cfg a.state y y [] ec ex (refl, refl) r in
    let (p, next, same, rest) = m.2 in
    (m.0, m.1, joined _ p f b.state m.0 next same rest.0 rest.1)

-- Where no row was the one so far, it is the first with the title of those that are left.
pub record IsLeft {R : Type 0} (rem : R → Option (List ℕ)) (title bytes : List ℕ) (d : ℕ)
    (reader : Reader R) : Type 0 where
  pub well : ends_at_end reader.state ≡ false
  pub text : List ℕ
  pub source : source_of rem reader ≡ Some text
  pub short : length text ≤ length bytes
  pub count : ℕ
  pub room : length text < count
  pub found : find (has_title title) (records_from (config_with d) count reader.state text)
      ≡ title_row_by title bytes d

-- A mark at the start of a text is some of its bytes.
strip-short : (xs : List ℕ) → length (strip_bom xs) ≤ length xs
unfolding strip_bom
strip-short [] = omega arith
strip-short (a ∷ []) = omega arith
strip-short (a ∷ b ∷ []) = omega arith
strip-short (a ∷ b ∷ c ∷ rest) = grind arith

-- Before a row is read all are left.
pub left-all : {R : Type 0} (rem : R → Option (List ℕ)) (title bytes : List ℕ) (d : ℕ)
    (reader : Reader R) → reader.state ≡ st.StartRecord
    → source_of rem reader ≡ Some (strip_bom bytes) → IsLeft rem title bytes d reader
unfolding title_row_by
left-all rem title bytes d reader start source = record {
  well = rw start refl;
  text = strip_bom bytes;
  source = source;
  short = strip-short bytes;
  count = length (strip_bom bytes) + 1;
  room = omega arith;
  found = rw start refl;
}

-- A row that was read of those that were left.
pub record IsTaken {R : Type 0} (rem : R → Option (List ℕ)) (title bytes : List ℕ) (d : ℕ)
    (a b : Reader R) (row : List (List ℕ)) : Type 0 where
  pub shorter : length (unwrap_or (source_of rem b) []) < length (unwrap_or (source_of rem a) [])
  pub few : length row ≤ length bytes + 1
  pub is : has_title title row ≡ true → Some row ≡ title_row_by title bytes d
  pub more : has_title title row ≡ false → IsLeft rem title bytes d b

-- The rows that are left are it and those that are left after it.
split : (d n : ℕ) (s : State) (xs : List ℕ) (p : Read)
    → next_record (config_with d) s [] [] xs ≡ Some p → length xs < n → length p.2 < length xs
    → (m : ℕ) × (records_from (config_with d) n s xs ≡ p.0 ∷ records_from (config_with d) m p.1 p.2)
    × (length p.2 < m)
unfolding records_from
split d zero s xs p e room shorter = absurd (omega (arith, room))
split d (suc m) s xs p e room shorter = (m, rw e refl, omega (arith, room, shorter))

pub taken : {R : Type 0} (rem : R → Option (List ℕ)) (title bytes : List ℕ) (d : ℕ)
    (a b : Reader R) (row : List (List ℕ)) → a.config ≡ config_with d → IsLeft rem title bytes d a
    → ReadRecord rem a b true row → IsTaken rem title bytes d a b row
taken rem title bytes d a b row config left read =
    let (z, at-z, next) = row-read (config_with d) rem a b row left.text config left.source read in
    let l = next-leaves d a.state [] [] left.text (row, b.state, z) next in
    let shorter : length z < length left.text = l.shorter left.well in
    let (m, is, room) = split d left.count a.state left.text (row, b.state, z) next left.room
    shorter in
    let found : find (has_title title) (row ∷ records_from (config_with d) m b.state z)
    ≡ title_row_by title bytes d
    = rw is at left.found in
    record {
      shorter = rw (at-z, left.source) shorter;
      few = omega (arith, l.few, left.short);
      is = λ has. rw has at found;
      more = λ no. record {
        well = l.well;
        text = z;
        source = at-z;
        short = omega (arith, shorter, left.short);
        count = m;
        room = room;
        found = rw no at found;
      };
    }

-- Where no record can be read, none is left.
records-none : (d n : ℕ) (s : State) (xs : List ℕ) → next_record (config_with d) s [] [] xs ≡ None
    → records_from (config_with d) n s xs ≡ []
unfolding records_from
records-none d zero s xs e = refl
records-none d (suc m) s xs e = rw e refl

-- Where no row was read, none is the one.
pub none-left : {R : Type 0} (rem : R → Option (List ℕ)) (title bytes : List ℕ) (d : ℕ)
    (a b : Reader R) (row : List (List ℕ)) → a.config ≡ config_with d → IsLeft rem title bytes d a
    → ReadRecord rem a b false row
    → ◌≡◌ {A = Option (List (List ℕ))} None (title_row_by title bytes d)
none-left rem title bytes d a b row config left read =
    let end = rows-end rem a b row (config_with d) left.text config left.source read in
    let none = records-none d left.count a.state left.text end in
    rw none at left.found
