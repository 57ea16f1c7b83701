-- The rows of a text, byte by byte: what is left of them after each.
use Rattle.std.proofs.Common.{◌≡◌, ℕ, suc, ◌+◌, ◌-◌, ◌<◌, ◌≤◌, List, [], ◌∷◌, length, get_or, drop}
use Rattle.std.proofs.Common.{refl, ap, inl, inr, arith}
use Rattle.std.specs.Prelude.{if◌then◌else◌}
use Rattle.std.proofs.lemmas.Bool.{cases_Bool}
use Rattle.std.proofs.lemmas.List.{drop_all, drop_more}
use Rattle.csv.specs.Machine.{ends_at_end, is_end, step}
use Rattle.csv.specs.Reading.{is_bom, strip_bom}
use Rattle.csv.specs.declared.parser.Action.{Action}
use Rattle.csv.specs.declared.parser.State.{State}
use Rattle.csv.specs.declared.parser.State.TheVariants as st
use Rattle.refusal_places.specs.Rows.{begin_in, mark_size, spans_from}
use Rattle.refusal_places.specs.declared.span.Span.{Span}
use Rattle.row_forms.specs.ByteSteps.{config_with}

-- What a byte does with the row that is read, by what the machine says of it.
abbrev pub after_byte : ℕ → State × Action → ℕ → ℕ → List ℕ → List Span
after_byte d said first at rest =
    if is_end said.1
    then record { first = first; end = at }
    ∷ spans_from (config_with d) st.StartRecord (at + 1) (at + 1) rest
    else spans_from (config_with d) said.0 (begin_in said.0 first (at + 1)) (at + 1) rest

module _ (d : ℕ) (from : State) (first : ℕ) (text : List ℕ) (at : ℕ) where
  -- The rows that are left, by the byte at a place.
  pub byte_more : at < length text
      → spans_from (config_with d) from first at (drop at text)
      ≡ after_byte d (step (config_with d) from (get_or text at 0)) first at (drop (at + 1) text)
  unfolding spans_from
  byte_more inside = rw (drop_more text at 0 inside) refl

  -- Where the text ends in a row, this is the last one; else there is none.
  pub text_end : length text ≤ at
      → spans_from (config_with d) from first at (drop at text)
      ≡ (if ends_at_end from then record { first = first; end = at } ∷ [] else [])
  unfolding spans_from
  text_end past = rw (drop_all at text past) refl

-- By these a finder of rows is proved.
pub ruleset byte_by_byte = (byte_more, text_end)

-- A byte order mark at the start of a text is some of its bytes.
pub mark_short : (text : List ℕ) → length (strip_bom text) ≤ length text
unfolding strip_bom
mark_short [] = omega arith
mark_short (a ∷ []) = omega arith
mark_short (a ∷ b ∷ []) = omega arith
mark_short (a ∷ b ∷ c ∷ rest) = grind arith

-- What stands after a byte order mark.
pub after_mark : (text : List ℕ) → drop (mark_size text) text ≡ strip_bom text
unfolding strip_bom
after_mark [] = refl
after_mark (a ∷ []) = refl
after_mark (a ∷ b ∷ []) = refl
after_mark (a ∷ b ∷ c ∷ rest) = elim (cases_Bool (is_bom a b c)) [
  | inl h ↦ rw h (ap (λ (k : ℕ). drop k (a ∷ b ∷ c ∷ rest)) (three (length rest)))
  | inr h ↦ rw h (ap (λ (k : ℕ). drop k (a ∷ b ∷ c ∷ rest)) (none (length rest)))
] where
  three : (n : ℕ) → suc (suc (suc n)) - n ≡ 3
  three n = omega arith

  none : (n : ℕ) → suc (suc (suc n)) - suc (suc (suc n)) ≡ 0
  none n = omega arith
