-- The next record of a text, byte by byte: what is left of it after each.
use Rattle.std.proofs.Common.{◌≡◌, ℕ, ◌+◌, ◌<◌, ◌≤◌, List, [], ◌∷◌, ◌++◌, length, get_or, drop}
use Rattle.std.proofs.Common.{Option, Some, None, refl}
use Rattle.std.specs.Prelude.{if◌then◌else◌}
use Rattle.std.proofs.lemmas.List.{drop_all, drop_more, take_rest}
use Rattle.csv.specs.Machine.{Read, ends_at_end, field_after, fields_after, is_end, next_record}
use Rattle.csv.specs.Machine.{step}
use Rattle.csv.specs.declared.parser.Action.{Action}
use Rattle.csv.specs.declared.parser.State.{State}
use Rattle.csv.specs.declared.parser.State.TheVariants as st
use Rattle.direction_table.specs.ByteSteps.{config_with}
use Rattle.direction_table.proofs.RecordSteps.{first_shorter, records_more}

-- What a byte does with the record that is read, by what the machine says of it.
abbrev pub after_byte : ℕ → State × Action → ℕ → List (List ℕ) → List ℕ → List ℕ → Option Read
after_byte d said byte fields field rest =
    if is_end said.1 then Some (fields_after said.1 fields field, said.0, rest)
    else next_record (config_with d) said.0 (fields_after said.1 fields field)
    (field_after said.1 byte field) rest

module _ (d : ℕ) (from : State) (fields : List (List ℕ)) (field text : List ℕ) (at : ℕ) where
  -- The next record, of which so much was read, by the byte at a place.
  pub byte_more : at < length text
      → next_record (config_with d) from fields field (drop at text)
      ≡ after_byte d (step (config_with d) from (get_or text at 0)) (get_or text at 0) fields field
      (drop (at + 1) text)
  unfolding next_record
  byte_more inside = rw (drop_more text at 0 inside) refl

  -- Where the text ends in a record, this is the last one; else there is none.
  pub text_end : length text ≤ at
      → next_record (config_with d) from fields field (drop at text)
      ≡ (if ends_at_end from then Some (fields ++ (field ∷ []), st.StartRecord, []) else None)
  unfolding next_record
  text_end past = rw (drop_all at text past) refl

-- By these a reader of records is proved.
pub ruleset byte_by_byte = (byte_more, text_end, records_more, first_shorter, take_rest)
