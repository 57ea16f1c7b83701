-- What a text in memory holds.
use Rattle.std.specs.Prelude.{ℕ, Bool, List, Result, Ok, Err, Vec}
use Rattle.std.specs.Global.{Global}
use Rattle.station_page.specs.declared.text.Text.{Text}
use Rattle.table_answers.specs.declared.noted.Noted.{Noted}

-- the bytes that were written to it
abbrev pub text_of : Text → List ℕ
text_of t = t.bytes.items

-- whether a call of it has failed
abbrev pub has_failed : Text → Bool
has_failed t = t.has_failed

-- whether all that was written is flushed
abbrev pub is_flushed : Text → Bool
is_flushed t = t.is_flushed

-- an answer, without where it lies in memory
abbrev pub value_in : {T V F : Type 0} → (T → V) → Result T F → Result V F
value_in value (Ok x) = Ok (value x)
value_in value (Err fault) = Err fault

-- an answer in memory, as its bytes
abbrev pub bytes_in : {F : Type 0} → Result (Vec ℕ Global) F → Result (List ℕ) F
bytes_in answer = value_in (λ (text : Vec ℕ Global). text.items) answer

-- what is answered beside a table, and the note of it, without where they lie in memory
abbrev pub noted_value : {T V F : Type 0} → (T → V) → Result (Noted T) F
    → Result (V × List ℕ) F
noted_value value (Ok noted) = Ok (value noted.answer, noted.note.items)
noted_value value (Err fault) = Err fault
