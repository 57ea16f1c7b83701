-- An answer and the note of its table, apart from each other.
use Rattle.std.specs.Prelude.{◌≡◌, List, ℕ, [], Result, Ok, Err}
use Rattle.station_compare.specs.Refusals.{unhinted}
use Rattle.station_compare.specs.declared.fault.CompareFault.TheVariants.{Memory}
use Rattle.station_compare.specs.declared.refusal.Refusal.{Refusal}
use Rattle.table_answers.specs.declared.noted.Noted.{Noted}

-- What is made of the answer, and its note; or that there was no memory for it; and a refusal
-- stays. Where there is no answer the note has no byte.
abbrev pub ArePartsOf : {T : Type 0} → (T → T → Type 0) → Result (Noted T) Refusal
    → Result T Refusal → List ℕ → Type 0
ArePartsOf Made (Ok noted) (Ok whole) note = Made noted.answer whole × (note ≡ noted.note.items)
ArePartsOf Made (Ok noted) (Err refusal) note = (refusal ≡ unhinted Memory) × (note ≡ [])
ArePartsOf Made (Err refusal) whole note = (whole ≡ Err refusal) × (note ≡ [])
