-- The lines of notes, one after the other.
use Rattle.std.proofs.Common.{◌≡◌, ℕ, ◌+◌, ◌<◌, ◌∙◌, List, ◌++◌, ap, flat_map, get_or}
use Rattle.std.proofs.Common.{length, map, sym, take}
use Rattle.std.proofs.lemmas.List.{flat_map_more, map_more}
use Rattle.report_notes.specs.Notes.{NoteValue, note_value}
use Rattle.report_notes.specs.declared.notes.Note.{Note}
use Rattle.station_report.specs.NoteTexts.{note_text}

-- the line of a note
abbrev pub line_of : NoteValue → List ℕ
line_of note = note_text note.key note.text

-- One note more, after those that stand after a beginning.
pub push_more : (lines : List Note) (i : ℕ) (d : Note) (first so_far more : List ℕ)
    → i < length lines → so_far ≡ first ++ flat_map line_of (map note_value (take i lines))
    → more ≡ so_far ++ line_of (note_value (get_or lines i d))
    → more ≡ first ++ flat_map line_of (map note_value (take (i + 1) lines))
push_more lines i d first so_far more inside p q =
    let passed = map note_value (take i lines) in
    let item = note_value (get_or lines i d) in
    q ∙ ap (λ (t : List ℕ). t ++ line_of item) p
    ∙ flat_map_more line_of first passed item
    ∙ ap (λ (notes : List NoteValue). first ++ flat_map line_of notes)
    (sym (map_more note_value lines i d inside))
