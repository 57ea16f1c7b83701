use Rattle.std.proofs.Common.{◌≡◌, ◌++◌, flat_map, map, take}
use Rattle.report_notes.specs.Notes.{NoteValue, note_value}
use Rattle.station_report.specs.NoteTexts.{note_text}
use Rattle.station_report.proofs.notes.push_lines.Given as goal

abbrev pub invariant-loop-line : goal.invariant-loop-line
invariant-loop-line l = l.text.items ≡ l.fn.text.items
    ++ flat_map (λ (note : NoteValue). note_text note.key note.text)
    (map note_value (take l.line-index l.lines))
