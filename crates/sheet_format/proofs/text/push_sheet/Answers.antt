use Rattle.std.proofs.Common.{List, ℕ, ◌++◌, map, subst}
use Rattle.csv.specs.Writing.{default_writer, row_text}
use Rattle.sheet_format.specs.Rows.{obs_fields, set_fields, sheet_fields, target_fields}
use Rattle.sheet_format.specs.Texts.{HasWritten, rows_text, version_for}
use Rattle.sheet_format.proofs.TextRows.{on_ok, parts-joined}
use Rattle.sheet_format.proofs.text.push_sheet.Goals as goal

pub returns-clause-ok : goal.returns-clause-ok
returns-clause-ok g c =
    let s = c.args.sheet.now in
    let header = rw (
      c.for_sheet.ensures,
      c.name.ensures.value,
      c.denominator.ensures.value,
    ) at c.in_ok-push_header.ensures in
    let targets = rw c.directions.ensures.value at c.in_ok-push_targets.ensures in
    let sets = rw c.orientations.ensures.value at c.in_ok-push_sets.ensures in
    let first = row_text default_writer (sheet_fields (version_for s) s.name s.denominator) in
    on_ok c.push_obs.result
    (λ (obs : (text : List ℕ) → HasWritten {W = g.row.W.Denot} g.W.Write.contents
    c.push_sets.new.writer text → HasWritten {W = g.row.W.Denot} g.W.Write.contents
    c.push_obs.new.writer (text ++ rows_text (map obs_fields s.rows))) (text : List ℕ) h.
    subst (λ (t : List ℕ). HasWritten {W = g.row.W.Denot} g.W.Write.contents c.push_obs.new.writer
    t)
    (parts-joined text first (map target_fields s.directions) (map set_fields s.orientations)
    (map obs_fields s.rows))
    (obs (((text ++ first) ++ rows_text (map target_fields s.directions))
    ++ rows_text (map set_fields s.orientations))
    (sets ((text ++ first) ++ rows_text (map target_fields s.directions))
    (targets (text ++ first) (header text h)))))
    (rw c.rows.ensures.value at c.push_obs.ensures)
