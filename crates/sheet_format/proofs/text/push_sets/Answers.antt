use Rattle.std.proofs.Common.{List, ℕ, ◌++◌, map, take, subst}
use Rattle.std.proofs.lemmas.List.{take_all}
use Rattle.sheet_format.specs.Rows.{set_fields}
use Rattle.sheet_format.specs.Texts.{HasWritten, rows_text}
use Rattle.sheet_format.proofs.TextRows.{entries-more}
use Rattle.sheet_format.proofs.text.push_sets.Goals as goal

pub loop-orientation-preserved : goal.loop-orientation-preserved
loop-orientation-preserved g c text h =
    let before = text ++ rows_text (map set_fields
    (take c.loop-orientation.orientation-index c.args.orientations.now)) in
    let written = c.in_ok-push_set.ensures before (c.loop-orientation.invariant text h) in
    let more = entries-more set_fields text c.args.orientations.now
    c.loop-orientation.orientation-index _ c.loop-orientation-test.true in
    subst (λ (t : List ℕ). HasWritten {W = g.row.W.Denot} g.W.Write.contents c.push_set.new.writer
    t) more written

pub returns : goal.returns
returns g c text h =
    let whole = take_all c.loop-orientation.orientation-index c.args.orientations.now
    c.loop-orientation-test.false in
    rw whole at (c.loop-orientation.invariant text h)
