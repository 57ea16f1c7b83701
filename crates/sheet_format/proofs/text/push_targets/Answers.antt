use Rattle.std.proofs.Common.{List, ℕ, ◌++◌, map, take, subst}
use Rattle.std.proofs.lemmas.List.{take_all}
use Rattle.sheet_format.specs.Rows.{target_fields}
use Rattle.sheet_format.specs.Texts.{HasWritten, rows_text}
use Rattle.sheet_format.proofs.TextRows.{entry-more}
use Rattle.sheet_format.proofs.text.push_targets.Goals as goal

pub loop-direction-preserved : goal.loop-direction-preserved
loop-direction-preserved g c text h =
    let before = text ++ rows_text (map target_fields
    (take c.loop-direction.direction-index c.args.directions.now)) in
    let written = c.in_ok-push_target.ensures before (c.loop-direction.invariant text h) in
    let more = entry-more target_fields text c.args.directions.now c.loop-direction.direction-index
    c.direction-item.result c.direction-item.is c.loop-direction-test.true in
    subst (λ (t : List ℕ). HasWritten {W = g.row.W.Denot} g.W.Write.contents
    c.push_target.new.writer t) more written

pub returns : goal.returns
returns g c text h =
    let whole = take_all c.loop-direction.direction-index c.args.directions.now
    c.loop-direction-test.false in
    rw whole at (c.loop-direction.invariant text h)
