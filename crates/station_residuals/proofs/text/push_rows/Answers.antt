use Rattle.std.proofs.Common.{List, ℕ, ◌++◌, ◌*◌, ◌∙◌, ap, map, take, subst, FitsSigned, rules}
use Rattle.std.specs.Int.{w32}
use mir.Val.{to_z, of_z}
use Rattle.std.proofs.lemmas.Int.{to_z-of_z}
use Rattle.std.proofs.lemmas.List.{take_all}
use Rattle.angle_texts.specs.MgonTexts.{mgon_text}
use Rattle.direction_table.specs.Texts.{direction_text}
use Rattle.sheet_format.specs.Texts.{HasWritten, rows_text}
use Rattle.sheet_format.proofs.TextRows.{entry-more}
use Rattle.station_residuals.specs.ResidualTexts.{row_of}
use Rattle.station_residuals.proofs.text.push_rows.Goals as goal

pub loop-row-preserved : goal.loop-row-preserved
loop-row-preserved g c text h =
    let row = c.row-item.result in
    let fits : FitsSigned w32 row.residual = search rules in
    let number = c.as_bytes.ensures.value ∙ c.format.ensures.text in
    let direction = c.as_slice.ensures.value ∙ c.in_ok-push_gon.ensures.added
    ∙ ap (λ (t : List ℕ). t ++ direction_text 6 (5_000 * c.from.result)) c.clear.ensures.items
    ∙ ap (λ (n : ℕ). direction_text 6 (5_000 * n)) c.from.ensures in
    let adjusted = c.as_slice-in-loop-row.ensures.value ∙ c.in_ok-push_gon-2.ensures.added
    ∙ ap (λ (t : List ℕ). t ++ direction_text 6 row.adjusted) c.clear-in-loop-row.ensures.items in
    let residual = c.as_slice-in-loop-row-2.ensures.value ∙ c.in_ok-push_mgon.ensures.added
    ∙ ap (λ (t : List ℕ). t ++ mgon_text (to_z w32 (of_z w32 row.residual)))
    c.clear-in-loop-row-2.ensures.items
    ∙ ap mgon_text (to_z-of_z w32 row.residual fits) in
    let before = text ++ rows_text (map row_of (take c.loop-row.row-index c.args.rows.now)) in
    let written = rw (
      number,
      c.bytes.ensures.value,
      direction,
      adjusted,
      residual,
    ) at c.in_ok-push_row.ensures in
    let more = entry-more row_of text c.args.rows.now c.loop-row.row-index row c.row-item.is
    c.loop-row-test.true in
    subst (λ (t : List ℕ). HasWritten {W = g.row.W.Denot} g.W.Write.contents c.push_row.new.writer
    t) more (written before (c.loop-row.invariant text h))

pub returns : goal.returns
returns g c text h =
    let whole = take_all c.loop-row.row-index c.args.rows.now c.loop-row-test.false in
    rw whole at (c.loop-row.invariant text h)
