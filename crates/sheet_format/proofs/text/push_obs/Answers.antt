use Rattle.std.proofs.Common.{List, ℕ, ◌++◌, ◌∙◌, ap, map, take, subst, FitsSigned, rules}
use Rattle.std.specs.Fmt.{signed_decimal}
use Rattle.std.specs.Int.{w8}
use Rattle.std.proofs.lemmas.Int.{to_z-of_z}
use Rattle.std.proofs.lemmas.List.{take_all}
use Rattle.sheet_format.specs.Rows.{obs_fields}
use Rattle.sheet_format.specs.Texts.{HasWritten, rows_text}
use Rattle.sheet_format.proofs.TextRows.{entry-more}
use Rattle.sheet_format.proofs.text.push_obs.Goals as goal

pub loop-row-preserved : goal.loop-row-preserved
loop-row-preserved g c text h =
    let fits : FitsSigned w8 c.row-item.result.turn = search rules in
    let turn = c.turn_text.ensures ∙ ap signed_decimal (to_z-of_z w8 c.row-item.result.turn fits) in
    let value = c.as_bytes.ensures.value ∙ c.format.ensures.text in
    let before = text ++ rows_text (map obs_fields (take c.loop-row.row-index c.args.rows.now)) in
    let row = rw (
      c.as_slice.ensures,
      c.text.ensures,
      c.bytes.ensures.value,
      value,
      turn,
    ) at c.in_ok-push_row.ensures in
    let written = row before (c.loop-row.invariant text h) in
    let more = entry-more obs_fields text c.args.rows.now c.loop-row.row-index c.row-item.result
    c.row-item.is c.loop-row-test.true in
    subst (λ (t : List ℕ). HasWritten {W = g.row.W.Denot} g.W.Write.contents c.push_row.new.writer
    t) more written

pub returns : goal.returns
returns g c text h =
    let whole = take_all c.loop-row.row-index c.args.rows.now c.loop-row-test.false in
    rw whole at (c.loop-row.invariant text h)
