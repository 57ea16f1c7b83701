use Rattle.std.proofs.Common.{◌≡◌, List, ℕ, ◌++◌, rules, take, subst}
use Rattle.std.proofs.lemmas.List.{take_all}
use Rattle.direction_table.specs.Texts.{direction_text}
use Rattle.direction_table.specs.TableTexts.{row_of, table_text}
use Rattle.row_forms.specs.Forms.{number_in}
use Rattle.row_forms.specs.Writing.{HasWritten}
use Rattle.row_forms.proofs.TextRows.{entry-more}
use Rattle.direction_table.proofs.table.push_rows.Goals as goal

pub loop-row-preserved : goal.loop-row-preserved
loop-row-preserved g c text h =
    let form = c.args.form in
    let count = c.args.decimals in
    let row = c.row-item.result in
    let before = text ++ table_text form count (take c.loop-row.row-index c.args.stated.now) in
    let field : c.as_slice.result.now ≡ number_in form (direction_text count row.direction) =
    search rules in
    let written = rw (c.bytes.ensures.value, field) at (c.in_ok-write_row.ensures form) in
    let more = entry-more form (row_of form count) text c.args.stated.now c.loop-row.row-index row
    c.row-item.is c.loop-row-test.true in
    subst (λ (t : List ℕ). HasWritten {W = g.row.W.Denot} form g.W.Write.contents
    c.write_row.new.writer t) more (written before (c.loop-row.invariant text h))

pub returns : goal.returns
returns g c text h =
    let whole = take_all c.loop-row.row-index c.args.stated.now c.loop-row-test.false in
    rw whole at (c.loop-row.invariant text h)
