use Rattle.std.proofs.Common.{◌≡◌, true, false}
use Rattle.std.specs.Option.{is_some}
use Rattle.table_titles.proofs.Tried.{by-commas, by-semicolons, by-tabs}
use Rattle.table_titles.proofs.row.title_row.Goals as goal

pub returns-then-is_some-clause-row : goal.returns-then-is_some-clause-row
returns-then-is_some-clause-row c =
    let some : is_some c.in_ok-by_commas.by_commas ≡ true = cc in
    by-commas c.args.title.now c.args.bytes.now c.in_ok-by_commas.by_commas some
    c.in_ok-by_commas.ensures.row

pub returns-then-is_some-2-clause-row : goal.returns-then-is_some-2-clause-row
returns-then-is_some-2-clause-row c =
    let none : is_some c.in_ok-by_commas.by_commas ≡ false = cc in
    let some : is_some c.in_ok-by_semicolons.by_semicolons ≡ true = cc in
    by-semicolons c.args.title.now c.args.bytes.now c.in_ok-by_commas.by_commas
    c.in_ok-by_semicolons.by_semicolons none c.in_ok-by_commas.ensures.row some
    c.in_ok-by_semicolons.ensures.row

pub returns-clause-row : goal.returns-clause-row
returns-clause-row c =
    let none : is_some c.in_ok-by_commas.by_commas ≡ false = cc in
    let nor : is_some c.in_ok-by_semicolons.by_semicolons ≡ false = cc in
    let last = by-tabs c.args.title.now c.args.bytes.now c.in_ok-by_commas.by_commas
    c.in_ok-by_semicolons.by_semicolons none c.in_ok-by_commas.ensures.row nor
    c.in_ok-by_semicolons.ensures.row in
    rw last c.title_row_by-3.ensures.row
