use Rattle.std.proofs.lemmas.Str.Ascii.{trim_ascii_end_is}
use Rattle.table_titles.proofs.row.without_blanks_after.Goals as goal

pub returns : goal.returns
returns c = trim_ascii_end_is c.args.cell.now c.trim_ascii_end.result.now
    c.trim_ascii_end.ensures.value
