use Rattle.std.proofs.lemmas.Str.Ascii.{trim_ascii_start_is}
use Rattle.table_titles.proofs.row.without_blanks_before.Goals as goal

pub returns : goal.returns
returns c = trim_ascii_start_is c.args.cell.now c.trim_ascii_start.result.now
    c.trim_ascii_start.ensures.value
