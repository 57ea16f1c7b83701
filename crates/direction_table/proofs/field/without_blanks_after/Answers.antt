use Rattle.std.proofs.lemmas.Str.Ascii.{trim_ascii_end_is}
use Rattle.direction_table.proofs.field.without_blanks_after.Goals as goal

pub returns : goal.returns
returns c = trim_ascii_end_is c.args.field.now c.trim_ascii_end.result.now
    c.trim_ascii_end.ensures.value
