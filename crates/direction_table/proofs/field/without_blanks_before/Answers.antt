use Rattle.std.proofs.lemmas.Str.Ascii.{trim_ascii_start_is}
use Rattle.direction_table.proofs.field.without_blanks_before.Goals as goal

pub returns : goal.returns
returns c = trim_ascii_start_is c.args.field.now c.trim_ascii_start.result.now
    c.trim_ascii_start.ensures.value
