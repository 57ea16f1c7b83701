use Rattle.std.proofs.Common.{sym, ◌∙◌, drop}
use Rattle.gsi_word.proofs.PlainLines.{plain_line, plain_wide, plain_is_shape}
use Rattle.gsi_word.proofs.plain.plain_shape.Goals as goal

pub returns-then-is_plain : goal.returns-then-is_plain
returns-then-is_plain c =
    let line = c.args.line.now in
    plain_is_shape 8 3 line line (plain_line line (sym c.is_plain.ensures ∙ c.if-is_plain.true))

pub returns-then-is_plain_wide : goal.returns-then-is_plain_wide
returns-then-is_plain_wide c =
    let line = c.args.line.now in
    plain_is_shape 16 3 line (drop 1 line)
    (plain_wide line (sym c.is_plain_wide.ensures ∙ c.if-is_plain_wide.true))
