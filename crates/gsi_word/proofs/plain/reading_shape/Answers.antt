use Rattle.std.proofs.Common.{◌≡◌, ℕ, suc, ◌+◌, drop, subst, arith}
use Rattle.gsi_word.specs.Shapes.{IsShape}
use Rattle.gsi_word.specs.PlainLines.{more_words}
use Rattle.gsi_word.proofs.PlainLines.{narrow_line, wide_line, plain_is_shape}
use Rattle.gsi_word.proofs.plain.reading_shape.Goals as goal

pub returns-then-is_wide : goal.returns-then-is_wide
returns-then-is_wide c =
    let line = c.args.line.now in
    plain_is_shape 16 3 line (drop 1 line) (wide_line line c.if-is_wide.ensures.wide).block

pub returns : goal.returns
returns c =
    let line = c.args.line.now in
    subst (λ (n : ℕ). IsShape (record { width = 8; count = n }) line) (let same : suc (suc (suc (more_words line))) ≡ 3 + more_words line = omega arith in same)
    (plain_is_shape 8 (suc (suc (suc (more_words line)))) line line
    (narrow_line line c.if-is_wide.ensures.narrow).block)

pub overflow_sub-result : goal.overflow_sub-result
overflow_sub-result c = (narrow_line c.args.line.now c.if-is_wide.ensures.narrow).long
