use Rattle.std.proofs.Common.{sym, subst, ℕ, drop}
use Rattle.gsi_word.specs.PlainLines.{HasAngle, more_words}
use Rattle.gsi_word.proofs.PlainLines.{narrow_line, wide_line}
use Rattle.gsi_word.proofs.PlainLines.{direction_of_reading, zenith_of_reading}
use Rattle.gsi_word.proofs.plain.reading_angles.Goals as goal

pub eight_at-requires-clause-room : goal.eight_at-requires-clause-room
eight_at-requires-clause-room c = (wide_line c.args.line.now c.if-is_wide.ensures.wide).room.0

pub eight_at-requires-clause-digits : goal.eight_at-requires-clause-digits
eight_at-requires-clause-digits c =
    (wide_line c.args.line.now c.if-is_wide.ensures.wide).direction.digits

pub eight_at-requires-then-is_wide-clause-room : goal.eight_at-requires-then-is_wide-clause-room
eight_at-requires-then-is_wide-clause-room c =
    (wide_line c.args.line.now c.if-is_wide.ensures.wide).room.1

pub eight_at-requires-then-is_wide-clause-digits : goal.eight_at-requires-then-is_wide-clause-digits
eight_at-requires-then-is_wide-clause-digits c =
    (wide_line c.args.line.now c.if-is_wide.ensures.wide).zenith.digits

pub eight_at-requires-else-is_wide-clause-room : goal.eight_at-requires-else-is_wide-clause-room
eight_at-requires-else-is_wide-clause-room c =
    (narrow_line c.args.line.now c.if-is_wide.ensures.narrow).room.0

pub eight_at-requires-else-is_wide-clause-digits : goal.eight_at-requires-else-is_wide-clause-digits
eight_at-requires-else-is_wide-clause-digits c =
    (narrow_line c.args.line.now c.if-is_wide.ensures.narrow).direction.digits

pub eight_at-requires-else-is_wide-2-clause-room : goal.eight_at-requires-else-is_wide-2-clause-room
eight_at-requires-else-is_wide-2-clause-room c =
    (narrow_line c.args.line.now c.if-is_wide.ensures.narrow).room.1

pub eight_at-requires-else-is_wide-2-clause-digits : goal.eight_at-requires-else-is_wide-2-clause-digits
eight_at-requires-else-is_wide-2-clause-digits c =
    (narrow_line c.args.line.now c.if-is_wide.ensures.narrow).zenith.digits

pub returns-then-is_wide-clause-hz : goal.returns-then-is_wide-clause-hz
returns-then-is_wide-clause-hz c = λ b is.
    let line = c.args.line.now in
    subst (λ (n : ℕ). HasAngle 21 b.words n) (sym c.eight_at.ensures)
    (direction_of_reading 16 0 line (drop 1 line) 40 64 b (wide_line line c.if-is_wide.ensures.wide)
    is)

pub returns-then-is_wide-clause-zenith : goal.returns-then-is_wide-clause-zenith
returns-then-is_wide-clause-zenith c = λ b is.
    let line = c.args.line.now in
    subst (λ (n : ℕ). HasAngle 22 b.words n) (sym c.eight_at-then-is_wide.ensures)
    (zenith_of_reading 16 0 line (drop 1 line) 40 64 b (wide_line line c.if-is_wide.ensures.wide) is)

pub returns-else-is_wide-clause-hz : goal.returns-else-is_wide-clause-hz
returns-else-is_wide-clause-hz c = λ b is.
    let line = c.args.line.now in
    subst (λ (n : ℕ). HasAngle 21 b.words n) (sym c.eight_at-else-is_wide.ensures)
    (direction_of_reading 8 (more_words line) line line 23 39 b (narrow_line line c.if-is_wide.ensures.narrow) is)

pub returns-else-is_wide-clause-zenith : goal.returns-else-is_wide-clause-zenith
returns-else-is_wide-clause-zenith c = λ b is.
    let line = c.args.line.now in
    subst (λ (n : ℕ). HasAngle 22 b.words n) (sym c.eight_at-else-is_wide-2.ensures)
    (zenith_of_reading 8 (more_words line) line line 23 39 b (narrow_line line c.if-is_wide.ensures.narrow) is)
