use Rattle.std.proofs.Common.{get_or, arith}
use Rattle.std.proofs.lemmas.Bool.{OnTrue_from, OnFalse_from, eqb-true, eqb-false}
use Rattle.gsi_word.proofs.PlainLines.{reading_line, is_starred_wide, is_other_narrow}
use Rattle.gsi_word.proofs.plain.is_wide.Goals as goal

pub bounds-line-0 : goal.bounds-line-0
bounds-line-0 c =
    let long = (reading_line c.args.line.now c.requires).reading.long in omega (arith, long)

pub returns-clause-narrow : goal.returns-clause-narrow
returns-clause-narrow c = OnFalse_from _ _ (λ other.
    is_other_narrow c.args.line.now c.requires (eqb-false (get_or c.args.line.now 0 0) 42 other))

pub returns-clause-wide : goal.returns-clause-wide
returns-clause-wide c = OnTrue_from _ _ (λ star.
    is_starred_wide c.args.line.now c.requires (eqb-true (get_or c.args.line.now 0 0) 42 star))
