use Rattle.std.proofs.Common.{sym, ◌∙◌}
use Rattle.std.proofs.lemmas.Bool.{not-true, not-false}
use Rattle.std.proofs.lemmas.List.Quantifiers.{position-Some}
use Rattle.gsi_word.proofs.LineLaws.{byte_fault}
use Rattle.gsi_word.proofs.PrintableLaws.{printable, no_printable, no_stray, is_stray}
use Rattle.gsi_word.proofs.printable.check_printable.Goals as goal

pub returns-in-Some-clause-fault : goal.returns-in-Some-clause-fault
returns-in-Some-clause-fault c =
    let line = c.args.line.now in
    let found = position-Some is_stray line c.in-Some.place 0 (sym c.first_unprintable.ensures
    ∙ c.in-Some.is) in
    byte_fault line c.in-Some.place found.0 (λ k lt. printable _ (not-false _ (found.2 k lt)))
    (no_printable _ (not-true _ found.1))

pub returns-in-None-clause-printable : goal.returns-in-None-clause-printable
returns-in-None-clause-printable c = no_stray c.args.line.now (sym c.first_unprintable.ensures
    ∙ c.in-None.is)
