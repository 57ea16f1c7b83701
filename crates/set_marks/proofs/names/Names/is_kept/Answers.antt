use Rattle.std.proofs.Common.{ap, ◌∙◌}
use Rattle.station_book.specs.Places.{is_among}
use Rattle.set_marks.proofs.Asking.{among_keys}
use Rattle.set_marks.proofs.names.Names.is_kept.Goals as goal

pub returns-in-Some-clause-value : goal.returns-in-Some-clause-value
returns-in-Some-clause-value c =
    c.in-Some.ensures.found ∙ among_keys c.args.name.now c.self.inside.kept.keys
    ∙ ap (λ names. is_among names c.args.name.now) c.self.view_is

pub returns-in-None-clause-value : goal.returns-in-None-clause-value
returns-in-None-clause-value c =
    c.in-None.ensures.found ∙ among_keys c.args.name.now c.self.inside.kept.keys
    ∙ ap (λ names. is_among names c.args.name.now) c.self.view_is
