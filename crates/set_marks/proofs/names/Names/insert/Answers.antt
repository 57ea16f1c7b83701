use Rattle.std.proofs.Common.{ap, ◌∙◌}
use Rattle.station_book.specs.Places.{is_among, with_new}
use Rattle.set_marks.proofs.Asking.{among_keys, known_or_new, with_key}
use Rattle.set_marks.proofs.names.Names.insert.Goals as goal

pub returns-clause-known : goal.returns-clause-known
returns-clause-known c =
    known_or_new _ _ c.in_ok-place.ensures.added
    ∙ among_keys c.args.name c.self.inside.kept.keys
    ∙ ap (λ names. is_among names c.args.name) c.self.view_is

pub returns-clause-added : goal.returns-clause-added
returns-clause-added c =
    c.in_ok-place.ensures.keys ∙ with_key c.self.inside.kept.keys c.args.name
    ∙ ap (λ names. with_new names c.args.name) c.self.view_is
