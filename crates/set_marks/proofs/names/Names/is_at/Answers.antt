use Rattle.std.proofs.Common.{sym, ap, ◌∙◌}
use Rattle.station_book.specs.Places.{is_among}
use Rattle.set_marks.proofs.Asking.{on_true, placed_among}
use Rattle.set_marks.proofs.names.Names.is_at.Goals as goal

pub returns-in-Some : goal.returns-in-Some
returns-in-Some c = on_true c.is_same.result _
    (λ e. ap (λ names. is_among names c.args.name.now) (sym c.self.view_is)
    ∙ placed_among c.self.inside.kept.keys c.args.place c.args.name.now c.in-Some.other.now
    (sym c.in-Some.ensures.key) (sym c.is_same.ensures.value ∙ e))
