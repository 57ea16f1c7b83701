use Rattle.std.proofs.Common.{ap, ◌∙◌}
use Rattle.station_book.specs.Places.{is_among}
use Rattle.set_marks.specs.Divisions.{seconds_of}
use Rattle.set_marks.proofs.Asking.{among_targets}
use Rattle.set_marks.proofs.known.Known.of_seconds.Goals as goal

pub returns : goal.returns
returns c name =
    ap (λ names. is_among names name) c.in_ok-targets_in_two.ensures
    ∙ among_targets (seconds_of c.args.sights.now) name
