use Rattle.std.proofs.Common.{sym, subst, []}
use Rattle.station_book.specs.State.{State}
use Rattle.station_book.specs.StandsFor.{StandsFor}
use Rattle.station_book.proofs.histories.Answers.{empty_state}
use Rattle.station_book.proofs.book.Book.new.Goals as goal

pub returns : goal.returns
returns c = subst (λ (k : State). StandsFor c.args.limits k []) (sym c.empty.ensures)
    (empty_state c.args.limits)
