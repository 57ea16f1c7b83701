use Rattle.std.proofs.Common.{take}
use Rattle.book_answers.specs.Notes.{AreNotes}
use Rattle.book_answers.specs.OfStations.{IsOneText}
use Rattle.book_answers.proofs.answering.text_of_stations.Given as goal

-- The text and the notes are those of the stations before the place.
abbrev pub invariant-stations : goal.invariant-stations
invariant-stations g l = record {
  one : IsOneText (g.E.EachAnswer.says l.fn.asked l.fn.limits) l.fn.limits.residual l.arrangement
      (take l.place l.stations) l.text.items;
  told : AreNotes (g.E.EachAnswer.notes l.fn.asked) (take l.place l.stations) l.notes.items;
}
