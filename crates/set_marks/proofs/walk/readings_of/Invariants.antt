use Rattle.std.proofs.Common.{◌≡◌, ◌++◌, length, All}
use Rattle.gsi_file.specs.FileAnswers.{file_answers}
use Rattle.gsi_file.specs.LinePlaces.{line_places}
use Rattle.gsi_file.specs.InMemory.{comes, places_to_come}
use Rattle.set_marks.specs.Marks.{IsRoomy}
use Rattle.job_statements.specs.Numbers.{said_in}
use Rattle.set_marks.proofs.Taking.{AreTaken}
use Rattle.set_marks.proofs.walk.readings_of.Given as goal

abbrev pub invariant-lines : goal.invariant-lines
invariant-lines l = record {
  taken : AreTaken l.beginnings (said_in l.fn.stated)
      (file_answers (record { bytes = l.bytes; fails = l.fails })) (comes l.lines)
      l.walk.readings l.walk.fault;
  room : All IsRoomy l.walk.readings.marking.marks.items;
  places : l.walk.begins.items ++ places_to_come l.lines ≡ line_places l.bytes;
}

abbrev pub decreases-lines : goal.decreases-lines
decreases-lines l = length (places_to_come l.lines)
