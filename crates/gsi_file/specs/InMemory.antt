-- What is still to come of the lines of a file that lies in memory, and what a call answers.
use Rattle.std.specs.Prelude.{◌≡◌, ℕ, List, [], ◌∷◌, ⊤, Option, Some, None, Result, Ok, Err}
use Rattle.gsi_word.specs.Blocks.{IsBlock}
use Rattle.gsi_word.specs.BlockViews.{block_of}
use Rattle.gsi_file.specs.declared.file_fault.FileFault.{FileFault}
use Rattle.gsi_file.specs.declared.file_fault.FileKind.{FileKind}
use Rattle.gsi_file.specs.declared.line.Line.{Line}
use Rattle.gsi_file.specs.declared.memory_lines.MemoryLines.{MemoryLines}
use Rattle.gsi_file.specs.declared.placed_line.PlacedLine.{PlacedLine}
use Rattle.gsi_file.specs.FileAnswers.{FileAnswers}
use Rattle.gsi_file.specs.ToCome.{ToCome, TakesLine, only}
use Rattle.gsi_file.specs.Passing.{answers_left, places_left}

-- These answers, or the fault that every call answers.
abbrev pub answers_unless : Option FileKind → FileAnswers → FileAnswers
answers_unless None a = a
answers_unless (Some kind) a = only (Some kind)

-- What is to come.
abbrev pub comes : MemoryLines → ToCome
comes l = record {
  number = l.count;
  answers = Some (answers_unless l.failed (answers_left l.rest));
}

-- The places where the lines that are to come begin.
abbrev pub places_to_come : MemoryLines → List ℕ
places_to_come l = places_left l.rest

-- What a call answers, without the places.
abbrev pub unplaced : Result (Option PlacedLine) FileFault → Result (Option Line) FileFault
unplaced (Ok (Some l)) = Ok (Some (record { number = l.number; block = l.block }))
unplaced (Ok None) = Ok None
unplaced (Err fault) = Err fault

-- The bytes of a line that is answered are the first line to come, and its block is what they say.
abbrev pub GivesBytes : ToCome → Result (Option PlacedLine) FileFault → ToCome → Type 0
GivesBytes t (Ok (Some l)) t' =
    TakesLine t.answers t'.answers l.bytes.now × IsBlock l.bytes.now (block_of l.block)
GivesBytes t (Ok None) t' = ⊤
GivesBytes t (Err fault) t' = ⊤

-- A line that is answered begins at the first of the places to come, and at the end there is none.
abbrev pub GivesPlace : List ℕ → Result (Option PlacedLine) FileFault → List ℕ → Type 0
GivesPlace before (Ok (Some l)) after = before ≡ l.place ∷ after
GivesPlace before (Ok None) after = before ≡ []
GivesPlace before (Err fault) after = ⊤
