-- What comes of a table's reader, and how it is left.
use Rattle.std.specs.Prelude.{◌≡◌, ◌⊎◌, ℕ, List, Result, Err}
use Rattle.byte_ends.specs.Came.{Leaving, ReadOut, BrokenOff, Unfailed}
use Rattle.byte_ends.specs.Input.{Input, Ended, BrokeOff, RanPast}
use Rattle.direction_table.specs.declared.form.ColumnPair.{ColumnPair}
use Rattle.table_titles.specs.Titles.{columns_by_titles}
use Rattle.table_titles.specs.declared.fault.TitlesFault.{TitlesFault}
use Rattle.table_titles.specs.declared.fault.TitlesFault.TheVariants as fault

-- What the input says: of bytes that ended their columns or fault; that a read failed; or that there
-- are too many.
abbrev pub said_by_input : List ℕ → List ℕ → Input → Result ColumnPair TitlesFault
said_by_input targets directions (Ended bytes) = columns_by_titles targets directions bytes
said_by_input targets directions (BrokeOff bytes) = Err fault.Read
said_by_input targets directions RanPast = Err fault.TooLong

-- This is answered: what the input says, or that memory ran out.
abbrev pub ComesOfInput : List ℕ → List ℕ → Input → Result ColumnPair TitlesFault → Type 0
ComesOfInput targets directions input r =
    (r ≡ said_by_input targets directions input) ⊎ (r ≡ Err fault.Memory)

-- How a fault leaves the reader: where a read failed it has broken off; at a fault of the titles it
-- has ended; and no read failed at any other.
abbrev pub titles_left : TitlesFault → Leaving
titles_left fault.Read = BrokenOff
titles_left fault.TooLong = Unfailed
titles_left (fault.NoTitle of) = ReadOut
titles_left (fault.TwiceTitled of) = ReadOut
titles_left fault.SameTitle = ReadOut
titles_left fault.Memory = Unfailed
