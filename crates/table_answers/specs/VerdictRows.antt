-- The verdict of a comparison as data: a row below its titles (profile). Distances are in units of
-- 0.000001 gon.
use Rattle.std.specs.Prelude.{ℕ, List, ◌++◌, codes, decimal, Result, Ok, Err}
use Rattle.direction_table.specs.declared.fault.TableFault.{TableFault}
use Rattle.direction_table.specs.declared.fault.TableFault.TheVariants as table
use Rattle.exact_adjustment.specs.declared.fault.AdjustFault.{AdjustFault}
use Rattle.exact_adjustment.specs.declared.fault.AdjustFault.TheVariants as adjust
use Rattle.gsi_file.specs.declared.file_fault.FileFault.{FileFault}
use Rattle.gsi_file.specs.declared.file_fault.FileFault.TheVariants as file
use Rattle.station_book.specs.declared.fault.BookFault.{BookFault}
use Rattle.station_book.specs.declared.fault.BookFault.TheVariants as book
use Rattle.station_check.specs.declared.fault.Fault.{Fault}
use Rattle.station_check.specs.declared.fault.Fault.TheVariants.{Gsi, Book}
use Rattle.station_compare.specs.FaultNames.{compare_fault_name}
use Rattle.station_compare.specs.declared.agreement.Agreement.{Agreement}
use Rattle.station_compare.specs.declared.fault.CompareFault.{CompareFault}
use Rattle.station_compare.specs.declared.fault.CompareFault.TheVariants.{File, Table, Adjust}
use Rattle.station_compare.specs.declared.fault.CompareFault.TheVariants.{Apart}
use Rattle.station_compare.specs.declared.how_far.HowFar.{HowFar}

-- the titles of the columns
abbrev pub verdict_titles : List ℕ
verdict_titles = codes "verdict,sets,targets,apart,limit,greatest,place,first,second\n"

-- a number after others
abbrev pub cell : ℕ → List ℕ
cell number = codes "," ++ decimal number

-- Of a table that agrees: how many sets and targets its station has, how far it is apart, its
-- limit, and the greatest residual.
abbrev pub agreement_row : Agreement → List ℕ
agreement_row a =
    codes "agrees" ++ cell a.sets ++ cell a.targets ++ cell a.how_far.apart ++ cell a.how_far.limit
    ++ cell a.greatest ++ codes ",,,\n"

-- what is counted, and a number of it
abbrev pub place_cells : List ℕ → ℕ → List ℕ
place_cells counted number = codes ",,,,,," ++ counted ++ cell number ++ codes ",\n"

-- what is counted, and two numbers of it
abbrev pub pair_cells : List ℕ → ℕ → ℕ → List ℕ
pair_cells counted first second =
    codes ",,,,,," ++ counted ++ cell first ++ cell second ++ codes "\n"

-- of a fault that speaks of none of them
abbrev pub no_cells : List ℕ
no_cells = codes ",,,,,,,,\n"

-- Of a fault of the table: its row, two of its columns, or a target of the station without a row.
abbrev pub table_cells : TableFault → List ℕ
table_cells (table.Row number _) = place_cells (codes "row") number
table_cells (table.Columns first second) = pair_cells (codes "columns") first second
table_cells (table.Missing target) = place_cells (codes "target") target
table_cells fault = no_cells

-- of a fault of the adjustment: the observation of the station
abbrev pub adjust_cells : AdjustFault → List ℕ
adjust_cells (adjust.Residual number) = place_cells (codes "observation") number
adjust_cells fault = no_cells

-- of a fault of the words of the field file: the block at which it stands
abbrev pub gsi_cells : FileFault → List ℕ
gsi_cells (file.At number _) = place_cells (codes "block") number
gsi_cells fault = no_cells

-- of a fault of its book: the block at which it stands
abbrev pub book_cells : BookFault → List ℕ
book_cells (book.At number _) = place_cells (codes "block") number
book_cells fault = no_cells

-- of a fault of the field file: its block
abbrev pub file_cells : Fault → List ℕ
file_cells (Gsi fault) = gsi_cells fault
file_cells (Book fault) = book_cells fault
file_cells fault = no_cells

-- of a table that is apart: how far, and its limit
abbrev pub apart_cells : HowFar → List ℕ
apart_cells h = codes ",,," ++ decimal h.apart ++ cell h.limit ++ codes ",,,,\n"

-- What a fault speaks of.
abbrev pub fault_cells : CompareFault → List ℕ
fault_cells (Apart how_far) = apart_cells how_far
fault_cells (Table fault) = table_cells fault
fault_cells (Adjust fault) = adjust_cells fault
fault_cells (File fault) = file_cells fault
fault_cells fault = no_cells

-- The row of a verdict: that the table agrees, or the name of the fault.
abbrev pub verdict_row : Result Agreement CompareFault → List ℕ
verdict_row (Ok agreement) = agreement_row agreement
verdict_row (Err fault) = compare_fault_name fault ++ fault_cells fault

-- The verdict, below the titles.
abbrev pub verdict_rows : Result Agreement CompareFault → List ℕ
verdict_rows verdict = verdict_titles ++ verdict_row verdict
