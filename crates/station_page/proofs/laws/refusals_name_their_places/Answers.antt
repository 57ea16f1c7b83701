use Rattle.std.proofs.Common.{◌++◌, codes, refl}
use Rattle.changed_lines.specs.FaultNames.{change_fault_name}
use Rattle.changed_lines.specs.declared.fault.ChangeFault.TheVariants as change
use Rattle.direction_table.specs.declared.fault.TableFault.TheVariants as table
use Rattle.gsi_file.specs.declared.file_fault.FileFault.TheVariants as file
use Rattle.set_marks.specs.FaultNames.{mark_kind_name}
use Rattle.sheet_format.specs.declared.fault.SheetFault.TheVariants as sheet
use Rattle.station_book.specs.declared.fault.BookFault.TheVariants as book
use Rattle.station_check.specs.FaultNames.{fault_name}
use Rattle.station_check.specs.FaultTexts.{carried_text}
use Rattle.station_check.specs.declared.fault.Fault.TheVariants.{Book, Gsi, Sheet}
use Rattle.station_compare.specs.FaultNames.{compare_fault_name}
use Rattle.station_compare.specs.FaultTexts.{compare_carried_text}
use Rattle.station_compare.specs.declared.fault.CompareFault.TheVariants.{Table}
use Rattle.station_page.proofs.NamedFaults.{ended, followed, last}
use Rattle.station_page.proofs.laws.refusals_name_their_places.Goals as goal

pub returns-clause-line : goal.returns-clause-line
returns-clause-line c = λ n kind small.
    rw (followed n (fault_name (Gsi (file.At n kind)))
    (carried_text (Gsi (file.At n kind))) small) refl

pub returns-clause-block : goal.returns-clause-block
returns-clause-block c = λ n kind small.
    rw (followed n (fault_name (Book (book.At n kind)))
    (carried_text (Book (book.At n kind))) small) refl

pub returns-clause-sheet_row : goal.returns-clause-sheet_row
returns-clause-sheet_row c = λ n kind small.
    rw (followed n (fault_name (Sheet (sheet.Row n kind)))
    (carried_text (Sheet (sheet.Row n kind))) small) refl

pub returns-clause-table_row : goal.returns-clause-table_row
returns-clause-table_row c = λ n kind small.
    rw (followed n (compare_fault_name (Table (table.Row n kind)))
    (compare_carried_text (Table (table.Row n kind))) small) refl

pub returns-clause-mark : goal.returns-clause-mark
returns-clause-mark c = λ n kind small.
    rw (ended n (codes "mark: " ++ (mark_kind_name kind ++ codes "\n")) small) refl

pub returns-clause-order : goal.returns-clause-order
returns-clause-order c = λ n small.
    rw (ended n (codes "change: " ++ (change_fault_name (change.LineOrder n) ++ codes "\n")) small)
    refl

pub returns-clause-no_line : goal.returns-clause-no_line
returns-clause-no_line c = λ n small.
    rw (ended n (codes "change: " ++ (change_fault_name (change.NoSuchLine n) ++ codes "\n")) small)
    refl

pub returns-clause-long_name : goal.returns-clause-long_name
returns-clause-long_name c = λ n small.
    rw (ended n (codes "change: " ++ (change_fault_name (change.NameTooLong n) ++ codes "\n")) small)
    refl

pub returns-clause-zero : goal.returns-clause-zero
returns-clause-zero c = λ n small.
    rw (ended n (codes "change: " ++ (change_fault_name (change.ZeroBefore n) ++ codes "\n")) small)
    refl

pub returns-clause-no_point : goal.returns-clause-no_point
returns-clause-no_point c = λ n small.
    rw (ended n (codes "change: " ++ (change_fault_name (change.NoPoint n) ++ codes "\n")) small)
    refl

pub returns-clause-target_row : goal.returns-clause-target_row
returns-clause-target_row c = λ n small. rw (last n small) refl

pub returns-clause-target_sum : goal.returns-clause-target_sum
returns-clause-target_sum c = λ n small. rw (last n small) refl

pub returns-clause-set_row : goal.returns-clause-set_row
returns-clause-set_row c = λ n small. rw (last n small) refl

pub returns-clause-set_sum : goal.returns-clause-set_sum
returns-clause-set_sum c = λ n small. rw (last n small) refl

pub returns-clause-observation : goal.returns-clause-observation
returns-clause-observation c = λ n small. rw (last n small) refl

pub returns-clause-residual : goal.returns-clause-residual
returns-clause-residual c = λ n small. rw (last n small) refl

pub returns-clause-missing : goal.returns-clause-missing
returns-clause-missing c = λ n small. rw (last n small) refl

pub returns-clause-adjusted : goal.returns-clause-adjusted
returns-clause-adjusted c = λ n small. rw (last n small) refl
