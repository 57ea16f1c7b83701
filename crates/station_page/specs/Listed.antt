-- The list of a field file's stations as rows, as it is handed out.
use Rattle.std.specs.Prelude.{◌≡◌, ℕ, List, ◌++◌, Result, Ok, Err, codes, decimal}
use Rattle.gsi_file.specs.FileAnswers.{FileAnswers}
use Rattle.list_rows.specs.Listing.{IsListOfRows, NotedText, TellsRows}
use Rattle.row_forms.specs.declared.form.RowForm.TheVariants.{Commas}
use Rattle.station_answers.specs.Parts.{part_text}
use Rattle.station_book.specs.Limits.{FaceLimits}
use Rattle.station_check.specs.declared.fault.Fault.{Fault}

-- rows, and a line of how many readings went unchecked, each as a part
abbrev pub listed_text : List ℕ → ℕ → List ℕ
listed_text rows unchecked =
    part_text (codes "rows") rows
    ++ part_text (codes "unchecked") (decimal unchecked ++ codes "\n")

-- Of these lines, the text has the rows of the stations, and how many readings went unchecked.
pub record AreListed (limits : FaceLimits) (file : FileAnswers) (text : List ℕ) : Type 0 where
  pub list : NotedText
  pub is_list : IsListOfRows Commas limits file list
  pub text_is : text ≡ listed_text list.text list.unchecked

-- The answer is that, or the file's first fault, as of the list as rows; or that memory ran out.
abbrev pub TellsListed : FaceLimits → FileAnswers → Result (List ℕ) Fault → Type 0
TellsListed limits file (Ok text) = AreListed limits file text
TellsListed limits file (Err fault) = TellsRows Commas limits file (Err fault)
