-- What the answer of a run says, and what `out` got.
use Rattle.std.specs.Prelude.{◌≡◌, ℕ, Result, IfErr, IfOk}
use Rattle.byte_ends.specs.Sink.{WriterChange}
use Rattle.byte_ends.specs.Source.{ReaderChange}
use Rattle.list_rows.specs.Listing.{NotedText, TellsRows}
use Rattle.row_forms.specs.declared.form.RowForm.{RowForm}
use Rattle.station_book.specs.Limits.{FaceLimits}
use Rattle.station_check.specs.Answerable.{IsOfFile}
use Rattle.station_check.specs.Came.{ReadsFile}
use Rattle.station_check.specs.RunEndings.{PrintsAnswer}
use Rattle.station_check.specs.declared.fault.Fault.{Fault}
use Rattle.station_check.specs.declared.fault.Fault.TheVariants.{Write}

-- A run of the list as rows of this form, which answers how many readings went unchecked: all that it promises
-- of its answer, and how the text was written.
pub record IsRowsRun (form : RowForm) (limits : FaceLimits) (gsi : ReaderChange)
    (r : Result ℕ Fault) (out : WriterChange) : Type 0 where
  pub answer : Result NotedText Fault
  pub tells : ReadsFile gsi answer (λ file. TellsRows form limits file answer)
  pub of_file : IfErr answer IsOfFile
  pub printed : PrintsAnswer (λ list. list.text) Write answer r out
  pub noted : IfOk r (λ unchecked. IfOk answer (λ list. unchecked ≡ list.unchecked))
