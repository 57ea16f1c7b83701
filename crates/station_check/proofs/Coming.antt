-- What came of the reader of a field file, by what was to come of its lines.
use Rattle.std.proofs.Common.{◌≡◌, List, ℕ, Option, Some, Bool, subst, sym}
use Rattle.std.specs.Prelude.{IfSome, Result}
use Rattle.byte_ends.proofs.Coming.{came_so, given_as_told, some_left}
use Rattle.byte_ends.specs.Came.{BytesCame}
use Rattle.byte_ends.specs.Source.{Told, ReaderChange, reader_change, given_then}
use Rattle.gsi_file.specs.FileAnswers.{FileAnswers, file_answers}
use Rattle.gsi_file.specs.ToCome.{ToCome}
use Rattle.adjust_kernel.specs.declared.accepted.Accepted.{Accepted}
use Rattle.station_book.specs.Limits.{FaceLimits}
use Rattle.station_check.specs.Came.{LinesCame}
use Rattle.station_check.specs.Promise.{IsAnswer, KeepsPromise}
use Rattle.station_check.specs.declared.fault.Fault.{Fault}

-- What came of new lines, by what was to come of them.
pub lines_came : {R : Type 0} (told : R → Option Told) (failed : R → Bool)
    (gave : R → ℕ → List ℕ → Type 0) (gsi first last : R) (next : Told → ToCome)
    (So : FileAnswers → Type 0) → first ≡ gsi
    → ((t : Told) → next t ≡ record { number = 0; answers = Some (file_answers t) })
    → BytesCame (reader_change told failed gave first last) (λ t. IfSome (next t).answers So)
    → LinesCame (reader_change told failed gave gsi last) So
lines_came told failed gave gsi first last next So e whole s =
    subst (λ (r : _). LinesCame (reader_change told failed gave r last) So) e
    (came_so (reader_change told failed gave first last) (λ t. IfSome (next t).answers So)
    (λ t. So (file_answers t)) s
    (λ t so. subst (λ (c : ToCome). IfSome c.answers So) (whole t) so))

-- Of two readers that tell, the promise is kept of what they tell.
pub promise_as_told : (limits : FaceLimits) (limit : Option ℕ) (gsi sheet : ReaderChange)
    (r : Result Accepted Fault) → IsAnswer limits limit gsi sheet r
    → (file stated : Told) → gsi.told ≡ Some file → sheet.told ≡ Some stated
    → KeepsPromise limits limit file stated r
promise_as_told limits limit gsi sheet r a file stated e f =
    let gsi_left = some_left gsi.told' in
    let sheet_left = some_left sheet.told' in
    subst (λ (t : Told). KeepsPromise limits limit file t r)
    (given_as_told sheet a.sheet_bytes a.sheet_reads stated f sheet_left.0 sheet_left.1)
    (subst (λ (t : Told). KeepsPromise limits limit t (given_then a.sheet_bytes sheet_left.0) r)
    (given_as_told gsi a.gsi_bytes a.gsi_reads file e gsi_left.0 gsi_left.1)
    (a.promise gsi_left.0 sheet_left.0 gsi_left.1 sheet_left.1))
