-- An acceptance is of the bytes that its readers kept.
use Rattle.std.proofs.Common.{◌≡◌, List, ℕ, Option, Some, Result, Ok, Err, refl, subst, ap, ◌∙◌}
use Rattle.std.proofs.Common.{false, [], ◌++◌}
use Rattle.std.specs.Prelude.{IfOk}
use Rattle.std.proofs.lemmas.List.{append-nil}
use Rattle.byte_ends.specs.Source.{Told, ReaderChange, MayGive, given_then, ended}
use Rattle.adjust_kernel.specs.declared.accepted.Accepted.{Accepted}
use Rattle.station_book.specs.Limits.{FaceLimits}
use Rattle.station_check.specs.Accepted.{IsAccepted}
use Rattle.station_check.specs.Came.{source_of}
use Rattle.station_check.specs.Promise.{IsAnswer}
use Rattle.station_check.specs.declared.fault.Fault.{Fault}

-- What was given, and then the end, is what a source of it gives.
then_ended : (given bytes : List ℕ) → given ≡ bytes → given_then given ended ≡ source_of bytes
then_ended given bytes e =
    ap (λ (b : List ℕ). given_then b ended) e
    ∙ ap (λ (b : List ℕ). record { bytes = b; fails = false }) (append-nil bytes)

-- An acceptance is of the bytes that the readers gave, as they have ended.
pub of_kept : (limits : FaceLimits) (limit : Option ℕ) (gsi sheet : ReaderChange)
    (r : Result Accepted Fault) (file stated : List ℕ) (a : IsAnswer limits limit gsi sheet r)
    → a.gsi_bytes ≡ file → a.sheet_bytes ≡ stated
    → IfOk r (IsAccepted limits limit (source_of file) (source_of stated))
of_kept limits limit gsi sheet (Err fault) file stated a e f = tt
of_kept limits limit gsi sheet (Ok x) file stated a e f =
    let gsi_ended : MayGive gsi.told' ended = rw a.gsi_reader.ended refl in
    let sheet_ended : MayGive sheet.told' ended = rw a.sheet_reader.ended refl in
    let p = a.promise ended ended gsi_ended sheet_ended in
    subst (λ (t : Told). IsAccepted limits limit t (source_of stated) x)
    (then_ended a.gsi_bytes file e)
    (subst (λ (t : Told). IsAccepted limits limit (given_then a.gsi_bytes ended) t x)
    (then_ended a.sheet_bytes stated f) p.accepted)
