-- The note of readings that went unchecked.
use Rattle.std.proofs.Common.{◌≡◌, ℕ, Bool, false, subst, sym, cond, List, [], arith}
use Rattle.std.proofs.lemmas.Bool.Decides.{nat_tests}
use Rattle.std.specs.Prelude.{◌==◌, ◌≢◌}
use Rattle.byte_ends.specs.Sink.{WriterChange}
use Rattle.station_check.specs.ListNotes.{unchecked_line, unchecked_note}
use Rattle.station_check.specs.RunEndings.{Tells, WritesOrFails}

not_zero : (count : ℕ) → (count ≡ 0 → ⊥) → (count == 0) ≡ false
not_zero count some = grind (arith, nat_tests)

-- Where there are some, the line of them is told.
pub told_of_some : (count : ℕ) (err : WriterChange) → (count ≡ 0 → ⊥)
    → WritesOrFails (unchecked_line count) err → Tells (unchecked_note count) err
told_of_some count err some h =
    subst (λ (b : Bool). Tells (cond b [] (unchecked_line count)) err)
    (sym (not_zero count some)) h
