-- Readers that an answer leaves alike.
use Rattle.std.proofs.Common.{◌≡◌, Result, Ok, Err, sym, ◌∙◌}
use Rattle.std.specs.Prelude.{OnOk}
use Rattle.byte_ends.specs.Came.{IsLeftAs, Leaves, Leaving, Unasked, ReadOut, BrokenOff, Unfailed}
use Rattle.byte_ends.specs.Came.{Unknown}
use Rattle.byte_ends.specs.Source.{ReaderChange}

-- Two readers are alike in what they tell after and in whether a read of them failed; and where the
-- one was not asked, the other was not.
pub record AreAlike (s t : ReaderChange) : Type 0 where
  pub told : s.told' ≡ t.told'
  pub failed : s.failed ≡ t.failed
  pub failed' : s.failed' ≡ t.failed'
  pub unasked : s.is_unasked → t.is_unasked

-- However the one is left, the other is.
left_too : (how : Leaving) (s t : ReaderChange) → AreAlike s t → IsLeftAs how s → IsLeftAs how t
left_too Unasked s t a h =
    record { same = a.unasked h.same; unfailed = sym a.failed' ∙ h.unfailed ∙ a.failed }
left_too ReadOut s t a h =
    record { ended = sym a.told ∙ h.ended; unfailed = sym a.failed' ∙ h.unfailed ∙ a.failed }
left_too BrokenOff s t a h =
    record { broken = sym a.told ∙ h.broken; failed = sym a.failed' ∙ h.failed }
left_too Unfailed s t a h = sym a.failed' ∙ h ∙ a.failed
left_too Unknown s t a h = tt

-- So an answer leaves the one as it leaves the other.
pub leaves_too : {A F : Type 0} (left_at : F → Leaving) (r : Result A F) (s t : ReaderChange)
    → AreAlike s t → Leaves left_at r s → Leaves left_at r t
leaves_too left_at (Ok x) s t a h = left_too ReadOut s t a h
leaves_too left_at (Err fault) s t a h = left_too (left_at fault) s t a h

-- What holds, whatever was answered, is so with Ok.
pub always_ok : {T E P : Type 0} (r : Result T E) → P → OnOk r P
always_ok (Ok x) p = p
always_ok (Err e) p = tt
