-- Readings as most are written: what is read in their lines.
use Rattle.std.proofs.Common.{◌≡◌, ◌∙◌, ℕ, List, [], ◌∷◌, refl, sym, ap, Some, None}
use Rattle.std.proofs.Common.{Ok, Err}
use Rattle.std.specs.Prelude.{is_none, Option, unwrap_or}
use Rattle.gsi_word.specs.Blocks.{GsiBlock, IsBlock}
use Rattle.gsi_word.specs.PlainLines.{HasAngle}
use Rattle.gsi_word.proofs.LineLaws.{same_block}
use Rattle.station_book.specs.declared.face.Face.{Face}
use Rattle.station_book.specs.declared.face.Face.TheVariants.{One}
use Rattle.station_book.specs.declared.fault.BookKind.TheVariants as kinds
use Rattle.station_book.specs.Blocks.{angle_fault, angles, has_two, lacks, target}
use Rattle.station_book.specs.Faults.{when, first_of}
use Rattle.station_book.specs.Readings.{read, face_of, unless_fault}

-- A measurement with one direction and one zenith angle has no fault but an unclear face.
read_of_angles : (b : GsiBlock) (hz zenith : ℕ) → HasAngle 21 b.words hz
    → HasAngle 22 b.words zenith → read b
    ≡ unless_fault (first_of (when (is_none (face_of zenith)) kinds.FaceUnclear ∷ [])) (record {
      target = target b;
      angles = record { hz = hz; zenith = zenith };
      face = unwrap_or (face_of zenith) One;
    })
unfolding angle_fault angles has_two lacks
read_of_angles b hz zenith d z = rw (d.one, z.one, d.angle, z.angle) refl

-- Its face is unclear.
pub reads_no_face : (b : GsiBlock) (hz zenith : ℕ) → HasAngle 21 b.words hz
    → HasAngle 22 b.words zenith → None ≡ face_of zenith → Err kinds.FaceUnclear ≡ read b
reads_no_face b hz zenith d z none = sym (read_of_angles b hz zenith d z
    ∙ ap (λ (f : Option Face). unless_fault (first_of (when (is_none f) kinds.FaceUnclear ∷ []))
    (record {
      target = target b;
      angles = record { hz = hz; zenith = zenith };
      face = unwrap_or f One;
    })) (sym none))

-- It has a face.
pub reads_face : (b : GsiBlock) (hz zenith : ℕ) (face : Face) → HasAngle 21 b.words hz
    → HasAngle 22 b.words zenith → Some face ≡ face_of zenith → Ok (Some (record {
      target = target b;
      angles = record { hz = hz; zenith = zenith };
      face = face;
    })) ≡ read b
reads_face b hz zenith face d z some = sym (read_of_angles b hz zenith d z
    ∙ ap (λ (f : Option Face). unless_fault (first_of (when (is_none f) kinds.FaceUnclear ∷ []))
    (record {
      target = target b;
      angles = record { hz = hz; zenith = zenith };
      face = unwrap_or f One;
    })) (sym some))

-- A line is one block.
pub same_target : (line : List ℕ) (a b : GsiBlock) → IsBlock line a → IsBlock line b
    → target a ≡ target b
same_target line a b p q = ap (λ (c : GsiBlock). target c) (same_block line a b p q)
