-- A reading as the division into sets sees it.
use Rattle.std.proofs.Common.{◌≡◌, ℕ, true, false, List, [], ◌∷◌, ◌++◌, Option, Some, None}
use Rattle.std.proofs.Common.{refl, sym, ap, ◌∙◌, inl, inr}
use Rattle.std.specs.Prelude.{◌==◌, ◌&&◌, nat_lt, Ok}
use Rattle.std.proofs.lemmas.Bool.{cases_Bool}
use Rattle.std.proofs.lemmas.List.{append-nil}
use Rattle.gsi_word.specs.Blocks.{GsiBlock}
use Rattle.station_book.specs.declared.bounds.TheConstants.{CIRCLE, HALF_CIRCLE}
use Rattle.station_book.specs.declared.angles.Reading.{Reading}
use Rattle.station_book.specs.declared.fault.BookKind.{BookKind}
use Rattle.station_book.specs.declared.face.Face.TheVariants.{Two}
use Rattle.station_book.specs.declared.role.Role.TheVariants.{Measurement, Other}
use Rattle.station_book.specs.Blocks.{role_of, lacks, has_direction}
use Rattle.station_book.specs.Blocks.{is_of_face, angles}
use Rattle.station_book.specs.Faults.{first_of}
use Rattle.station_book.specs.Readings.{read, reading, own_faults, unless_fault}
use Rattle.job_statements.specs.declared.beginnings.Beginnings.{Beginnings}
use Rattle.set_marks.specs.declared.readings.Readings.{Readings}
use Rattle.set_marks.specs.declared.sight.Sight.{Sight}
use Rattle.set_marks.specs.Stations.{SetUp, sight_in, begins_named, is_two_lines}
use Rattle.set_marks.specs.Stations.{block_fault, has_code}
use Rattle.set_marks.specs.Keeping.{Adds}
use Rattle.set_marks.proofs.SetUps.{reading_names_none, uncoded_names_none}
use Rattle.set_marks.proofs.SetUps.{named_none, named_none_again, no_set_up_fault}

is_second : (b : GsiBlock) → is_of_face Two b
    ≡ (nat_lt HALF_CIRCLE (angles b).zenith && nat_lt (angles b).zenith CIRCLE)
unfolding is_of_face
is_second b = refl

by_fault : (o : Option BookKind) (r s : Reading) → unless_fault o r ≡ Ok (Some s) → r ≡ s
by_fault None r s e = cc
by_fault (Some k) r s e = cc

-- The reading that was read in a measurement.
pub sight_is : (number : ℕ) (b : GsiBlock) (r : Reading) → role_of b ≡ Measurement
    → read b ≡ Ok (Some r) → sight_in number b ≡ record {
      block = number;
      wide = b.width == 16;
      target = r.target;
      second = nat_lt HALF_CIRCLE r.angles.zenith && nat_lt r.angles.zenith CIRCLE;
      angles = r.angles;
    } ∷ []
sight_is number b r role e = elim (cases_Bool (lacks 21 b)) [
  | inl h ↦ let f : Ok None ≡ Ok (Some r) = rw h at e in cc
  | inr h ↦ let f : unless_fault (first_of (own_faults b)) (reading b) ≡ Ok (Some r) = rw h at e in
      let same : reading b ≡ r = by_fault _ (reading b) r f in
      rw (role, h, is_second b, sym same) refl
]

with_direction : (b : GsiBlock) (r : Reading) → read b ≡ Ok (Some r) → lacks 21 b ≡ false
with_direction b r e = elim (cases_Bool (lacks 21 b)) [
  | inl h ↦ let f : Ok None ≡ Ok (Some r) = rw h at e in cc
  | inr h ↦ h
]

-- What is kept with a reading more.
pub adds_sight : (beginnings : Beginnings) (b : GsiBlock) (number : ℕ) (old new : Readings)
    (r : Reading)
    → role_of b ≡ Measurement → read b ≡ Ok (Some r)
    → new.station ≡ old.station → new.written_again ≡ old.written_again
    → new.marking ≡ old.marking
    → new.sights.items ≡ old.sights.items ++ record {
      block = number;
      wide = b.width == 16;
      target = r.target;
      second = nat_lt HALF_CIRCLE r.angles.zenith && nat_lt r.angles.zenith CIRCLE;
      angles = r.angles;
    } ∷ [] → new.blocks ≡ number → Adds beginnings b number old new
adds_sight beginnings b number old new r role e station count marking sights blocks =
    let sees : has_direction b ≡ true = rw (role, with_direction b r e) refl in
    let unnamed = reading_names_none beginnings b sees in
    let none = named_none beginnings old.station b unnamed in
    let not_again = named_none_again beginnings old.station b unnamed in
    record {
      adds = rw (none, not_again) (record {
        station = station;
        sights = sights ∙ ap (λ (l : List Sight). old.sights.items ++ l)
            (sym (sight_is number b r role e));
        count = count;
        marking = marking;
      });
      blocks = blocks;
    }

-- What is kept with a block more that is no reading and begins no station.
adds_none : (beginnings : Beginnings) (b : GsiBlock) (number : ℕ) (old new : Readings)
    → has_direction b ≡ false → begins_named beginnings b ≡ None
    → new.station ≡ old.station → new.written_again ≡ old.written_again
    → new.marking ≡ old.marking → new.sights.items ≡ old.sights.items
    → new.blocks ≡ number → Adds beginnings b number old new
adds_none beginnings b number old new e none station count marking sights blocks =
    let begins_none = named_none beginnings old.station b none in
    let not_again = named_none_again beginnings old.station b none in
    record {
      adds = rw (begins_none, not_again) (record {
        station = station;
        sights = sights ∙ sym (ap (λ (l : List Sight). old.sights.items ++ l)
            (let no : sight_in number b ≡ [] = rw e refl in no) ∙ append-nil old.sights.items);
        count = count;
        marking = marking;
      });
      blocks = blocks;
    }

-- A block that is neither a measurement nor of code 10, 20 or 30 has no fault where it hasn't the
-- code that is stated.
pub other_clean : (beginnings : Beginnings) (ss : List SetUp) (number : ℕ) (b : GsiBlock)
    → is_two_lines b ≡ false → role_of b ≡ Other → has_code beginnings.code b ≡ false
    → block_fault beginnings ss number b ≡ None
other_clean beginnings ss number b one role code = rw (one, role, code)
    (no_set_up_fault beginnings number b (uncoded_names_none beginnings b role code))

-- What is kept with such a block more.
pub adds_other : (beginnings : Beginnings) (b : GsiBlock) (number : ℕ) (old new : Readings)
    → role_of b ≡ Other → has_code beginnings.code b ≡ false
    → new.station ≡ old.station → new.written_again ≡ old.written_again
    → new.marking ≡ old.marking → new.sights.items ≡ old.sights.items
    → new.blocks ≡ number → Adds beginnings b number old new
adds_other beginnings b number old new role code station count marking sights blocks =
    adds_none beginnings b number old new (rw role refl)
    (uncoded_names_none beginnings b role code) station count marking sights blocks
