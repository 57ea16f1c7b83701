-- What is true of the blocks of a file in which none has a fault by itself.
use Rattle.std.proofs.Common.{◌≡◌, ℕ, ◌+◌, Bool, true, false, ◌||◌, ◌&&◌, not, cond, List, [], ◌∷◌}
use Rattle.std.proofs.Common.{◌++◌, length, reverse, Option, Some, None, is_none, refl, sym, subst}
use Rattle.std.specs.Prelude.{nat_lt}
use Rattle.std.specs.List.{AllByRecursion}
use Rattle.std.specs.Option.{option_map}
use Rattle.std.proofs.lemmas.Bool.{false≢true, not-true}
use Rattle.std.proofs.lemmas.List.{reverse-append}
use Rattle.gsi_word.specs.Blocks.{GsiBlock}
use Rattle.station_book.specs.declared.bounds.TheConstants.{CIRCLE, HALF_CIRCLE}
use Rattle.station_book.specs.declared.face.Face.TheVariants.{One, Two}
use Rattle.station_book.specs.declared.fault.BookKind.{BookKind}
use Rattle.station_book.specs.declared.fault.BookKind.TheVariants as faults
use Rattle.station_book.specs.declared.role.Role.{Role}
use Rattle.station_book.specs.declared.role.Role.TheVariants as roles
use Rattle.station_book.specs.Blocks.{role_of, is_station, is_set_code, is_close, is_measurement}
use Rattle.station_book.specs.Blocks.{lacks, is_of_face, angles}
use Rattle.station_book.specs.Places.{History, is_empty}
use Rattle.station_book.specs.Faults.{first_of}
use Rattle.station_book.specs.Readings.{own_faults, face_of}
use Rattle.station_book.proofs.readings.CleanBlocks.{all_none, none_when}
use Rattle.job_statements.specs.declared.beginnings.Beginnings.{Beginnings}
use Rattle.set_marks.specs.declared.fault.MarkFault.{MarkFault}
use Rattle.set_marks.specs.declared.fault.MarkFault.TheVariants.{Reading, At}
use Rattle.set_marks.specs.declared.fault.MarkKind.TheVariants as kinds
use Rattle.set_marks.specs.Stations.{SetUp, begun, reading_fault, fault_as, is_two_lines}
use Rattle.set_marks.specs.Stations.{own_fault, fault_of_blocks}
use Rattle.set_marks.proofs.ReadingBlocks.{IsClean}
use Rattle.set_marks.proofs.StationReadings.{HasStation, HaveStations}

-- What is true of one such block.
record IsFree (beginnings : Beginnings) (past : History) (b : GsiBlock) : Type 0 where
  pub clean : IsClean b
  pub has_station : HasStation beginnings past b

has_face : (b : GsiBlock) → is_none (face_of (angles b).zenith) ≡ false
    → (is_of_face One b || is_of_face Two b) ≡ true
unfolding is_of_face
has_face b e =
    let z = (angles b).zenith in by (nat_lt 0 z && nat_lt z HALF_CIRCLE)
    (nat_lt HALF_CIRCLE z && nat_lt z CIRCLE) e where
      by : (one two : Bool)
          → is_none (cond one (Some One) (cond two (Some Two) None)) ≡ false → (one || two) ≡ true
      by true two e = refl
      by false true e = refl
      by false false e = cc

reading_is_free : (ss : List SetUp) (number : ℕ) (b : GsiBlock) → reading_fault ss number b ≡ None
    → (is_empty ss ≡ false) × ((is_of_face One b || is_of_face Two b) ≡ true)
reading_is_free [] number b e = cc
reading_is_free (s ∷ ss) number b e =
    let none = all_none (own_faults b) (none_mapped (first_of (own_faults b)) e) in (
      refl,
      has_face b (none_when (is_none (face_of (angles b).zenith)) faults.FaceUnclear
          none.1.1.1.1.1.0),
    ) where
      none_mapped : (o : Option BookKind) → option_map (Reading number) o ≡ None → o ≡ None
      none_mapped None e = refl
      none_mapped (Some k) e = cc

free_as : (r : Role) (beginnings : Beginnings) (ss : List SetUp) (number : ℕ) (b : GsiBlock)
    → fault_as r beginnings ss number b ≡ None
    → ((is_station r || (is_set_code r || is_close r)) ≡ false)
    × ((is_measurement r && not (lacks 21 b)) ≡ true
    → (is_empty ss ≡ false) × ((is_of_face One b || is_of_face Two b) ≡ true))
free_as roles.Station beginnings ss number b e = cc
free_as roles.Set beginnings ss number b e = cc
free_as roles.Close beginnings ss number b e = cc
free_as roles.Measurement beginnings ss number b e = (
  refl,
  λ sees. reading_is_free ss number b
      (rw (not-true (lacks 21 b) sees) at e),
)
free_as roles.Other beginnings ss number b e = (refl, λ sees. absurd (false≢true sees))

is_free : (beginnings : Beginnings) (past : History) (b : GsiBlock)
    → own_fault beginnings past b ≡ None → IsFree beginnings past b
is_free beginnings past b e =
    let f = free_as (role_of b) beginnings (begun beginnings past) (length past + 1) b
    (one_line (is_two_lines b) _ e) in
    record {
      clean = record { plain = f.0; faced = λ sees. (f.1 sees).1 };
      has_station = λ sees. (f.1 sees).0;
    } where
      one_line : (two : Bool) (o : Option MarkFault)
          → cond two (Some (At (length past + 1) kinds.TwoLines)) o ≡ None → o ≡ None
      one_line true o e = cc
      one_line false o e = e

-- What is true of all.
pub record CleanBlocks (beginnings : Beginnings) (h : History) : Type 0 where
  pub blocks : AllByRecursion IsClean (reverse h)
  pub stations : HaveStations beginnings h

all_both : (bs cs : List GsiBlock) → AllByRecursion IsClean bs → AllByRecursion IsClean cs
    → AllByRecursion IsClean (bs ++ cs)
all_both [] cs a b = b
all_both (x ∷ bs) cs a b = (a.0, all_both bs cs a.1 b)

-- Where no block has a fault by itself, none has a code, each reading has a face, and each stands
-- after the begin of a station.
pub clean_blocks : (beginnings : Beginnings) (h : History) → fault_of_blocks beginnings h ≡ None
    → CleanBlocks beginnings h
clean_blocks beginnings [] e = record { blocks = tt; stations = tt }
clean_blocks beginnings (b ∷ past) e =
    let none = all_none (fault_of_blocks beginnings past ∷ own_fault beginnings past b ∷ []) e in
    let old = clean_blocks beginnings past none.0 in
    let new = is_free beginnings past b none.1.0 in
    record {
      blocks = subst (λ (bs : List GsiBlock). AllByRecursion IsClean bs)
          (sym (reverse-append (b ∷ []) past))
          (all_both (reverse past) (b ∷ []) old.blocks (new.clean, tt));
      stations = (new.has_station, old.stations);
    }
