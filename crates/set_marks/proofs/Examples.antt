-- The definitions on small files.
use Rattle.std.proofs.Common.{◌≡◌, ℕ, false, List, [], ◌∷◌, ◌++◌, Option, Some, None, refl, arith}
use Rattle.std.specs.Prelude.{codes, decimal, map, true, Bool, ◌-◌, if◌then◌else◌}
use Rattle.std.proofs.lemmas.Fmt.{decimal_digit}
use Rattle.gsi_word.specs.Words.{GsiWord}
use Rattle.gsi_word.specs.Blocks.{GsiBlock}
use Rattle.station_book.specs.Blocks.{role_of, target, named, number, angles, angle_fault}
use Rattle.station_book.specs.Blocks.{is_of_face, has_two, lacks}
use Rattle.station_book.specs.Places.{History}
use Rattle.job_statements.specs.declared.beginnings.Beginnings.{Beginnings}
use Rattle.set_marks.specs.declared.division.Divided.TheVariants.{Sets, Flawed}
use Rattle.set_marks.specs.declared.fault.MarkKind.{MarkKind}
use Rattle.set_marks.specs.declared.fault.MarkKind.TheVariants as kinds
use Rattle.set_marks.specs.declared.mark.Code.TheVariants.{Station, Set, Close}
use Rattle.set_marks.specs.declared.remarks.Remarks.{Remarks}
use Rattle.set_marks.specs.declared.sight.Sight.{Sight}
use Rattle.set_marks.specs.Stations.{SetUp, sets_up, tells_set_up, sights_of, set_ups_of}
use Rattle.set_marks.specs.WrittenAgain.{written_again_of}
use Rattle.set_marks.specs.Divisions.{starts_of}
use Rattle.set_marks.specs.Ways.{divided}
use Rattle.set_marks.specs.Stations.{Occupation, begins_named}
use Rattle.set_marks.specs.Judging.{none_before, judged_called, judged_from}
use Rattle.set_marks.specs.Marking.{marks_of, recognized, recognized_from, refusal}
use Rattle.set_marks.specs.declared.division.Divided.{Divided}
use Rattle.set_marks.specs.declared.flaw.Flaw.{Flaw}
use Rattle.set_marks.specs.declared.recognized.Recognized.{Recognized}
use Rattle.job_statements.specs.declared.stated.Numbers.{Numbers}
use Rattle.job_statements.specs.Numbers.{Said, SaidNumber}
use Rattle.set_marks.specs.Visits.{once_more, visit_name}
use Rattle.set_marks.specs.Found.{Found, found_in}
use Rattle.set_marks.specs.MarkedFile.{copy_history, in_file}

abbrev w : ℕ → List ℕ → GsiWord
w i c = record { index = i; info = codes "..02"; negative = false; content = c }

abbrev b : List GsiWord → GsiBlock
b ws = record { width = 8; words = ws }

-- A reading of this target, in face I or II.
abbrev one : List ℕ → GsiBlock
one name = b (w 11 name ∷ w 21 (codes "01234567") ∷ w 22 (codes "10000000") ∷ [])

abbrev two : List ℕ → GsiBlock
two name = b (w 11 name ∷ w 21 (codes "21234567") ∷ w 22 (codes "30000000") ∷ [])

abbrev a_name : List ℕ
a_name = codes "0000000A"

abbrev b_name : List ℕ
b_name = codes "0000000B"

-- The set-up line of P1, two sets of A and B, and a detail point: the newest block comes first.
abbrev file : History
file = one (codes "0000000D") ∷ two a_name ∷ two b_name ∷ one b_name ∷ one a_name
    ∷ two a_name ∷ two b_name ∷ one b_name ∷ one a_name
    ∷ b (w 11 (codes "000000P1") ∷ w 88 (codes "00001543") ∷ []) ∷ []

-- In this set of P1.
abbrev in_set : ℕ → Option Found
in_set n = Some (record { station = Some (codes "P1"); set = Some n })

-- A sight at the block of this number, with this direction, and this zenith angle in face I.
abbrev sight_at : ℕ → ℕ → ℕ → List ℕ → Bool → Sight
sight_at hz zenith n name second = record {
  block = n;
  wide = false;
  target = name;
  second = second;
  angles = record { hz = hz; zenith = if second then 40000000 - zenith else zenith };
}

-- A sight at the block of this number.
abbrev sight : ℕ → List ℕ → Bool → Sight
sight n name second = sight_at 0 9000 n name second

-- Two targets, read in both faces one after the other, and then two more.
abbrev by_targets : List Sight
by_targets = sight 1 (codes "A") false ∷ sight 2 (codes "A") true
    ∷ sight 3 (codes "B") false ∷ sight 4 (codes "B") true
    ∷ sight 5 (codes "C") false ∷ sight 6 (codes "C") true
    ∷ sight 7 (codes "D") false ∷ sight 8 (codes "D") true ∷ []

-- A number of sets, and one of targets, are stated.
abbrev numbers : Option ℕ → Option ℕ → Numbers
numbers sets targets = record { sets = sets; targets = targets }

-- A number is stated of each station, or none.
abbrev of_each : Option ℕ → SaidNumber
of_each number = record { of_each = number; of_one = [] }

-- How stations begin: nothing is stated; or that a set-up line of the name of the open station
-- begins nothing, and that blocks of code 47 begin stations.
abbrev by_set_ups : Beginnings
by_set_ups = record { station = None; same_set_up = false; code = None }

abbrev by_codes : Beginnings
by_codes = record { station = None; same_set_up = true; code = Some (codes "47") }

-- The station P1 begins before any reading: the set-up line of it, and a block of code 47.
abbrev p1 : SetUp
p1 = record { name = codes "P1"; from = 0 }

abbrev set_up : GsiBlock
set_up = b (w 11 (codes "000000P1") ∷ w 88 (codes "00001543") ∷ [])

abbrev coded : List GsiWord → GsiBlock
coded ws = b (w 41 (codes "00000047") ∷ ws)

-- Nothing is stated; and that stations with a fault stay outside.
abbrev nothing : Said
nothing = record { sets = of_each None; targets = of_each None; again = false; others = false }

abbrev others : Said
others = record { sets = of_each None; targets = of_each None; again = false; others = true }

-- A number of sets is stated of P1 by itself, and 5 of each other station.
abbrev of_p1 : ℕ → Said
of_p1 n = record {
  sets = record { of_each = Some 5; of_one = record { name = codes "P1"; number = n } ∷ [] };
  targets = of_each None;
  again = false;
  others = false;
}

-- It is stated that a name that comes again is another set-up.
abbrev again_apart : Said
again_apart = record { sets = of_each None; targets = of_each None; again = true; others = false }

-- What these readings are, where these numbers are stated.
abbrev read_as : List Sight → Option ℕ → Option ℕ → Divided
read_as rs sets targets = divided (numbers sets targets) rs

-- So many readings, from the first on, are sets.
abbrev up_to : ℕ → Divided
up_to to = Sets (record { from = 0; to = to })

-- This is wrong at the first reading.
abbrev at_first : MarkKind → Divided
at_first kind = Flawed (record { block = 1; kind = kind })

-- A station of this name and these readings: of a set of A and B, or of one with B read twice in
-- one face.
abbrev station : List ℕ → List Sight → Occupation
station name rs = record { name = name; sights = rs }

abbrev one_set : List Sight
one_set = sight 1 (codes "A") false ∷ sight 2 (codes "B") false
    ∷ sight 3 (codes "B") true ∷ sight 4 (codes "A") true ∷ []

abbrev again : List Sight
again = sight 6 (codes "A") false ∷ sight 7 (codes "B") false
    ∷ sight 8 (codes "B") false ∷ sight 9 (codes "A") true ∷ []

-- The names of the stations that are told where P1 comes again with a set, and then once more.
abbrev names_told : List (List ℕ)
names_told = map (λ r. r.name) (recognized_from [] (judged_from again_apart none_before
    (station (codes "P1") one_set ∷ station (codes "P1") one_set ∷ station (codes "P1") []
    ∷ station (codes "P1") one_set ∷ [])))

-- What is told of the stations P1, of one set, and P2, where A and B are read as above.
abbrev told : Said → List Recognized
told stated = recognized_from [] (judged_from stated none_before
    (station (codes "P1") one_set ∷ station (codes "P2") again ∷ []))

-- What is wrong with P2: with more leading readings the rest goes further.
abbrev alone : Flaw
alone = record { block = 9; kind = kinds.FaceMissing }

-- An orientation in both faces to the last target, a set by targets, and another one that was
-- broken off before that target: reading by reading these are two sets that begin with it.
abbrev shifted : List Sight
shifted = sight 1 (codes "B") false ∷ sight 2 (codes "B") true
    ∷ sight 3 (codes "A") false ∷ sight 4 (codes "A") true
    ∷ sight 5 (codes "B") false ∷ sight 6 (codes "B") true
    ∷ sight 7 (codes "A") false ∷ sight 8 (codes "A") true ∷ []

-- Two sets that have the opening target alone in common.
abbrev other_targets : List Sight
other_targets = sight 1 (codes "A") false ∷ sight 2 (codes "B") false
    ∷ sight 3 (codes "B") true ∷ sight 4 (codes "A") true
    ∷ sight 5 (codes "A") false ∷ sight 6 (codes "C") false
    ∷ sight 7 (codes "C") true ∷ sight 8 (codes "A") true ∷ []

-- Two sets by faces, of which the second lacks C, and three readings after them: D is read in both
-- faces, E in one.
abbrev with_gap : List Sight
with_gap = sight 1 (codes "A") false ∷ sight 2 (codes "C") false ∷ sight 3 (codes "B") false
    ∷ sight 4 (codes "B") true ∷ sight 5 (codes "C") true ∷ sight 6 (codes "A") true
    ∷ sight 7 (codes "A") false ∷ sight 8 (codes "B") false
    ∷ sight 9 (codes "B") true ∷ sight 10 (codes "A") true
    ∷ sight 11 (codes "D") false ∷ sight 12 (codes "E") false ∷ sight 13 (codes "D") true ∷ []

-- Three sets, of which the third is the first once more. The zenith angles of A differ by 20 mgon,
-- those of B by a unit more.
abbrev read_twice : List Sight
read_twice = sight_at 1 9000 1 (codes "A") false ∷ sight_at 2 7000 2 (codes "B") false
    ∷ sight_at 3 8000 3 (codes "B") true ∷ sight_at 4 8000 4 (codes "A") true
    ∷ sight_at 5 7000 5 (codes "A") false ∷ sight_at 6 9000 6 (codes "B") false
    ∷ sight_at 7 9001 7 (codes "B") true ∷ sight_at 8 8000 8 (codes "A") true
    ∷ sight_at 1 9000 9 (codes "A") false ∷ sight_at 2 7000 10 (codes "B") false
    ∷ sight_at 3 8000 11 (codes "B") true ∷ sight_at 4 8000 12 (codes "A") true ∷ []

-- A set by faces of A, B and C, between readings before it and after it.
abbrev between : List Sight → List Sight → List Sight
between before after = before ++ (sight 11 (codes "A") false ∷ sight 12 (codes "B") false
    ∷ sight 13 (codes "C") false ∷ sight 14 (codes "C") true
    ∷ sight 15 (codes "B") true ∷ sight 16 (codes "A") true ∷ after)

-- Sights to its targets in both faces, as of a resection.
abbrev resection : List Sight
resection = sight 1 (codes "A") false ∷ sight 2 (codes "A") true
    ∷ sight 3 (codes "B") false ∷ sight 4 (codes "B") true
    ∷ sight 5 (codes "C") false ∷ sight 6 (codes "C") true ∷ []

-- A set of A and B, and after it a sight to A; between them a detail, or none.
abbrev two_and_check : List Sight → List Sight
two_and_check details = one_set ++ (details ++ sight 6 (codes "A") false ∷ [])

-- Two sets of A and B by faces, and a sight to A: after the first sight to A they are two sets by
-- targets that begin with B and end with A.
abbrev led_to_end : List Sight
led_to_end = sight 1 (codes "A") false ∷ sight 2 (codes "B") false
    ∷ sight 3 (codes "B") true ∷ sight 4 (codes "A") true
    ∷ sight 5 (codes "A") false ∷ sight 6 (codes "B") false
    ∷ sight 7 (codes "B") true ∷ sight 8 (codes "A") true
    ∷ sight 9 (codes "A") false ∷ []

-- Two sets of A, B and C, and these readings after them.
abbrev two_and : List Sight → List Sight
two_and after = sight 1 (codes "A") false ∷ sight 2 (codes "B") false
    ∷ sight 3 (codes "C") false ∷ sight 4 (codes "C") true
    ∷ sight 5 (codes "B") true ∷ sight 6 (codes "A") true
    ∷ sight 7 (codes "A") false ∷ sight 8 (codes "B") false
    ∷ sight 9 (codes "C") false ∷ sight 10 (codes "C") true
    ∷ sight 11 (codes "B") true ∷ sight 12 (codes "A") true ∷ after

-- A set that is begun in face II.
abbrev begun_in_two : List Sight
begun_in_two = sight 2 (codes "A") true ∷ sight 3 (codes "C") true ∷ sight 4 (codes "B") true
    ∷ sight 5 (codes "B") false ∷ sight 6 (codes "C") false ∷ sight 7 (codes "A") false ∷ []

-- A pair of A, and two sets by targets that begin with C: so two sets look that begin with A, the
-- first without B, and one more that was broken off before C.
abbrev after_pair : List Sight
after_pair = sight 1 (codes "A") false ∷ sight 2 (codes "A") true
    ∷ sight 3 (codes "C") false ∷ sight 4 (codes "C") true
    ∷ sight 5 (codes "A") false ∷ sight 6 (codes "A") true
    ∷ sight 7 (codes "B") false ∷ sight 8 (codes "B") true
    ∷ sight 9 (codes "C") false ∷ sight 10 (codes "C") true
    ∷ sight 11 (codes "A") false ∷ sight 12 (codes "A") true
    ∷ sight 13 (codes "B") false ∷ sight 14 (codes "B") true ∷ []

-- what is told, beyond their numbers, of the sets that so many of these readings are
abbrev remarked : ℕ → List Sight → Option Remarks
remarked to rs = (recognized 0 (record { name = codes "P1"; sights = rs }) (up_to to)).remarks

-- what is found in such files
record AreExamples : Type 0 where
  starts : starts_of (sights_of file) ≡ 0 ∷ 4 ∷ []
  divides : divided (numbers None None) (sights_of file) ≡ up_to 8
  marks : marks_of by_set_ups nothing file
      ≡ record { block = 2; wide = false; code = Station (codes "P1") }
      ∷ record { block = 2; wide = false; code = Set 1 }
      ∷ record { block = 6; wide = false; code = Set 2 }
      ∷ record { block = 10; wide = false; code = Close } ∷ []
  as_divided : in_file by_set_ups nothing file
      ≡ in_set 1 ∷ in_set 1 ∷ in_set 1 ∷ in_set 1
      ∷ in_set 2 ∷ in_set 2 ∷ in_set 2 ∷ in_set 2 ∷ None ∷ []
  in_copy : found_in (copy_history by_set_ups nothing file)
      ≡ in_set 1 ∷ in_set 1 ∷ in_set 1 ∷ in_set 1
      ∷ in_set 2 ∷ in_set 2 ∷ in_set 2 ∷ in_set 2 ∷ None ∷ []
  uncoded : found_in file
      ≡ None ∷ None ∷ None ∷ None ∷ None ∷ None ∷ None ∷ None ∷ None ∷ []
  height : sets_up (b (w 11 a_name ∷ w 87 (codes "00001500") ∷ [])) ≡ false
  measured : sets_up (b (w 11 a_name ∷ w 22 (codes "10000000") ∷ w 31 (codes "00012345")
      ∷ w 87 (codes "00001500") ∷ w 88 (codes "00001543") ∷ [])) ≡ false
  begun_twice : set_ups_of by_set_ups (set_up ∷ set_up ∷ []) ≡ p1 ∷ p1 ∷ []
  joined : set_ups_of by_codes (set_up ∷ set_up ∷ []) ≡ p1 ∷ []
  by_code : set_ups_of by_codes (set_up ∷ coded (w 42 (codes "000000P1") ∷ []) ∷ []) ≡ p1 ∷ []
  never : written_again_of by_set_ups (set_up ∷ set_up ∷ []) ≡ 0 ∷ 0 ∷ []
  once : written_again_of by_codes (set_up ∷ set_up ∷ []) ≡ 1 ∷ []
  three_times : written_again_of by_codes (set_up ∷ set_up ∷ one a_name
      ∷ coded (w 42 (codes "000000P1") ∷ []) ∷ set_up ∷ coded (w 42 (codes "000000P2") ∷ []) ∷ [])
      ≡ 0 ∷ 3 ∷ []
  of_no_name : set_ups_of by_codes (coded [] ∷ []) ≡ []
  of_no_code : set_ups_of by_set_ups (coded (w 42 (codes "000000P1") ∷ []) ∷ []) ≡ []
  sets_asked : read_as by_targets None None ≡ at_first kinds.ByTargets
  targets_asked : read_as by_targets (Some 1) None ≡ at_first kinds.ByTargets
  two_by_two : read_as by_targets (Some 1) (Some 2) ≡ at_first kinds.TargetCount
  as_stated : read_as by_targets (Some 1) (Some 4) ≡ up_to 8
  unstated : read_as shifted None None ≡ at_first kinds.ByTargets
  one_to_the_end : read_as shifted (Some 1) (Some 2) ≡ at_first kinds.SetCount
  two_sets : read_as shifted (Some 2) None ≡ up_to 8
  by_faces_told : remarked 10 with_gap ≡ Some (record {
    opening = codes "A";
    turning = codes "B";
    directions = 6;
    missing = 1;
    others = 1;
    opened_again = false;
    equal_sets = [];
    zeniths = [];
  })
  by_targets_told : remarked 8 by_targets ≡ Some (record {
    opening = codes "A";
    turning = codes "D";
    directions = 4;
    missing = 0;
    others = 0;
    opened_again = false;
    equal_sets = [];
    zeniths = [];
  })
  read_twice_told : remarked 12 read_twice ≡ Some (record {
    opening = codes "A";
    turning = codes "B";
    directions = 6;
    missing = 0;
    others = 0;
    opened_again = false;
    equal_sets = record { earlier = 1; later = 3 } ∷ [];
    zeniths = record { least = 7000; greatest = 9001; target = codes "B" } ∷ [];
  })
  read_again_told : remarked 8 (by_targets ++ sight 9 (codes "A") false ∷ []) ≡ Some (record {
    opening = codes "A";
    turning = codes "D";
    directions = 4;
    missing = 0;
    others = 0;
    opened_again = true;
    equal_sets = [];
    zeniths = [];
  })
  check_sights : read_as (between [] (sight 17 (codes "A") false ∷ sight 18 (codes "C") false ∷ []))
      None None ≡ up_to 6
  check_pair : read_as (between [] (sight 17 (codes "A") false ∷ sight 18 (codes "A") true ∷ []))
      None None ≡ up_to 6
  pair_of_another : read_as (between [] (sight 17 (codes "B") false ∷ sight 18 (codes "B") true
      ∷ [])) None None ≡ Flawed (record { block = 18; kind = kinds.ReadTwice })
  after_resection : read_as (between resection []) None None
      ≡ Sets (record { from = 6; to = 12 })
  after_five : read_as (between (sight 1 (codes "A") false ∷ sight 2 (codes "A") false
      ∷ sight 3 (codes "B") false ∷ sight 4 (codes "B") false ∷ sight 5 (codes "C") false ∷ []) [])
      None None ≡ Sets (record { from = 5; to = 11 })
  after_four : read_as (between (sight 1 (codes "A") false ∷ sight 2 (codes "A") false
      ∷ sight 3 (codes "B") false ∷ sight 4 (codes "C") false ∷ []) [])
      None None ≡ Sets (record { from = 4; to = 10 })
  four_of_any_kind : read_as (between (sight 1 (codes "A") false ∷ sight 2 (codes "A") true
      ∷ sight 3 (codes "B") false ∷ sight 4 (codes "C") false ∷ []) [])
      None None ≡ Flawed (record { block = 13; kind = kinds.ReadTwice })
  detail_before : read_as (between (sight 1 (codes "D") false ∷ []) [])
      None None ≡ Flawed (record { block = 16; kind = kinds.FaceMissing })
  pair_is_missing : read_as (between (sight 1 (codes "B") true ∷ []) [])
      None None ≡ Flawed (record { block = 11; kind = kinds.MayBeShifted })
  close_check : read_as (two_and_check []) None None
      ≡ Flawed (record { block = 6; kind = kinds.FaceMissing })
  check_after_detail : read_as (two_and_check (sight 5 (codes "D") false ∷ [])) None None
      ≡ up_to 4
  even : read_as (two_and (sight 13 (codes "N") false ∷ sight 14 (codes "N") true
      ∷ sight 15 (codes "A") false ∷ sight 16 (codes "B") false ∷ [])) None None ≡ up_to 12
  uneven : read_as (two_and (sight 13 (codes "N") false ∷ sight 14 (codes "N") true
      ∷ sight 15 (codes "N") true ∷ sight 16 (codes "A") false ∷ [])) None None
      ≡ Flawed (record { block = 15; kind = kinds.ReadTwice })
  two_ways : read_as (two_and (sight 13 (codes "N") false ∷ sight 14 (codes "N") true
      ∷ sight 15 (codes "N") false ∷ [])) None None ≡ at_first kinds.MayBeShifted
  shifted_to_end : read_as led_to_end None None
      ≡ Flawed (record { block = 2; kind = kinds.MayBeShifted })
  middle_pair : read_as after_pair (Some 2) None
      ≡ Flawed (record { block = 3; kind = kinds.MayBeShifted })
  begun_in_face_two : read_as begun_in_two None None ≡ up_to 6
  begun_late : read_as (sight 1 (codes "B") false ∷ begun_in_two) None None
      ≡ Flawed (record { block = 2; kind = kinds.FirstFace })
  strangers : divided (numbers None None) other_targets
      ≡ Flawed (record { block = 5; kind = kinds.OtherTargets })
  sights_itself : judged_called nothing none_before (station (codes "B") one_set)
      ≡ Flawed (record { block = 2; kind = kinds.SightsItself })
  twice : judged_called nothing
      (record { marked = []; faulty = codes "P1" ∷ []; visits = [] })
      (station (codes "P1") one_set) ≡ at_first kinds.StationTwice
  both_told : told nothing
      ≡ recognized 0 (station (codes "P1") one_set) (up_to 4)
      ∷ recognized 0 (station (codes "P2") again) (Flawed alone) ∷ []
  refused : refusal nothing 10 (told nothing) ≡ Some alone
  left_outside : refusal others 10 (told others) ≡ None
  no_blocks : refusal nothing 1 [] ≡ Some (record { block = 1; kind = kinds.Empty })
  its_own : judged_called (of_p1 1) none_before (station (codes "P1") one_set) ≡ up_to 4
  that_of_each : judged_called (of_p1 1) none_before (station (codes "P2") one_set)
      ≡ at_first kinds.SetCount
  visits : names_told ≡ codes "P1" ∷ codes "P1-2" ∷ codes "P1" ∷ codes "P1-3" ∷ []
  itself_again : judged_called again_apart
      (record { marked = codes "B" ∷ []; faulty = []; visits = once_more [] (codes "B") })
      (station (codes "B") one_set) ≡ Flawed (record { block = 2; kind = kinds.SightsItself })
  zero : visit_name (codes "0") 1 ≡ codes "0"
  no_room : visit_name (codes "FIFTEEN OF BYTE") 1 ≡ codes "FIFTEEN OF BYTE"
  not_there : refusal (of_p1 1) 10 (recognized 0 (station (codes "P2") one_set) (up_to 4) ∷ [])
      ≡ Some (record { block = 10; kind = kinds.NoSuchStation })

-- The digit of a second set-up.
second_digit : decimal 2 ≡ 50 ∷ []
second_digit = decimal_digit 2 (omega arith)

examples : AreExamples
unfolding role_of target named number angles angle_fault is_of_face has_two lacks
    tells_set_up begins_named
examples = record {
  starts = refl;
  divides = refl;
  marks = refl;
  as_divided = refl;
  in_copy = refl;
  uncoded = refl;
  height = refl;
  measured = refl;
  begun_twice = refl;
  joined = refl;
  by_code = refl;
  never = refl;
  once = refl;
  three_times = refl;
  of_no_name = refl;
  of_no_code = refl;
  sets_asked = refl;
  targets_asked = refl;
  two_by_two = refl;
  as_stated = refl;
  unstated = refl;
  one_to_the_end = refl;
  by_faces_told = refl;
  by_targets_told = refl;
  read_twice_told = refl;
  two_sets = refl;
  read_again_told = refl;
  check_sights = refl;
  check_pair = refl;
  pair_of_another = refl;
  after_resection = refl;
  after_five = refl;
  after_four = refl;
  four_of_any_kind = refl;
  detail_before = refl;
  pair_is_missing = refl;
  close_check = refl;
  check_after_detail = refl;
  even = refl;
  uneven = refl;
  two_ways = refl;
  shifted_to_end = refl;
  middle_pair = refl;
  begun_in_face_two = refl;
  begun_late = refl;
  strangers = refl;
  sights_itself = refl;
  twice = refl;
  both_told = refl;
  refused = refl;
  left_outside = refl;
  no_blocks = refl;
  its_own = refl;
  that_of_each = refl;
  visits = rw (second_digit, decimal_digit 3 (omega arith)) refl;
  itself_again = rw second_digit refl;
  zero = rw second_digit refl;
  no_room = rw second_digit refl;
  not_there = refl;
}
