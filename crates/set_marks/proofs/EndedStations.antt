-- Stations end one after another: what is kept of those that have ended, and of the one that is
-- open.
use Rattle.std.proofs.Common.{◌≡◌, ℕ, ◌+◌, ◌-◌, ◌≤◌, Bool, true, false, List, [], ◌∷◌, ◌++◌, length}
use Rattle.std.proofs.Common.{take, drop, Option, Some, None, refl, sym, ap, subst, ◌∙◌}
use Rattle.std.proofs.Common.{arith, append_assoc}
use Rattle.std.specs.Prelude.{if◌then◌else◌, is_some}
use Rattle.std.specs.Option.{option_map}
use Rattle.std.proofs.lemmas.Bool.{false≢true}
use Rattle.std.proofs.lemmas.List.{append-nil, length-append, length-drop, drop_all, take_all}
use Rattle.std.proofs.lemmas.List.{drop-append-le, take-append-le}
use Rattle.gsi_word.specs.Blocks.{GsiBlock}
use Rattle.gsi_word.specs.Names.{name_of}
use Rattle.station_book.specs.Blocks.{has_direction}
use Rattle.station_book.specs.Places.{History, is_empty}
use Rattle.job_statements.specs.declared.beginnings.Beginnings.{Beginnings}
use Rattle.set_marks.specs.declared.marking.Marking.{Marking}
use Rattle.set_marks.specs.declared.mark.BlockMark.{BlockMark}
use Rattle.set_marks.specs.declared.recognized.Recognized.{Recognized}
use Rattle.set_marks.specs.declared.readings.Readings.{Readings}
use Rattle.set_marks.specs.declared.sight.Sight.{Sight}
use Rattle.job_statements.specs.Numbers.{Said, said_in}
use Rattle.set_marks.specs.Stations.{SetUp, Occupation, sight_in, sights_of, begins_named}
use Rattle.set_marks.specs.Stations.{begins_after, set_up_of, open_name, set_ups_of, occupations}
use Rattle.set_marks.specs.Stations.{stated_or, begun, stations_of}
use Rattle.set_marks.specs.WrittenAgain.{is_written_again, last_once_more, none_yet, counts_of}
use Rattle.set_marks.specs.WrittenAgain.{stated_count_or, written_again_of}
use Rattle.set_marks.specs.Judging.{Before, called, judged_called, judged_from, names_past, none_before}
use Rattle.set_marks.specs.Marking.{marks_from, recognized_from, station_marks, is_open_after}
use Rattle.set_marks.specs.Marking.{recognized}
use Rattle.set_marks.proofs.SetUps.{begins_unread, not_open, one_open, last_open}
use Rattle.set_marks.proofs.SetUps.{none_open_again, begun_is_new}
use Rattle.set_marks.proofs.StationReadings.{BeginBy, by_more, by_both}
use Rattle.set_marks.specs.Keeping.{TakesStation, AreMarkedFirst, AreMarked, Ends, before_in}
use Rattle.set_marks.specs.Keeping.{open_one, open_in, begun_in, BeginsStation, AddsReading, AddsTo}
use Rattle.set_marks.specs.Keeping.{open_count, count_in, begins_in, is_again_in, Adds, Keeps}

-- Nothing is marked before the first station.
pub none_marked : (m : Marking) (stated : Said) → said_in m.stated ≡ stated → m.marks.items ≡ []
    → m.stations.items ≡ [] → before_in m.names ≡ none_before → m.in_set ≡ false
    → AreMarkedFirst stated [] [] m
none_marked m stated said marks stations names in_set = record {
  same = said;
  marks = λ later. rw (marks, in_set)
      (ap (λ (b : Before). marks_from false (judged_from stated b later)) (sym names));
  told = λ later more. rw stations
      (ap (λ (b : Before). recognized_from more (judged_from stated b later)) (sym names));
}

-- A station more is judged, marked and told.
pub one_marked : (stated : Said) (ended : List Occupation) (counts : List ℕ) (s : Occupation)
    (n : ℕ) (old new : Marking) → AreMarkedFirst stated ended counts old
    → TakesStation s.name n (called old.stated.again (before_in old.names) s)
    (judged_called (said_in old.stated) (before_in old.names) s) old new
    → AreMarkedFirst stated (ended ++ s ∷ []) (counts ++ n ∷ []) new
one_marked stated ended counts s n old new are took =
    let before = before_in old.names in
    let c = called stated.again before s in
    let d = judged_called stated before s in
    let takes : TakesStation s.name n c d old new =
    subst (λ (st : Said). TakesStation s.name n (called st.again before s)
    (judged_called st before s) old new) are.same took in
    record {
      same = ap said_in takes.stated ∙ are.same;
      marks = λ later.
          let rest = judged_from stated (names_past stated before s) later in
          ap (λ (ss : List Occupation). marks_from false (judged_from stated none_before ss))
          (append_assoc ended (s ∷ []) later)
          ∙ are.marks (s ∷ later)
          ∙ sym (append_assoc old.marks.items (station_marks old.in_set c d)
          (marks_from (is_open_after old.in_set c d) rest))
          ∙ ap (λ (ms : List BlockMark). ms ++ marks_from (is_open_after old.in_set c d) rest)
          (sym takes.marks)
          ∙ ap (λ (b : Bool). new.marks.items ++ marks_from b rest) (sym takes.in_set)
          ∙ ap (λ (names : Before). new.marks.items
          ++ marks_from new.in_set (judged_from stated names later)) (sym takes.names);
      told = λ later more.
          let rest = recognized_from more (judged_from stated (names_past stated before s) later) in
          ap (λ (ss : List Occupation).
          recognized_from ((counts ++ n ∷ []) ++ more) (judged_from stated none_before ss))
          (append_assoc ended (s ∷ []) later)
          ∙ ap (λ (ns : List ℕ).
          recognized_from ns (judged_from stated none_before (ended ++ s ∷ later)))
          (append_assoc counts (n ∷ []) more)
          ∙ are.told (s ∷ later) (n ∷ more)
          ∙ sym (append_assoc old.stations.items (recognized n c d ∷ []) rest)
          ∙ ap (λ (rs : List Recognized). rs ++ rest) (sym takes.stations)
          ∙ ap (λ (names : Before). new.stations.items
          ++ recognized_from more (judged_from stated names later)) (sym takes.names);
    }

-- The station that is open has ended: it is judged and marked.
pub open_ended : (old : Readings) (m : Marking) (name : List ℕ) (sights : List Sight)
    → old.station ≡ Some name → sights ≡ old.sights.items
    → TakesStation name old.written_again
    (called old.marking.stated.again (before_in old.marking.names)
    (record { name = name; sights = sights }))
    (judged_called (said_in old.marking.stated) (before_in old.marking.names)
    (record { name = name; sights = sights })) old.marking m
    → (stated : Said) (ended : List Occupation) (counts : List ℕ)
    → AreMarkedFirst stated ended counts old.marking
    → AreMarkedFirst stated (ended ++ open_in old) (counts ++ count_in old) m
open_ended old m name sights is all takes = λ stated ended counts are.
    let s : Occupation = record { name = name; sights = sights } in
    rw (is, sym all) (one_marked stated ended counts s old.written_again old.marking m are takes)

-- Where none is open, nothing ends.
pub none_open : (old new : Readings) → old.station ≡ None → new.marking ≡ old.marking
    → Ends old new
none_open old new none marking = λ stated ended counts are.
    rw (none, marking) (subst (λ (ss : List Occupation).
    AreMarkedFirst stated ss (counts ++ []) old.marking) (sym (append-nil ended))
    (subst (λ (ns : List ℕ). AreMarkedFirst stated ended ns old.marking) (sym (append-nil counts))
    are))

at_most : (n : ℕ) (name : Option (List ℕ)) → BeginBy n (set_up_of n name)
at_most n None = tt
at_most n (Some name) = (omega arith, tt)

begin_by : (beginnings : Beginnings) (h : History)
    → BeginBy (length (sights_of h)) (set_ups_of beginnings h)
begin_by beginnings [] = tt
begin_by beginnings (b ∷ past) =
    let n = length (sights_of past) in
    let l = length-append (sights_of past) (sight_in (length past + 1) b) in
    let ss = set_ups_of beginnings past in
    let new = set_up_of n (begins_after beginnings (open_name ss) b) in
    by_more n (length (sights_of (b ∷ past))) (ss ++ new) (omega (arith, l))
    (by_both n ss new (begin_by beginnings past)
    (at_most n (begins_after beginnings (open_name ss) b)))

begun_by : (beginnings : Beginnings) (h : History)
    → BeginBy (length (sights_of h)) (begun beginnings h)
begun_by beginnings h = by beginnings.station where
  by : (station : Option (List ℕ))
      → BeginBy (length (sights_of h)) (stated_or station (set_ups_of beginnings h))
  by None = begin_by beginnings h
  by (Some name) = (omega arith, tt)

-- more readings of the last of some stations
abbrev with_more : List Sight → List Occupation → List Occupation
with_more more [] = []
with_more more (s ∷ []) = record { name = s.name; sights = s.sights ++ more } ∷ []
with_more more (s ∷ t ∷ later) = s ∷ with_more more (t ∷ later)

some_more : (more : List Sight) (s : Occupation) (ss : List Occupation) (t : Occupation)
    → with_more more (s ∷ (ss ++ t ∷ [])) ≡ s ∷ with_more more (ss ++ t ∷ [])
some_more more s [] t = refl
some_more more s (u ∷ ss) t = refl

last_more : (more : List Sight) (ss : List Occupation) (t : Occupation)
    → with_more more (ss ++ t ∷ [])
    ≡ ss ++ record { name = t.name; sights = t.sights ++ more } ∷ []
last_more more [] t = refl
last_more more (s ∷ ss) t = some_more more s ss t ∙ ap (λ (l : List Occupation). s ∷ l)
    (last_more more ss t)

-- More readings of the last of some stations leave the one before them.
more_later : (more : List Sight) (o : Occupation) (t : SetUp) (later : List SetUp) (rs : List Sight)
    → with_more more (o ∷ occupations (t ∷ later) rs)
    ≡ o ∷ with_more more (occupations (t ∷ later) rs)
more_later more o t [] rs = refl
more_later more o t (u ∷ later) rs = refl

-- the readings of a station that ends do not change by later ones
part_more : (from to : ℕ) (rs more : List Sight) → from ≤ length rs → to ≤ length rs
    → take (to - from) (drop from (rs ++ more)) ≡ take (to - from) (drop from rs)
part_more from to rs more f t =
    let l = length-drop from rs in
    ap (λ (l : List Sight). take (to - from) l) (drop-append-le from rs more f)
    ∙ take-append-le (to - from) (drop from rs) more (omega (arith, l, f, t))

-- More readings are those of the last station.
occupied_more : (ss : List SetUp) (rs more : List Sight) → BeginBy (length rs) ss
    → occupations ss (rs ++ more) ≡ with_more more (occupations ss rs)
occupied_more [] rs more by = refl
occupied_more (s ∷ []) rs more by =
    ap (λ (l : List Sight). record { name = s.name; sights = l } ∷ [])
    (drop-append-le s.from rs more by.0)
occupied_more (s ∷ t ∷ later) rs more by =
    ap (λ (l : List Sight). record { name = s.name; sights = l }
    ∷ occupations (t ∷ later) (rs ++ more)) (part_more s.from t.from rs more by.0 by.1.0)
    ∙ ap (λ (l : List Occupation). record {
      name = s.name;
      sights = take (t.from - s.from) (drop s.from rs);
    } ∷ l) (occupied_more (t ∷ later) rs more by.1)
    ∙ sym (more_later more (record {
      name = s.name;
      sights = take (t.from - s.from) (drop s.from rs);
    }) t later rs)

-- all of what is left
take_rest : (n : ℕ) (rs : List Sight) → take (length rs - n) (drop n rs) ≡ drop n rs
take_rest n rs = let l = length-drop n rs in take_all (length rs - n) (drop n rs) (omega (arith, l))

-- A station that begins after all readings has none, and ends the one before it.
occupied_next : (ss : List SetUp) (name : List ℕ) (rs : List Sight)
    → occupations (ss ++ record { name = name; from = length rs } ∷ []) rs
    ≡ occupations ss rs ++ record { name = name; sights = [] } ∷ []
occupied_next [] name rs =
    ap (λ (l : List Sight). record { name = name; sights = l } ∷ [])
    (drop_all (length rs) rs (omega arith))
occupied_next (s ∷ []) name rs =
    ap (λ (l : List Sight). record { name = s.name; sights = l }
    ∷ record { name = name; sights = drop (length rs) rs } ∷ []) (take_rest s.from rs)
    ∙ ap (λ (l : List Sight). record { name = s.name; sights = drop s.from rs }
    ∷ record { name = name; sights = l } ∷ []) (drop_all (length rs) rs (omega arith))
occupied_next (s ∷ t ∷ later) name rs =
    ap (λ (l : List Occupation). record {
      name = s.name;
      sights = take (t.from - s.from) (drop s.from rs);
    } ∷ l) (occupied_next (t ∷ later) name rs)

-- the same, where it is open
open_more : (name : Option (List ℕ)) (ended : List Occupation) (rs more : List Sight)
    → (name ≡ None → ended ≡ [])
    → with_more more (ended ++ open_one name rs) ≡ ended ++ open_one name (rs ++ more)
open_more None ended rs more none = rw (none refl) refl
open_more (Some n) ended rs more none =
    last_more more ended (record { name = n; sights = rs })

-- Where no station is open, none has ended.
none_ended : (name : Option (List ℕ)) (ss : List SetUp) (ended : List Occupation)
    (rs all : List Sight)
    → is_empty (begun_in name) ≡ is_empty ss → occupations ss all ≡ ended ++ open_one name rs
    → name ≡ None → ended ≡ []
none_ended (Some n) ss ended rs all e is none = cc
none_ended None [] ended rs all e is none = sym (append-nil ended) ∙ sym is
none_ended None (s ∷ ss) ended rs all e is none = cc

-- a block that begins a station is no reading
no_reading : (beginnings : Beginnings) (current : Option (List ℕ)) (number : ℕ) (b : GsiBlock)
    (name : List ℕ) → begins_after beginnings current b ≡ Some name → sight_in number b ≡ []
no_reading beginnings current number b name e =
    let none : has_direction b ≡ false = begins_unread beginnings b name
    (not_open beginnings.same_set_up current (begins_named beginnings b) name e) in
    rw none refl

-- Where a station is open, some have begun.
pub keeps_open : (beginnings : Beginnings) (stated : Said) (h : History) (r : Readings)
    → Keeps beginnings stated h r
    → is_empty (begun_in r.station) ≡ is_empty (begun beginnings h)
keeps_open beginnings stated h r kept =
    ap (λ (n : Option (List ℕ)). is_empty (begun_in n)) kept.station
    ∙ one_open (begun beginnings h)

-- The count of the last is one more, whichever stand before it.
later_once_more : (k : ℕ) (counts : List ℕ) (n : ℕ)
    → last_once_more (k ∷ (counts ++ n ∷ [])) ≡ k ∷ last_once_more (counts ++ n ∷ [])
later_once_more k [] n = refl
later_once_more k (m ∷ counts) n = refl

open_once_more : (counts : List ℕ) (n : ℕ)
    → last_once_more (counts ++ n ∷ []) ≡ counts ++ (n + 1) ∷ []
open_once_more [] n = refl
open_once_more (k ∷ counts) n =
    later_once_more k counts n ∙ ap (λ (ns : List ℕ). k ∷ ns) (open_once_more counts n)

-- The counts after a block that begins no station: that of the station that is open is one more,
-- where the block is its set-up line, written again.
counted_more : (station : Option (List ℕ)) (again : Bool) (counts : List ℕ) (n m : ℕ)
    → (station ≡ None → again ≡ false) → m ≡ (if again then n + 1 else n)
    → (if again then last_once_more (counts ++ open_count station n)
    else (counts ++ open_count station n) ++ []) ≡ counts ++ open_count station m
counted_more station false counts n m none is =
    append-nil (counts ++ open_count station n)
    ∙ ap (λ (k : ℕ). counts ++ open_count station k) (sym is)
counted_more None true counts n m none is = absurd (false≢true (sym (none refl)))
counted_more (Some name) true counts n m none is =
    open_once_more counts n ∙ ap (λ (k : ℕ). counts ++ k ∷ []) (sym is)

-- What is kept before the first block.
pub none_kept : (beginnings : Beginnings) (stated : Said) (r : Readings)
    → AreMarkedFirst stated [] [] r.marking → r.sights.items ≡ [] → r.written_again ≡ 0
    → r.station ≡ option_map name_of beginnings.station → r.blocks ≡ 0
    → Keeps beginnings stated [] r
none_kept beginnings stated r marked sights count is blocks = by beginnings.station refl is where
  by : (station : Option (List ℕ)) → beginnings.station ≡ station
      → r.station ≡ option_map name_of station → Keeps beginnings stated [] r
  by None e none = record {
    ended = [];
    counts = [];
    stations = rw (e, none) refl;
    counted = rw (e, none) refl;
    are_ended = marked;
    station = rw (e, none) refl;
    blocks = blocks;
  }
  by (Some name) e one = record {
    ended = [];
    counts = [];
    stations = rw (e, one, sights) refl;
    counted = rw (e, one, count) refl;
    are_ended = marked;
    station = rw (e, one) refl;
    blocks = blocks;
  }

-- What is kept with a block more, which begins no station, and after which these are the counts.
pub reads_more : (beginnings : Beginnings) (stated : Said) (h : History) (b : GsiBlock)
    (again : Bool) (r r' : Readings) → begun beginnings (b ∷ h) ≡ begun beginnings h
    → (kept : Keeps beginnings stated h r)
    → written_again_of beginnings (b ∷ h) ≡ kept.counts ++ open_count r.station r'.written_again
    → AddsReading again b (length h + 1) r r'
    → r'.blocks ≡ length h + 1 → Keeps beginnings stated (b ∷ h) r'
reads_more beginnings stated h b again r r' same kept counted adds blocks =
    let rs = sights_of h in
    let more = sight_in (length h + 1) b in
    record {
      ended = kept.ended;
      counts = kept.counts;
      counted = counted ∙ ap (λ (n : Option (List ℕ)).
          kept.counts ++ open_count n r'.written_again) (sym adds.station);
      stations = ap (λ (ss : List SetUp). occupations ss (rs ++ more)) same
          ∙ occupied_more (begun beginnings h) rs more (begun_by beginnings h)
          ∙ ap (λ (ss : List Occupation). with_more more ss) kept.stations
          ∙ open_more r.station kept.ended r.sights.items more
          (none_ended r.station (begun beginnings h) kept.ended r.sights.items rs
          (keeps_open beginnings stated h r kept) kept.stations)
          ∙ ap (λ (l : List Sight). kept.ended ++ open_one r.station l) (sym adds.sights)
          ∙ ap (λ (n : Option (List ℕ)). kept.ended ++ open_one n r'.sights.items)
          (sym adds.station);
      are_ended = rw adds.marking kept.are_ended;
      station = adds.station ∙ kept.station ∙ ap (λ (ss : List SetUp). open_name ss) (sym same);
      blocks = blocks ∙ omega arith;
    }

-- What is kept with a block more, which begins a station of this name.
pub begins_next : (beginnings : Beginnings) (stated : Said) (h : History) (b : GsiBlock)
    (name : List ℕ) (r r' : Readings) → beginnings.station ≡ None
    → begins_after beginnings (open_name (set_ups_of beginnings h)) b ≡ Some name
    → Keeps beginnings stated h r → BeginsStation name r r' → r'.blocks ≡ length h + 1
    → Keeps beginnings stated (b ∷ h) r'
begins_next beginnings stated h b name r r' unstated begins kept adds blocks =
    let rs = sights_of h in
    let ss = set_ups_of beginnings h in
    let new : SetUp = record { name = name; from = length rs } in
    let none : sight_in (length h + 1) b ≡ [] =
    no_reading beginnings (open_name ss) (length h + 1) b name begins in
    let before : begun beginnings h ≡ ss =
    ap (λ (s : Option (List ℕ)). stated_or s ss) unstated in
    let after : begun beginnings (b ∷ h) ≡ ss ++ new ∷ [] =
    ap (λ (s : Option (List ℕ)). stated_or s (set_ups_of beginnings (b ∷ h))) unstated
    ∙ ap (λ (o : Option (List ℕ)). ss ++ set_up_of (length rs) o) begins in
    let counts = counts_of beginnings h in
    let counts_before : counts ≡ kept.counts ++ count_in r =
    sym (ap (λ (s : Option (List ℕ)). stated_count_or s counts) unstated) ∙ kept.counted in
    let counts_after : written_again_of beginnings (b ∷ h) ≡ counts ++ 0 ∷ [] =
    ap (λ (s : Option (List ℕ)). stated_count_or s (counts_of beginnings (b ∷ h))) unstated
    ∙ ap (λ (t : Bool). if t then last_once_more counts
    else counts ++ none_yet (begins_after beginnings (open_name ss) b))
    (begun_is_new beginnings (open_name ss) b name begins)
    ∙ ap (λ (o : Option (List ℕ)). counts ++ none_yet o) begins in
    record {
      ended = kept.ended ++ open_in r;
      counts = kept.counts ++ count_in r;
      counted = counts_after
          ∙ ap (λ (ns : List ℕ). ns ++ 0 ∷ []) counts_before
          ∙ ap (λ (n : ℕ). (kept.counts ++ count_in r) ++ open_count (Some name) n)
          (sym adds.count)
          ∙ ap (λ (s : Option (List ℕ)).
          (kept.counts ++ count_in r) ++ open_count s r'.written_again) (sym adds.station);
      stations = ap (λ (ts : List SetUp). occupations ts (rs ++ sight_in (length h + 1) b)) after
          ∙ ap (λ (l : List Sight). occupations (ss ++ new ∷ []) (rs ++ l)) none
          ∙ ap (λ (l : List Sight). occupations (ss ++ new ∷ []) l) (append-nil rs)
          ∙ occupied_next ss name rs
          ∙ ap (λ (os : List Occupation). os ++ record { name = name; sights = [] } ∷ [])
          (ap (λ (ts : List SetUp). occupations ts rs) (sym before) ∙ kept.stations)
          ∙ ap (λ (l : List Sight). (kept.ended ++ open_in r) ++ open_one (Some name) l)
          (sym adds.sights)
          ∙ ap (λ (n : Option (List ℕ)). (kept.ended ++ open_in r) ++ open_one n r'.sights.items)
          (sym adds.station);
      are_ended = adds.ends stated kept.ended kept.counts kept.are_ended;
      station = adds.station
          ∙ sym (ap (λ (ts : List SetUp). open_name ts) after ∙ last_open ss new);
      blocks = blocks ∙ omega arith;
    }

-- What is kept with a block more, where no station is stated.
next_unstated : (beginnings : Beginnings) (stated : Said) (h : History) (b : GsiBlock)
    (r r' : Readings) (name : Option (List ℕ)) → beginnings.station ≡ None
    → r.station ≡ open_name (set_ups_of beginnings h)
    → begins_after beginnings (open_name (set_ups_of beginnings h)) b ≡ name
    → Keeps beginnings stated h r
    → AddsTo name (is_written_again beginnings (open_name (set_ups_of beginnings h)) b)
    b (length h + 1) r r'
    → r'.blocks ≡ length h + 1 → Keeps beginnings stated (b ∷ h) r'
next_unstated beginnings stated h b r r' None unstated current begins kept adds blocks =
    let ss = set_ups_of beginnings h in
    let again = is_written_again beginnings (open_name ss) b in
    let counts = counts_of beginnings h in
    let counts_before : counts ≡ kept.counts ++ count_in r =
    sym (ap (λ (s : Option (List ℕ)). stated_count_or s counts) unstated) ∙ kept.counted in
    let counted : written_again_of beginnings (b ∷ h)
    ≡ kept.counts ++ open_count r.station r'.written_again =
    ap (λ (s : Option (List ℕ)). stated_count_or s (counts_of beginnings (b ∷ h))) unstated
    ∙ ap (λ (o : Option (List ℕ)).
    if again then last_once_more counts else counts ++ none_yet o) begins
    ∙ ap (λ (ns : List ℕ). if again then last_once_more ns else ns ++ []) counts_before
    ∙ counted_more r.station again kept.counts r.written_again r'.written_again
    (λ none. ap (λ (o : Option (List ℕ)). is_written_again beginnings o b) (sym current ∙ none)
    ∙ none_open_again beginnings.same_set_up (begins_named beginnings b)) adds.count in
    let same : begun beginnings (b ∷ h) ≡ begun beginnings h =
    ap (λ (o : Option (List ℕ)).
    stated_or beginnings.station (ss ++ set_up_of (length (sights_of h)) o)) begins
    ∙ ap (λ (ts : List SetUp). stated_or beginnings.station ts) (append-nil ss) in
    reads_more beginnings stated h b again r r' same kept counted adds blocks
next_unstated beginnings stated h b r r' (Some name) unstated current begins kept adds blocks =
    begins_next beginnings stated h b name r r' unstated begins kept adds blocks

-- What is kept with a block more.
pub keeps_next : (beginnings : Beginnings) (stated : Said) (h : History) (b : GsiBlock)
    (r r' : Readings) → Keeps beginnings stated h r
    → Adds beginnings b (length h + 1) r r' → Keeps beginnings stated (b ∷ h) r'
keeps_next beginnings stated h b r r' kept adds = by beginnings.station refl where
  by : (station : Option (List ℕ)) → beginnings.station ≡ station
      → Keeps beginnings stated (b ∷ h) r'
  by (Some name) e =
      let same : begun beginnings (b ∷ h) ≡ begun beginnings h =
      ap (λ (s : Option (List ℕ)). stated_or s (set_ups_of beginnings (b ∷ h))) e
      ∙ sym (ap (λ (s : Option (List ℕ)). stated_or s (set_ups_of beginnings h)) e) in
      let counts : written_again_of beginnings (b ∷ h)
      ≡ kept.counts ++ open_count r.station r.written_again =
      ap (λ (s : Option (List ℕ)). stated_count_or s (counts_of beginnings (b ∷ h))) e
      ∙ sym (ap (λ (s : Option (List ℕ)). stated_count_or s (counts_of beginnings h)) e)
      ∙ kept.counted in
      let reads : AddsReading false b (length h + 1) r r' = rw e at adds.adds in
      reads_more beginnings stated h b false r r' same kept
      (counts ∙ ap (λ (n : ℕ). kept.counts ++ open_count r.station n) (sym reads.count))
      reads adds.blocks
  by None e =
      let ss = set_ups_of beginnings h in
      let current : r.station ≡ open_name ss = kept.station
      ∙ ap (λ (s : Option (List ℕ)). open_name (stated_or s ss)) e in
      let begins : begins_in beginnings r.station b ≡ begins_after beginnings (open_name ss) b =
      ap (λ (s : Option (List ℕ)).
      if is_some s then None else begins_after beginnings r.station b) e
      ∙ ap (λ (c : Option (List ℕ)). begins_after beginnings c b) current in
      let again : is_again_in beginnings r.station b
      ≡ is_written_again beginnings (open_name ss) b =
      ap (λ (s : Option (List ℕ)).
      if is_some s then false else is_written_again beginnings r.station b) e
      ∙ ap (λ (c : Option (List ℕ)). is_written_again beginnings c b) current in
      next_unstated beginnings stated h b r r' (begins_after beginnings (open_name ss) b) e current
      refl kept
      (subst (λ (t : Bool). AddsTo (begins_after beginnings (open_name ss) b) t b (length h + 1) r r')
      again (subst (λ (o : Option (List ℕ)).
      AddsTo o (is_again_in beginnings r.station b) b (length h + 1) r r') begins adds.adds))
      adds.blocks

-- All stations are marked, once the last has ended.
pub all_marked : (beginnings : Beginnings) (stated : Said) (h : History) (old new : Readings)
    → Keeps beginnings stated h old → Ends old new
    → AreMarkedFirst stated (stations_of beginnings h) (written_again_of beginnings h) new.marking
all_marked beginnings stated h old new kept ends =
    subst (λ (ss : List Occupation).
    AreMarkedFirst stated ss (written_again_of beginnings h) new.marking) (sym kept.stations)
    (subst (λ (ns : List ℕ). AreMarkedFirst stated (kept.ended ++ open_in old) ns new.marking)
    (sym kept.counted) (ends stated kept.ended kept.counts kept.are_ended))

pub are_marked : (stated : Said) (stations : List Occupation) (counts : List ℕ) (m : Marking)
    → AreMarkedFirst stated stations counts m → AreMarked stated stations counts m
are_marked stated stations counts m are = record {
  same = are.same;
  marks = sym (ap (λ (ss : List Occupation). marks_from false (judged_from stated none_before ss))
      (sym (append-nil stations)) ∙ are.marks [] ∙ append-nil m.marks.items);
  told = sym (ap (λ (ss : List Occupation).
      recognized_from counts (judged_from stated none_before ss)) (sym (append-nil stations))
      ∙ ap (λ (ns : List ℕ). recognized_from ns (judged_from stated none_before (stations ++ [])))
      (sym (append-nil counts)) ∙ are.told [] [] ∙ append-nil m.stations.items);
}
