-- The readings of a file's stations are its readings, one after another.
use Rattle.std.proofs.Common.{◌≡◌, ℕ, ◌+◌, ◌-◌, ◌≤◌, true, false, List, [], ◌∷◌, ◌++◌, length, take}
use Rattle.std.proofs.Common.{drop, Option, Some, None, refl, sym, ap, subst, ◌∙◌, inl, inr, arith}
use Rattle.std.specs.Prelude.{⊤}
use Rattle.std.specs.List.{AllByRecursion, flat_map}
use Rattle.std.proofs.lemmas.Bool.{cases_Bool, false≢true}
use Rattle.std.proofs.lemmas.List.{append-nil, length-append, drop-drop, take-append-drop}
use Rattle.gsi_word.specs.Blocks.{GsiBlock}
use Rattle.station_book.specs.Blocks.{has_direction}
use Rattle.station_book.specs.Places.{History, is_empty}
use Rattle.job_statements.specs.declared.beginnings.Beginnings.{Beginnings}
use Rattle.set_marks.specs.declared.sight.Sight.{Sight}
use Rattle.set_marks.specs.Stations.{SetUp, sight_in, sights_of, begins_after, set_up_of, open_name}
use Rattle.set_marks.specs.Stations.{set_ups_of, occupations, stated_or, begun, stations_of}
use Rattle.set_marks.specs.Stations.{Occupation}

-- all readings of these stations
abbrev pub all_sights : List Occupation → List Sight
all_sights ss = flat_map (λ s. s.sights) ss

-- each begins no later than the next
abbrev AreAscending : List SetUp → Type 0
AreAscending [] = ⊤
AreAscending (s ∷ []) = ⊤
AreAscending (s ∷ t ∷ later) = (s.from ≤ t.from) × AreAscending (t ∷ later)

-- each begins after so many readings at most
abbrev pub BeginBy : ℕ → List SetUp → Type 0
BeginBy n ss = AllByRecursion (λ s. s.from ≤ n) ss

-- The first begins with the first reading; without one there is no reading.
abbrev BeginFirst : List SetUp → List Sight → Type 0
BeginFirst [] rs = rs ≡ []
BeginFirst (s ∷ ss) rs = s.from ≡ 0

one_more : (ss : List SetUp) (t : SetUp) → AreAscending ss → BeginBy t.from ss
    → AreAscending (ss ++ t ∷ [])
one_more [] t up by = tt
one_more (s ∷ []) t up by = (by.0, tt)
one_more (s ∷ u ∷ ss) t up by = (up.0, one_more (u ∷ ss) t up.1 by.1)

pub by_more : (n m : ℕ) (ss : List SetUp) → n ≤ m → BeginBy n ss → BeginBy m ss
by_more n m [] le by = tt
by_more n m (s ∷ ss) le by = ((let l = by.0 in omega arith), by_more n m ss le by.1)

pub by_both : (n : ℕ) (ss ts : List SetUp) → BeginBy n ss → BeginBy n ts → BeginBy n (ss ++ ts)
by_both n [] ts a b = b
by_both n (s ∷ ss) ts a b = (a.0, by_both n ss ts a.1 b)

-- Stations that begin in order, the last at this many readings at most.
record AreInOrder (ss : List SetUp) (rs : List Sight) : Type 0 where
  pub up : AreAscending ss
  pub by : BeginBy (length rs) ss
  pub first : BeginFirst ss rs

-- A reading stands after the begin of a station.
abbrev pub HasStation : Beginnings → History → GsiBlock → Type 0
HasStation beginnings past b = has_direction b ≡ true → is_empty (begun beginnings past) ≡ false

-- each reading does
abbrev pub HaveStations : Beginnings → History → Type 0
HaveStations beginnings [] = ⊤
HaveStations beginnings (b ∷ past) = HasStation beginnings past b × HaveStations beginnings past

in_order : (beginnings : Beginnings) (h : History) → beginnings.station ≡ None
    → HaveStations beginnings h → AreInOrder (set_ups_of beginnings h) (sights_of h)
in_order beginnings [] unstated have = record { up = tt; by = tt; first = refl }
in_order beginnings (b ∷ past) unstated have =
    let old = in_order beginnings past unstated have.1 in
    let rs = sights_of past in
    let more = sight_in (length past + 1) b in
    let ss = set_ups_of beginnings past in
    let long : length rs ≤ length (rs ++ more) = omega (arith, length-append rs more) in
    next (begins_after beginnings (open_name ss) b) old long where
      begins : (ss : List SetUp) (new : SetUp)
          → (sights_of past ≡ [] → length (sights_of past) ≡ length {A = Sight} [])
          → BeginFirst ss (sights_of past) → new.from ≡ length (sights_of past)
          → BeginFirst (ss ++ new ∷ []) (sights_of past ++ sight_in (length past + 1) b)
      begins [] new count first from = from ∙ count first
      begins (s ∷ ss) new count first from = first

      stays : (ss : List SetUp) → set_ups_of beginnings past ≡ ss
          → BeginFirst ss (sights_of past)
          → BeginFirst ss (sights_of past ++ sight_in (length past + 1) b)
      stays [] is first = elim (cases_Bool (has_direction b)) [
        | inl h ↦ absurd (false≢true (sym (have.0 h)
            ∙ ap (λ (s : Option (List ℕ)).
            is_empty (stated_or s (set_ups_of beginnings past))) unstated
            ∙ ap (λ (ts : List SetUp). is_empty ts) is))
        | inr h ↦ rw (first, h) refl
      ]
      stays (s ∷ ss) is first = first

      next : (name : Option (List ℕ))
          → AreInOrder (set_ups_of beginnings past) (sights_of past)
          → length (sights_of past) ≤ length (sights_of past ++ sight_in (length past + 1) b)
          → AreInOrder (set_ups_of beginnings past ++ set_up_of (length (sights_of past)) name)
          (sights_of past ++ sight_in (length past + 1) b)
      next (Some name) old long =
          let rs = sights_of past in
          let more = sight_in (length past + 1) b in
          let ss = set_ups_of beginnings past in
          let new : SetUp = record { name = name; from = length rs } in
          record {
            up = one_more ss new old.up old.by;
            by = by_both (length (rs ++ more)) ss (new ∷ [])
                (by_more (length rs) (length (rs ++ more)) ss long old.by) (long, tt);
            first = begins ss new (ap (λ (xs : List Sight). length xs)) old.first refl;
          }
      next None old long =
          let rs = sights_of past in
          let more = sight_in (length past + 1) b in
          let ss = set_ups_of beginnings past in
          subst (λ (ts : List SetUp). AreInOrder ts (rs ++ more)) (sym (append-nil ss)) (record {
            up = old.up;
            by = by_more (length rs) (length (rs ++ more)) ss long old.by;
            first = stays ss refl old.first;
          })

all_from : (s : SetUp) (later : List SetUp) (rs : List Sight) → AreAscending (s ∷ later)
    → all_sights (occupations (s ∷ later) rs) ≡ drop s.from rs
all_from s [] rs up = append-nil (drop s.from rs)
all_from s (t ∷ later) rs up =
    let beyond : drop (t.from - s.from) (drop s.from rs) ≡ drop t.from rs =
    drop-drop (t.from - s.from) s.from rs
    ∙ ap (λ (k : ℕ). drop k rs) (let le = up.0 in omega arith) in
    ap (λ (xs : List Sight). take (t.from - s.from) (drop s.from rs) ++ xs)
    (all_from t later rs up.1 ∙ sym beyond)
    ∙ take-append-drop (t.from - s.from) (drop s.from rs)

all_of : (ss : List SetUp) (rs : List Sight) → AreInOrder ss rs → all_sights (occupations ss rs)
    ≡ rs
all_of [] rs is = sym is.first
all_of (s ∷ later) rs is = all_from s later rs is.up
    ∙ ap (λ (k : ℕ). drop k rs) is.first

-- Where each reading stands after the begin of a station, the readings of the stations are all.
pub all_are_read : (beginnings : Beginnings) (h : History) → HaveStations beginnings h
    → all_sights (stations_of beginnings h) ≡ sights_of h
all_are_read beginnings h have = by beginnings.station refl where
  by : (station : Option (List ℕ)) → beginnings.station ≡ station
      → all_sights (occupations (stated_or station (set_ups_of beginnings h)) (sights_of h))
      ≡ sights_of h
  by (Some name) e = append-nil (sights_of h)
  by None e =
      all_of (set_ups_of beginnings h) (sights_of h) (in_order beginnings h e have)
