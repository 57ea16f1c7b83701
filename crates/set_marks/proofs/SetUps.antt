-- Blocks that begin stations: they are no readings, and the last station that has begun is open.
use Rattle.std.proofs.Common.{◌≡◌, ℕ, Bool, true, false, ◌&&◌, not, List, [], ◌∷◌, ◌++◌}
use Rattle.std.proofs.Common.{Option, Some, None, refl, sym, ap, ◌∙◌, inl, inr}
use Rattle.std.specs.Prelude.{if◌then◌else◌, is_some, is_none}
use Rattle.std.specs.Str.{bytes_eq}
use Rattle.std.proofs.lemmas.Bool.{cases_Bool, and_parts, false≢true}
use Rattle.gsi_word.specs.Blocks.{GsiBlock}
use Rattle.gsi_word.specs.Names.{name_of}
use Rattle.station_book.specs.declared.role.Role.{Role}
use Rattle.station_book.specs.declared.role.Role.TheVariants.{Station, Set, Close, Measurement}
use Rattle.station_book.specs.declared.role.Role.TheVariants.{Other}
use Rattle.station_book.specs.Blocks.{role_of, lacks, has_direction, is_measurement, target}
use Rattle.station_book.specs.Places.{is_empty}
use Rattle.job_statements.specs.declared.beginnings.Beginnings.{Beginnings}
use Rattle.set_marks.specs.declared.fault.MarkFault.TheVariants.{At}
use Rattle.set_marks.specs.declared.fault.MarkKind.TheVariants as kinds
use Rattle.set_marks.specs.Stations.{SetUp, sets_up, tells_set_up, is_other, has_code, information}
use Rattle.set_marks.specs.Stations.{begins_named, is_open_as, unless_open, begins_after, open_name}
use Rattle.set_marks.specs.Stations.{set_up_fault}
use Rattle.set_marks.specs.WrittenAgain.{is_written_again}
use Rattle.set_marks.specs.Keeping.{begun_in, begins_in, is_again_in}

no_direction : (m l w : Bool) → (m && (l && w)) ≡ true → (m && not l) ≡ false
no_direction true true w e = refl
no_direction true false w e = cc
no_direction false l w e = refl

other_unread : (r : Role) (l : Bool) → is_other r ≡ true → (is_measurement r && not l) ≡ false
other_unread Station l e = refl
other_unread Set l e = refl
other_unread Close l e = refl
other_unread Measurement l e = cc
other_unread Other l e = refl

coded_is_other : (code : Option (List ℕ)) (b : GsiBlock) → has_code code b ≡ true
    → is_other (role_of b) ≡ true
coded_is_other None b e = cc
coded_is_other (Some code) b e =
    (and_parts (is_other (role_of b)) (bytes_eq (target b) (name_of code)) e).0

-- A block that begins a station is no reading.
pub begins_unread : (beginnings : Beginnings) (b : GsiBlock) (name : List ℕ)
    → begins_named beginnings b ≡ Some name → has_direction b ≡ false
unfolding begins_named
begins_unread beginnings b name e = elim (cases_Bool (sets_up b)) [
  | inl h ↦ no_direction (is_measurement (role_of b)) (lacks 21 b) (tells_set_up b) h
  | inr h ↦ elim (cases_Bool (has_code beginnings.code b)) [
    | inl g ↦ other_unread (role_of b) (lacks 21 b) (coded_is_other beginnings.code b g)
    | inr g ↦ let f : None ≡ Some name = rw (h, g) at e in cc
  ]
]

-- A reading begins none.
pub reading_names_none : (beginnings : Beginnings) (b : GsiBlock) → has_direction b ≡ true
    → begins_named beginnings b ≡ None
reading_names_none beginnings b d = by (begins_named beginnings b) refl where
  by : (o : Option (List ℕ)) → begins_named beginnings b ≡ o → o ≡ None
  by None e = refl
  by (Some name) e = absurd (false≢true (sym (begins_unread beginnings b name e) ∙ d))

-- A set-up line begins the station in its first word.
pub set_up_names : (beginnings : Beginnings) (b : GsiBlock) → role_of b ≡ Measurement
    → lacks 21 b ≡ true → tells_set_up b ≡ true → begins_named beginnings b ≡ Some (target b)
unfolding begins_named
set_up_names beginnings b role lack tells = rw (role, lack, tells) refl

-- A measurement that sets no station up begins none.
pub measurement_names_none : (beginnings : Beginnings) (b : GsiBlock) → role_of b ≡ Measurement
    → tells_set_up b ≡ false → begins_named beginnings b ≡ None
unfolding begins_named
measurement_names_none beginnings b role tells =
    let none : sets_up b ≡ false = rw (role, tells) (by (lacks 21 b)) in
    let other : has_code beginnings.code b ≡ false = by_code beginnings.code in
    rw (none, other) refl where
      by : (l : Bool) → (l && false) ≡ false
      by true = refl
      by false = refl

      by_code : (code : Option (List ℕ)) → has_code code b ≡ false
      by_code None = refl
      by_code (Some code) = rw role refl

-- A measurement with a direction begins none.
pub direction_names_none : (beginnings : Beginnings) (b : GsiBlock) → role_of b ≡ Measurement
    → lacks 21 b ≡ false → begins_named beginnings b ≡ None
direction_names_none beginnings b role lack =
    reading_names_none beginnings b (rw (role, lack) refl)

-- A block of the stated code begins the station in its first word 42.
pub coded_names : (beginnings : Beginnings) (b : GsiBlock) → role_of b ≡ Other
    → has_code beginnings.code b ≡ true → begins_named beginnings b ≡ information b
unfolding begins_named
coded_names beginnings b role coded = rw coded (rw role refl)

-- A block of another code begins none.
pub uncoded_names_none : (beginnings : Beginnings) (b : GsiBlock) → role_of b ≡ Other
    → has_code beginnings.code b ≡ false → begins_named beginnings b ≡ None
unfolding begins_named
uncoded_names_none beginnings b role coded = rw coded (rw role refl)

-- A block of code 10, 20 or 30 begins none.
code_names_none : (beginnings : Beginnings) (b : GsiBlock) (r : Role) → role_of b ≡ r
    → is_measurement r ≡ false → is_other r ≡ false → begins_named beginnings b ≡ None
unfolding begins_named
code_names_none beginnings b r role measured other =
    let none : sets_up b ≡ false =
    ap (λ (m : Bool). m && (lacks 21 b && tells_set_up b))
    (ap (λ (q : Role). is_measurement q) role ∙ measured) in
    let coded : has_code beginnings.code b ≡ false = by beginnings.code in
    rw (none, coded) refl where
      by : (code : Option (List ℕ)) → has_code code b ≡ false
      by None = refl
      by (Some code) = ap (λ (o : Bool). o && bytes_eq (target b) (name_of code))
          (ap (λ (q : Role). is_other q) role ∙ other)

pub station_names_none : (beginnings : Beginnings) (b : GsiBlock) → role_of b ≡ Station
    → begins_named beginnings b ≡ None
station_names_none beginnings b role = code_names_none beginnings b Station role refl refl

pub set_names_none : (beginnings : Beginnings) (b : GsiBlock) → role_of b ≡ Set
    → begins_named beginnings b ≡ None
set_names_none beginnings b role = code_names_none beginnings b Set role refl refl

pub close_names_none : (beginnings : Beginnings) (b : GsiBlock) → role_of b ≡ Close
    → begins_named beginnings b ≡ None
close_names_none beginnings b role = code_names_none beginnings b Close role refl refl

-- The name of the station that a block begins, by its role.
pub ruleset names = (
  set_up_names,
  measurement_names_none,
  direction_names_none,
  coded_names,
  uncoded_names_none,
  station_names_none,
  set_names_none,
  close_names_none,
)

-- Where a block has no name to begin a station of, it begins none.
pub named_none : (beginnings : Beginnings) (current : Option (List ℕ)) (b : GsiBlock)
    → begins_named beginnings b ≡ None → begins_in beginnings current b ≡ None
named_none beginnings current b e = by (is_some beginnings.station) where
  by : (t : Bool) → (if t then None else begins_after beginnings current b) ≡ None
  by true = refl
  by false = ap (λ (o : Option (List ℕ)). unless_open beginnings.same_set_up current o) e

-- It has no fault then.
pub no_set_up_fault : (beginnings : Beginnings) (number : ℕ) (b : GsiBlock)
    → begins_named beginnings b ≡ None → set_up_fault beginnings number b ≡ None
no_set_up_fault beginnings number b e = by (is_some beginnings.station) where
  by : (t : Bool) → (if t && is_some (begins_named beginnings b)
      then Some (At number kinds.HasSetUp) else None) ≡ None
  by true = rw e refl
  by false = refl

-- A block that has no name to begin a station of is no set-up line that is written again.
pub named_none_again : (beginnings : Beginnings) (current : Option (List ℕ)) (b : GsiBlock)
    → begins_named beginnings b ≡ None → is_again_in beginnings current b ≡ false
named_none_again beginnings current b e = by (is_some beginnings.station) where
  by : (t : Bool) → (if t then false else is_written_again beginnings current b) ≡ false
  by true = refl
  by false = ap (λ (o : Option (List ℕ)).
      is_some o && is_none (unless_open beginnings.same_set_up current o)) e

-- Where no station is open, none is written again.
pub none_open_again : (same : Bool) (o : Option (List ℕ))
    → (is_some o && is_none (unless_open same None o)) ≡ false
none_open_again same None = refl
none_open_again true (Some name) = refl
none_open_again false (Some name) = refl

-- What begins a station is none that is written again.
pub begun_is_new : (beginnings : Beginnings) (current : Option (List ℕ)) (b : GsiBlock)
    (name : List ℕ) → begins_after beginnings current b ≡ Some name
    → is_written_again beginnings current b ≡ false
begun_is_new beginnings current b name e =
    ap (λ (o : Option (List ℕ)). is_some (begins_named beginnings b) && is_none o) e
    ∙ by (is_some (begins_named beginnings b)) where
      by : (t : Bool) → (t && false) ≡ false
      by true = refl
      by false = refl

-- What begins, unless its name is had, is named.
pub not_open : (same : Bool) (current o : Option (List ℕ)) (name : List ℕ)
    → unless_open same current o ≡ Some name → o ≡ Some name
not_open same current None name e = cc
not_open same current (Some n) name e = by (same && is_open_as n current) e where
  by : (t : Bool) → (if t then None else Some n) ≡ Some name → Some n ≡ Some name
  by true f = cc
  by false f = f

-- Where some stations have begun, one is open.
pub one_open : (ss : List SetUp) → is_empty (begun_in (open_name ss)) ≡ is_empty ss
one_open [] = refl
one_open (s ∷ []) = refl
one_open (s ∷ t ∷ later) = one_open (t ∷ later)

-- The station that has begun last is open.
pub last_open : (ss : List SetUp) (new : SetUp) → open_name (ss ++ new ∷ []) ≡ Some new.name
last_open [] new = refl
last_open (s ∷ []) new = refl
last_open (s ∷ t ∷ later) new = last_open (t ∷ later) new
