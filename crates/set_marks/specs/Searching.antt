-- How sets, and their targets, are looked for without comparing each reading with all: what the
-- code finds on the way.
use Rattle.std.specs.Prelude.{◌≡◌, ℕ, suc, Bool, true, false, ◌&&◌, ◌||◌, not, nat_le, List, []}
use Rattle.std.specs.Prelude.{◌∷◌, ◌<◌, ◌≤◌, length, take, drop, if◌then◌else◌}
use Rattle.std.specs.List.{list_any}
use Rattle.station_book.specs.Places.{is_among}
use Rattle.set_marks.specs.declared.known.Known.{Known}
use Rattle.set_marks.specs.declared.known.Known.TheVariants.{Few, Many}
use Rattle.set_marks.specs.declared.faces.Faces.{Faces}
use Rattle.set_marks.specs.declared.bounds.TheConstants.{MOST_READINGS}
use Rattle.set_marks.specs.declared.outside.Ending.{Ending}
use Rattle.set_marks.specs.declared.outside.Ending.TheVariants.{Nothing, CheckSights, CheckPair}
use Rattle.set_marks.specs.declared.sight.Sight.{Sight}
use Rattle.set_marks.specs.declared.ways.Found.{Found}
use Rattle.set_marks.specs.Divisions.{is_of, is_again, is_pair, are_in_face, is_by_targets}
use Rattle.set_marks.specs.Divisions.{begins_with_pair}
use Rattle.set_marks.specs.Outside.{is_ended, may_end, before_ending, in_ending, last_of}
use Rattle.set_marks.specs.Ways.{leading_of}

-- The places at which sets begin, from a place on: `even` says whether the opening target was read
-- an even number of times before it.
abbrev pub starts_from : List ℕ → Bool → ℕ → List Sight → List ℕ
starts_from a even at [] = []
starts_from a even at (r ∷ rs) =
    if is_of a r then (if even then at ∷ starts_from a false (suc at) rs
    else starts_from a true (suc at) rs)
    else starts_from a even (suc at) rs

-- A set repeats another: it reads the same targets in the same faces, in the same order.
abbrev pub repeats : List Sight → List Sight → Bool
repeats [] [] = true
repeats [] (b ∷ set) = false
repeats (a ∷ first) [] = false
repeats (a ∷ first) (b ∷ set) = is_again a b && repeats first set

-- whether a target is known
abbrev pub knows : Known → List ℕ → Bool
knows (Few sights) name = list_any (is_of name) sights.now
knows (Many names) name = is_among names name

-- The targets of these readings are known, and no others.
abbrev pub KnowsTargetsOf : List Sight → Known → Type 0
KnowsTargetsOf rs known = (name : List ℕ) → knows known name ≡ list_any (is_of name) rs

-- the targets that were read in this face
abbrev pub names_in : Bool → Faces → List (List ℕ)
names_in second faces = if second then faces.twos else faces.ones

-- The targets of these readings are kept, by the faces in which they are read.
abbrev pub KeepsFaces : List Sight → Faces → Type 0
KeepsFaces rs faces =
    (r : Sight) → is_among (names_in r.second faces) r.target ≡ list_any (is_again r) rs

-- The last of these readings is in face I.
abbrev pub ends_in_one : List Sight → Bool
ends_in_one [] = false
ends_in_one (r ∷ []) = not r.second
ends_in_one (r ∷ s ∷ rs) = ends_in_one (s ∷ rs)

-- The last of these readings may be this ending, whatever number of them leads.
abbrev pub seems_ended : Ending → List Sight → Bool
seems_ended Nothing rs = true
seems_ended CheckSights rs = ends_in_one rs
seems_ended CheckPair rs = begins_with_pair (last_of 2 rs)

-- So many of any kind, or all in face I, or pairs: else these may not lead.
abbrev pub may_be_plain : List Sight → Bool
may_be_plain leading =
    nat_le (length leading) 3 || are_in_face false leading || is_by_targets leading

-- the next of these readings of the same target as this one is in the other face
abbrev pub turns_next : Sight → List Sight → Bool
turns_next r [] = false
turns_next r (s ∷ rs) = if is_of r.target s then is_pair r s else turns_next r rs

-- the target of the first reading is read next in the other face
abbrev pub opens : List Sight → Bool
opens [] = false
opens (r ∷ rs) = turns_next r rs

-- A set may open with the first of these readings: its target is read next in the other face, among
-- no more readings than a set may have. Else the set would read it twice in one face, or never in
-- the other.
abbrev pub may_open : List Sight → Bool
may_open rs = opens (take MOST_READINGS rs)

-- There may be sets after these leading readings, with this ending of those after them. What is
-- seen in the fewest steps is asked first.
abbrev pub may_divide : Ending → List Sight → List Sight → Bool
may_divide Nothing leading rs = may_be_plain leading && may_open rs
may_divide CheckSights leading rs =
    ends_in_one rs && may_be_plain leading && may_open rs && is_ended CheckSights rs
may_divide CheckPair leading rs =
    is_ended CheckPair rs && may_end CheckPair (before_ending CheckPair rs) (in_ending CheckPair rs)
    && may_be_plain leading && may_open rs

-- There may be none with this ending, whatever number of these readings leads.
abbrev pub IsClosed : Ending → List Sight → Type 0
IsClosed ending rest = (leading : ℕ) → leading < length rest → leading ≤ MOST_READINGS
    → may_divide ending (take leading rest) (drop leading rest) ≡ false

-- There may be none with any ending but none.
abbrev pub NoneOpen : List Sight → Type 0
NoneOpen rest = IsClosed CheckSights rest × IsClosed CheckPair rest

-- The fewest leading readings with which each ending gives sets were found.
pub record IsFound (rs : List Sight) (found : Found) : Type 0 where
  pub nothing : found.nothing ≡ leading_of Nothing rs
  pub checks : found.checks ≡ leading_of CheckSights rs
  pub pair : found.pair ≡ leading_of CheckPair rs
