-- The readings of a file, portion by portion: each with the code lines before it and with where it
-- is to be found. A rule of sets says the portions; the blocks of the copy follow from them.
use Rattle.std.proofs.Common.{◌≡◌, ℕ, suc, Bool, cond, List, [], ◌∷◌, ◌++◌, Option, Some, None}
use Rattle.std.specs.Prelude.{⊤, true, false, ◌≤◌, ◌&&◌, length, All}
use Rattle.std.specs.List.{AllByRecursion, flat_map}
use Rattle.gsi_word.specs.Blocks.{GsiBlock}
use Rattle.adjust_kernel.specs.declared.bounds.TheConstants.{MOST_SETS}
use Rattle.station_book.specs.Places.{is_among, is_empty}
use Rattle.set_marks.specs.SetsInWords.{ReadsEachOnce}
use Rattle.set_marks.specs.declared.mark.Code.{Code}
use Rattle.set_marks.specs.declared.mark.Code.TheVariants.{Station, Set, Close}
use Rattle.set_marks.specs.declared.mark.BlockMark.{BlockMark}
use Rattle.set_marks.specs.declared.sight.Sight.{Sight}
use Rattle.set_marks.specs.Found.{Found}
use Rattle.set_marks.specs.MarkedFile.{for_each}
use Rattle.set_marks.proofs.BareNames.{IsBareName}
use Rattle.set_marks.proofs.ReadingBlocks.{sights_from, IsClean}
use Rattle.set_marks.proofs.Segments.{marks_at, codes_at}

-- some readings, the code lines before the first of them, and where the book is to find them
pub record Portion : Type 0 where
  pub codes : List Code
  pub sights : List Sight
  pub found : Option Found

abbrev pub marks_in : List Portion → List BlockMark
marks_in ps = flat_map (λ p. marks_at p.sights p.codes) ps

abbrev pub sights_in : List Portion → List Sight
sights_in ps = flat_map (λ p. p.sights) ps

abbrev pub told_in : List Portion → List (Option Found)
told_in ps = flat_map (λ p. for_each p.found p.sights) ps

-- code 30 where a set is open
abbrev pub closing : Bool → List Code
closing in_set = cond in_set (Close ∷ []) []

-- readings in no set
abbrev pub outside : Bool → List Sight → Portion
outside in_set rs = record { codes = closing in_set; sights = rs; found = None }

-- the set of this number of a station
abbrev pub found_at : List ℕ → ℕ → Option Found
found_at name n = Some (record { station = Some name; set = Some n })

-- sets, whose numbers go on from this one, before other portions
abbrev pub set_portions : List ℕ → ℕ → List (List Sight) → List Portion → List Portion
set_portions name n [] more = more
set_portions name n (set ∷ sets) more =
    record { codes = Set n ∷ []; sights = set; found = found_at name n }
    ∷ set_portions name (suc n) sets more

-- the same, where the station begins
abbrev pub station_portions : List ℕ → List (List Sight) → List Portion → List Portion
station_portions name [] more = more
station_portions name (set ∷ sets) more =
    record { codes = Station name ∷ Set 1 ∷ []; sights = set; found = found_at name 1 }
    ∷ set_portions name 2 sets more

-- A station as a rule of sets divides it: its name, its readings before its sets, the sets, and the
-- readings after them. Of a station without sets all readings stand before.
pub record Site : Type 0 where
  pub name : List ℕ
  pub before : List Sight
  pub sets : List (List Sight)
  pub after : List Sight

-- whether a set is open after the sets of a station
abbrev pub open_by : Bool → List Sight → List (List Sight) → Bool
open_by in_set before [] = in_set && is_empty before
open_by in_set before (set ∷ sets) = true

-- the portions of a station, where a set is open before it or not, and then others
abbrev pub portions_of : Bool → Site → List Portion → List Portion
portions_of in_set s more =
    outside in_set s.before
    ∷ station_portions s.name s.sets (outside (open_by in_set s.before s.sets) s.after ∷ more)

-- whether a set is open after a station
abbrev pub open_after : Bool → Site → Bool
open_after in_set s = open_by in_set s.before s.sets && is_empty s.after

-- the portions of stations
abbrev pub portions_from : Bool → List Site → List Portion
portions_from in_set [] = []
portions_from in_set (s ∷ ss) = portions_of in_set s (portions_from (open_after in_set s) ss)

-- A station after those of these names: 40 sets at most, each target of which is read once in each
-- face; and where it has sets, a name of which no station has had any.
pub record IsSite (names : List (List ℕ)) (s : Site) : Type 0 where
  pub few : length s.sets ≤ MOST_SETS
  pub each : All ReadsEachOnce s.sets
  pub bare : is_empty s.sets ≡ false → IsBareName s.name
  pub new : is_empty s.sets ≡ false → is_among names s.name ≡ false

-- the names of stations with sets
abbrev pub names_with : List (List ℕ) → List ℕ → List (List Sight) → List (List ℕ)
names_with names name [] = names
names_with names name (set ∷ sets) = names ++ name ∷ []

abbrev pub AreSites : List (List ℕ) → List Site → Type 0
AreSites names [] = ⊤
AreSites names (s ∷ ss) = IsSite names s × AreSites (names_with names s.name s.sets) ss

-- These are the blocks of a portion's readings.
pub record IsGroup (p : Portion) (group : List GsiBlock) : Type 0 where
  pub number : ℕ
  pub here : sights_from number group ≡ p.sights
  pub clean : AllByRecursion IsClean group
  pub none : p.sights ≡ [] → group ≡ []

abbrev pub AreGroups : List Portion → List (List GsiBlock) → Type 0
AreGroups [] groups = ⊤
AreGroups (p ∷ ps) [] = ⊥
AreGroups (p ∷ ps) (g ∷ groups) = IsGroup p g × AreGroups ps groups

-- these blocks, each portion's after its code lines
abbrev pub blocks_in : List Portion → List (List GsiBlock) → List GsiBlock
blocks_in [] groups = []
blocks_in (p ∷ ps) [] = []
blocks_in (p ∷ ps) (g ∷ groups) = (codes_at p.sights p.codes ++ g) ++ blocks_in ps groups
