-- What the book reads in the blocks of code lines.
use Rattle.std.proofs.Common.{◌≡◌, ℕ, zero, suc, ◌-◌, ◌<◌, Bool, true, false, List, [], ◌∷◌, ◌++◌}
use Rattle.std.proofs.Common.{length, replicate, Option, Some, None, refl, sym, ap, arith}
use Rattle.std.specs.Prelude.{◌==◌}
use Rattle.std.proofs.lemmas.Bool.{agree_below, agree_below_at, eqb-true}
use Rattle.gsi_word.specs.Names.{name_of}
use Rattle.station_book.specs.Blocks.{role_of, opens_station, opens_set, closes_set, has_two, named}
use Rattle.station_book.specs.Blocks.{number}
use Rattle.set_marks.specs.declared.mark.Code.TheVariants.{Station, Set, Close}
use Rattle.set_marks.specs.Marks.{width_of, code_block}
use Rattle.set_marks.proofs.BareNames.{IsBareName}

pub opens_station_as : (wide : Bool) (name : List ℕ)
    → opens_station (code_block wide (Station name)) ≡ true
unfolding role_of
opens_station_as true name = refl
opens_station_as false name = refl

pub station_once : (wide : Bool) (name : List ℕ)
    → has_two 42 (code_block wide (Station name)) ≡ false
unfolding has_two
station_once wide name = refl

bare : (zeros : ℕ) (name : List ℕ) → IsBareName name → name_of (replicate zeros 48 ++ name) ≡ name
bare zero name is = is.bare
bare (suc zeros) name is = more (replicate zeros 48 ++ name) (bare zeros name is) where
  more : (bytes : List ℕ) → name_of bytes ≡ name → name_of (48 ∷ bytes) ≡ name
  more [] e = absurd
      (let l : 0 ≡ length name = ap length e in let s = is.is_name.some in omega arith)
  more (b ∷ bytes) e = e

-- A code line of a station names it.
pub station_named : (wide : Bool) (name : List ℕ) → IsBareName name
    → named (code_block wide (Station name)) ≡ Some name
unfolding named
station_named wide name is = ap (λ (bytes : List ℕ). Some bytes)
    (bare (width_of wide - length name) name is)

pub opens_set_as : (wide : Bool) (n : ℕ) → opens_set (code_block wide (Set n)) ≡ true
unfolding role_of
opens_set_as true n = refl
opens_set_as false n = refl

pub set_once : (wide : Bool) (n : ℕ) → has_two 42 (code_block wide (Set n)) ≡ false
unfolding has_two
set_once wide n = refl

abbrev is_number : ℕ → Option ℕ → Bool
is_number n None = false
is_number n (Some m) = n == m

all_numbered : (wide : Bool)
    → agree_below (λ n. is_number (suc n) (number (code_block wide (Set (suc n))))) (λ n. true) 40
    ≡ true
unfolding number named
all_numbered true = refl
all_numbered false = refl

number_is : (n : ℕ) (o : Option ℕ) → is_number n o ≡ true → o ≡ Some n
number_is n None e = cc
number_is n (Some m) e = ap (λ (k : ℕ). Some k) (sym (eqb-true n m e))

-- A code line of a set has its number, from 1 to 40.
pub set_numbered : (wide : Bool) (n : ℕ) → n < 40
    → number (code_block wide (Set (suc n))) ≡ Some (suc n)
set_numbered wide n lt = number_is (suc n) (number (code_block wide (Set (suc n))))
    (agree_below_at (λ k. is_number (suc k) (number (code_block wide (Set (suc k))))) (λ k. true)
    40 n (all_numbered wide) lt)

pub closes_set_as : (wide : Bool) → closes_set (code_block wide Close) ≡ true
unfolding role_of
closes_set_as true = refl
closes_set_as false = refl
