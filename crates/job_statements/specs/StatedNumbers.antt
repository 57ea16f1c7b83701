-- The numbers of sets or of targets that texts state: of each station, and of single ones.
use Rattle.std.specs.Prelude.{◌≡◌, ◌≢◌, ◌≤◌, ◌++◌, ℕ, [], ◌∷◌, List, Option, Some, None, IfSome, codes}
use Rattle.std.specs.Prelude.{option_map}
use Rattle.std.specs.List.{AllPairs, AllZip, filter_map}
use Rattle.std.specs.Str.Parse.{IsNumeral, digits_value, without_leading_plus}
use Rattle.adjust_kernel.specs.Names.{IsName}
use Rattle.gsi_word.specs.Names.{name_of}
use Rattle.job_statements.specs.declared.stated.NamedNumber.{NamedNumber}
use Rattle.job_statements.specs.declared.stated.StatedNumber.{StatedNumber}

-- No '=' stands in a text.
abbrev pub HasNoEquals : List ℕ → Type 0
HasNoEquals text = (before after : List ℕ) → text ≢ before ++ (codes "=" ++ after)

-- A text is cut at its last '=': all before it, and all after it.
pub record IsCutAtLast (text before after : List ℕ) : Type 0 where
  pub whole : text ≡ before ++ (codes "=" ++ after)
  pub last : HasNoEquals after

-- The parts of a text: all before its last '=', and all after it; where it has none, the whole
-- alone.
abbrev pub HasParts : List ℕ → Option (List ℕ) → List ℕ → Type 0
HasParts text None digits = HasNoEquals text × (digits ≡ text)
HasParts text (Some before) digits = IsCutAtLast text before digits

-- Digits, one at least, after a plus or none, write this number, from 1 up to a largest.
pub record WritesNumber (largest : ℕ) (digits : List ℕ) (n : ℕ) : Type 0 where
  pub numeral : IsNumeral 10 (without_leading_plus digits)
  pub value : n ≡ digits_value 10 (without_leading_plus digits)
  pub some : 1 ≤ n
  pub few : n ≤ largest

-- A number, and the name of the station of which it is; without a name it is that of each.
abbrev pub OfStation : Type 0
OfStation = Option (List ℕ) × ℕ

-- A text states this number: of the station of the name before its last '=', taken without zeros
-- before it; or of each, where it has no '='.
pub record StatesOne (largest : ℕ) (text : List ℕ) (told : OfStation) : Type 0 where
  pub before : Option (List ℕ)
  pub digits : List ℕ
  pub parts : HasParts text before digits
  pub named : IfSome before IsName
  pub of_station : told.0 ≡ option_map name_of before
  pub number : WritesNumber largest digits told.1

-- Texts state these numbers, each the one at its place. No two are of the same station, and no two
-- are of each.
pub record StateAll (largest : ℕ) (texts : List (List ℕ)) (numbers : List OfStation)
    : Type 0 where
  pub each : AllZip (StatesOne largest) texts numbers
  pub apart : AllPairs (λ one other. one.0 ≢ other.0) numbers

-- The number of each station, where it is among them.
abbrev pub number_of_each : List OfStation → Option ℕ
number_of_each [] = None
number_of_each ((None, n) ∷ numbers) = Some n
number_of_each ((Some name, n) ∷ numbers) = number_of_each numbers

-- The number of a single station.
abbrev pub named_number : OfStation → Option NamedNumber
named_number (None, n) = None
named_number (Some name, n) = Some (record { name = name; number = n })

-- These are the number of each station and those of single ones, in their order.
abbrev pub Holds : List OfStation → StatedNumber → Type 0
Holds numbers stated = (stated.of_each ≡ number_of_each numbers)
    × (stated.of_one.items ≡ filter_map named_number numbers)

-- Texts state this number: that of each station, and those of single ones in their order.
abbrev pub IsStatedBy : ℕ → List (List ℕ) → StatedNumber → Type 0
IsStatedBy largest texts stated =
    (numbers : List OfStation) × StateAll largest texts numbers × Holds numbers stated
