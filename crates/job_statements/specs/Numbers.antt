-- The numbers that are stated of the sets of a field file, since no reading shows it (profile). Where
-- sets are read by targets, each row of readings is, reading by reading, also the row of other sets
-- that begin one target later: so their number is asked, and of a single set that of its targets. A
-- number that is stated is never corrected: another one is refused.
use Rattle.std.specs.Prelude.{ℕ, Bool, false, ◌&&◌, not, ◌==◌, List, [], ◌∷◌}
use Rattle.std.specs.Prelude.{if◌then◌else◌, Option, Some, None, is_none}
use Rattle.std.specs.Str.{bytes_eq}
use Rattle.station_book.specs.Faults.{first_of}
use Rattle.job_statements.specs.declared.stated.NamedNumber.{NamedNumber}
use Rattle.job_statements.specs.declared.stated.Numbers.{Numbers}
use Rattle.job_statements.specs.declared.stated.Stated.{Stated}
use Rattle.job_statements.specs.declared.stated.StatedNumber.{StatedNumber}

-- A number that is stated of stations: one of each of them, and others of single ones, which stand
-- there in its place.
pub record SaidNumber : Type 0 where
  pub of_each : Option ℕ
  pub of_one : List NamedNumber

-- What is stated of a field file: how many sets were read to the end, how many targets they have,
-- whether a name that comes again is another set-up, and whether stations with a fault stay outside,
-- and the others are marked.
pub record Said : Type 0 where
  pub sets : SaidNumber
  pub targets : SaidNumber
  pub again : Bool
  pub others : Bool

-- a number, as it is stated
abbrev pub number_said : StatedNumber → SaidNumber
number_said stated = record { of_each = stated.of_each; of_one = stated.of_one.items }

-- What is stated, without the memory that it takes.
abbrev pub said_in : Stated → Said
said_in stated = record {
  sets = number_said stated.sets;
  targets = number_said stated.targets;
  again = stated.again;
  others = stated.others;
}

-- the number that is stated of the station of this name by itself, if one is
abbrev pub own_number : List NamedNumber → List ℕ → Option ℕ
own_number [] name = None
own_number (n ∷ ns) name = if bytes_eq n.name name then Some n.number else own_number ns name

-- The number that is stated of the station of this name: its own, or else that of each.
abbrev pub number_of : SaidNumber → List ℕ → Option ℕ
number_of stated name = first_of (own_number stated.of_one name ∷ stated.of_each ∷ [])

-- What is stated of the sets of the station of this name.
abbrev pub numbers_of : Said → List ℕ → Numbers
numbers_of stated name =
    record { sets = number_of stated.sets name; targets = number_of stated.targets name }

-- a number is stated, and it is not this one
abbrev pub is_another : Option ℕ → ℕ → Bool
is_another None n = false
is_another (Some m) n = not (m == n)

-- a number is needed, and it is not stated
abbrev pub is_asked : Bool → Option ℕ → Bool
is_asked needed stated = needed && is_none stated
