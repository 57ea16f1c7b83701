-- Why a text can't stand where it does, among those that state numbers.
use Rattle.std.specs.Prelude.{◌≡◌, ◌≤◌, ◌<◌, ◌^◌, ◌++◌, ℕ, [], ◌∷◌, Any, List, Option, Some, None}
use Rattle.std.specs.Prelude.{⊤}
use Rattle.std.specs.Borrow.{Bor}
use Rattle.std.specs.Str.Parse.{IsNumeral, digits_value, without_leading_plus}
use Rattle.adjust_kernel.specs.Names.{IsName}
use Rattle.job_statements.specs.declared.stated.StatedNumber.{StatedNumber}
use Rattle.job_statements.specs.StatedNumbers.{HasParts, Holds, OfStation, StateAll, StatesOne}
use Rattle.job_statements.specs.declared.numbers.CountFault.{CountFault}
use Rattle.job_statements.specs.declared.numbers.CountFault.TheVariants as fault
use Rattle.job_statements.specs.declared.numbers.Unstated.{Unstated}
use Rattle.job_statements.specs.declared.numbers.Unstated.TheVariants as unstated

-- One of these numbers is of this station, or of each.
abbrev pub IsAmong : Option (List ℕ) → List OfStation → Type 0
IsAmong station numbers = Any (λ told. told.0 ≡ station) numbers

-- Digits, one at least, after a plus or none, are the numeral of this number.
abbrev pub IsNumeralOf : List ℕ → ℕ → Type 0
IsNumeralOf digits n = IsNumeral 10 (without_leading_plus digits)
    × (n ≡ digits_value 10 (without_leading_plus digits))

-- Digits write no number up to a largest for this reason: they are no numeral, or that of a number
-- of 2^32 and more; or they are that of a smaller number, which is not from 1 up to the largest.
abbrev pub IsUnwritten : ℕ → List ℕ → CountFault → Type 0
IsUnwritten largest digits fault.Digits = (n : ℕ) → IsNumeralOf digits n → 2 ^ 32 ≤ n
IsUnwritten largest digits (fault.Range number) =
    (number.now ≡ digits) × (n : ℕ) × IsNumeralOf digits n × (n < 2 ^ 32)
    × ¬ ((1 ≤ n) × (n ≤ largest))
IsUnwritten largest digits other = ⊥

-- A text can't stand after others, which state these numbers, for this reason: what is before its
-- last '=' is no name, or what follows is no number that may be stated; or a number of each, or of
-- the station that it names, is among them.
abbrev pub IsFaultAfter : ℕ → List OfStation → List ℕ → CountFault → Type 0
IsFaultAfter largest numbers text fault.Name =
    (before : List ℕ) × (digits : List ℕ) × HasParts text (Some before) digits × ¬ (IsName before)
IsFaultAfter largest numbers text fault.Digits =
    (before : Option (List ℕ)) × (digits : List ℕ) × HasParts text before digits
    × IsUnwritten largest digits fault.Digits
IsFaultAfter largest numbers text (fault.Range number) =
    (before : Option (List ℕ)) × (digits : List ℕ) × HasParts text before digits
    × IsUnwritten largest digits (fault.Range number)
IsFaultAfter largest numbers text fault.EachTwice =
    (n : ℕ) × StatesOne largest text (None, n) × IsAmong None numbers
IsFaultAfter largest numbers text fault.OneTwice =
    (name : List ℕ) × (n : ℕ) × StatesOne largest text (Some name, n)
    × IsAmong (Some name) numbers

-- The text is the first of all that can't stand where it does, for this reason: those
-- before it state numbers.
pub record IsFirstWrong (largest : ℕ) (texts : List (List ℕ)) (text : List ℕ)
    (fault : CountFault) : Type 0 where
  pub before : List (List ℕ)
  pub after : List (List ℕ)
  pub numbers : List OfStation
  pub whole : texts ≡ before ++ text ∷ after
  pub right : StateAll largest before numbers
  pub wrong : IsFaultAfter largest numbers text fault

-- Why texts state no numbers: memory ran out, or a text is the first that can't stand where it
-- does.
abbrev pub IsUnstated : ℕ → List (List ℕ) → Unstated → Type 0
IsUnstated largest texts unstated.Memory = ⊤
IsUnstated largest texts (unstated.Wrong text fault) = IsFirstWrong largest texts text.now fault

-- A number is added to those that are stated, of which none is of its station, or of each.
abbrev pub AddsNumber : StatedNumber → OfStation → StatedNumber → Type 0
AddsNumber stated told new = (numbers : List OfStation) → Holds numbers stated
    → ¬ (IsAmong told.0 numbers) × Holds (numbers ++ told ∷ []) new

-- What a text states is added.
abbrev pub AddsText : ℕ → StatedNumber → List ℕ → StatedNumber → Type 0
AddsText largest stated text new =
    (told : OfStation) × StatesOne largest text told × AddsNumber stated told new

-- Why it isn't: memory ran out, or it can't stand after what is stated.
abbrev pub IsUnstatedAfter : ℕ → StatedNumber → List ℕ → Unstated → Type 0
IsUnstatedAfter largest stated text unstated.Memory = ⊤
IsUnstatedAfter largest stated text (unstated.Wrong told fault) = (told.now ≡ text)
    × ((numbers : List OfStation) → Holds numbers stated → IsFaultAfter largest numbers text fault)

-- A number isn't added: memory ran out, or there is one of its station, or of each, and this is the
-- text that is told and its fault.
abbrev pub IsSecond : StatedNumber → Option (List ℕ) → Bor (List ℕ) → CountFault → Unstated → Type 0
IsSecond stated station text fault unstated.Memory = ⊤
IsSecond stated station text fault (unstated.Wrong told why) = (told ≡ text) × (why ≡ fault)
    × ((numbers : List OfStation) → Holds numbers stated → IsAmong station numbers)
