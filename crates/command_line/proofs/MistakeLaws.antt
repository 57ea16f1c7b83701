-- The mistakes that are looked for, one after the other.
use Rattle.std.proofs.Common.{◌≡◌, ◌+◌, ◌≤◌, ◌<◌, ℕ, arith, get_or, lit<, lit≤, refl}
use Rattle.std.proofs.Common.{subst}
use borrow.Author.Count.{below_more}
use Rattle.clap.specs.declared.parser.matches.Found.{Found}
use Rattle.job_statements.specs.declared.stated.StatedNumber.{StatedNumber}
use Rattle.command_line.specs.CountOptions.{count_largest, count_name}
use Rattle.command_line.specs.LimitOptions.{option_largest, place}
use Rattle.command_line.specs.Mistakes.{HasRightCounts, IsRightLimit}
use Rattle.command_line.specs.StatedNumbers.{texts_of}
use Rattle.command_line.specs.declared.count_option.CountOption.{CountOption}
use Rattle.command_line.specs.declared.count_option.CountOption.TheVariants.{Sets, Targets}
use Rattle.command_line.specs.declared.limit_option.LimitOption.{LimitOption}
use Rattle.command_line.specs.declared.limit_option.LimitOption.TheVariants.{TwoC, TwoI, Residual}
use Rattle.command_line.specs.declared.limit_option.LimitOption.TheVariants.{Within}
use Rattle.command_line.specs.declared.limit_option.TheConstants.{LIMIT_OPTIONS}
use Rattle.job_statements.specs.StatedNumbers.{IsStatedBy}
use Rattle.job_statements.proofs.NumberLaws.{no_numbers}

-- 32 bits hold each limit that may be stated.
pub small-largest : (option : LimitOption) → option_largest option < 4_294_967_296
small-largest TwoC = lit< tt
small-largest TwoI = lit< tt
small-largest Residual = lit< tt
small-largest Within = lit< tt

-- There are four options.
pub place-small : (option : LimitOption) → place option ≤ 3
place-small TwoC = lit≤ tt
place-small TwoI = lit≤ tt
place-small Residual = lit≤ tt
place-small Within = lit≤ tt

-- So their mistakes are told before what is stated without a table.
pub place_early : (option : LimitOption) → place option < 6
place_early TwoC = lit< tt
place_early TwoI = lit< tt
place_early Residual = lit< tt
place_early Within = lit< tt

-- The options before a place state no wrong limit.
abbrev pub AreRightBefore : Found → ℕ → Type 0
AreRightBefore found n = (option : LimitOption) → place option < n → IsRightLimit found option

-- An option stands in the list of options at its place.
at-place : (option : LimitOption) → get_or LIMIT_OPTIONS (place option) TwoC ≡ option
at-place TwoC = refl
at-place TwoI = refl
at-place Residual = refl
at-place Within = refl

-- So the option at a place states no wrong limit, if that of the list at this place states none.
here : (found : Found) (n : ℕ) → IsRightLimit found (get_or LIMIT_OPTIONS n TwoC)
    → (option : LimitOption) → place option ≡ n → IsRightLimit found option
here found n right option at =
    let same : get_or LIMIT_OPTIONS n TwoC ≡ option =
    subst (λ (k : ℕ). get_or LIMIT_OPTIONS k TwoC ≡ option) at (at-place option) in
    subst (λ (o : LimitOption). IsRightLimit found o) same right

-- One more option is looked at.
pub next-right : (found : Found) (n : ℕ) → AreRightBefore found n
    → IsRightLimit found (get_or LIMIT_OPTIONS n TwoC) → AreRightBefore found (n + 1)
next-right found n before right =
    let IsRightAt : ℕ → Type 0 =
    λ k. (option : LimitOption) → place option ≡ k → IsRightLimit found option in
    λ option small.
    below_more IsRightAt n
    (λ k less other at. before other (omega (arith, less, at)))
    (here found n right) (place option) small option refl

-- 32 bits hold each number that may be stated.
pub small-count : (option : CountOption) → count_largest option < 4_294_967_296
small-count Sets = lit< tt
small-count Targets = lit< tt

-- Where texts state numbers, none of them is wrong.
pub right-counts : (found : Found) (option : CountOption) (stated : StatedNumber)
    → IsStatedBy (count_largest option) (texts_of found (count_name option)) stated
    → HasRightCounts found option
right-counts found option stated is =
    λ text why wrong.
    no_numbers (count_largest option) (texts_of found (count_name option)) text why
    (small-count option) wrong is.0 is.1
