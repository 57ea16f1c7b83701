-- What an argument more, or a command more, makes of a grammar.
use Rattle.std.proofs.Common.{◌≡◌, ◌∙◌, ◌∷◌, ◌++◌, ◌+◌, ℕ, zero, suc, add-one, get_or}
use Rattle.std.proofs.Common.{◌<◌, true, false, not, ap, ap₂, is_some, length, List, [], map, take}
use Rattle.std.proofs.Common.{None, Option, Some, option_map, refl, subst, sym, true≢false}
use Rattle.std.proofs.lemmas.List.{map-append, take_more}
use Rattle.clap.proofs.SimpleLemmas.{is_false, plain_fields}
use Rattle.clap.proofs.WalkLemmas.{both}
use Rattle.clap.specs.Walk.{is_empty, is_simple_arg}
use Rattle.clap.specs.Words.{AddsArg, AddsSubcommand, App, Rule, Shape, app_of, rule_of}
use Rattle.clap.specs.Words.{with_rule}
use Rattle.clap.specs.Words.{with_subcommand}
use Rattle.clap.specs.Words.{FailsBy, HasMatchesOf, Row, Text, fault_of, has_subcommand, is_simple}
use Rattle.clap.specs.Words.{is_simple_and_free, rows_of, subcommand_name_of, subcommand_of}
use Rattle.clap.specs.Words.{subcommand_rows, subcommand_rows_of}
use Rattle.clap.proofs.OnLiterals.{clap_on_literals}
use Rattle.clap.specs.declared.builder.arg.Arg.{Arg}
use Rattle.clap.specs.declared.builder.command.Command.{Command}
use Rattle.clap.specs.declared.error.Error.{Error}
use Rattle.clap.specs.declared.parser.matches.ArgMatches.{ArgMatches}
use Rattle.clap.specs.declared.parser.matches.ArgMatches.TheViews.{out-ArgMatches, out-SubCommand}
use Rattle.clap.specs.declared.parser.matches.Found.{Found}
use Rattle.clap.specs.declared.parser.matches.SubCommand.{SubCommand}
use Rattle.std.specs.Box.{box_value}
use Rattle.std.specs.Prelude.{Box, Result, option_and_then}
use Rattle.command_line.specs.CommandLine.{Meets, named_by}
use Rattle.command_line.specs.Commands.{alone, of_rules, program_alone, rule_for, the_program}
use Rattle.command_line.specs.Commands.{words_of}
use Rattle.command_line.specs.declared.arguments.Argument.{Argument}
use Rattle.command_line.specs.declared.arguments.Argument.TheVariants as argument
use Rattle.command_line.specs.declared.commands.Subcommand.{Subcommand}
use Rattle.command_line.specs.declared.commands.Subcommand.TheVariants as command
use Rattle.command_line.specs.declared.commands.TheConstants.{SUBCOMMANDS}

-- An argument that changes nothing in how words are read is of its own command alone.
is_local : (a : Arg) → is_simple_arg a ≡ true → a.global ≡ false
is_local a e =
    let p = both (is_empty a.overrides.items) _ e in
    let q = both (is_empty a.default_vals_ifs.items) _ p.1 in
    let r = both (is_empty a.groups.items) _ q.1 in
    let s = both (not (is_some a.val_delim)) _ r.1 in
    let t = both (not (is_some a.terminator)) _ s.1 in
    let u = both (not a.allow_hyphen_values) _ t.1 in
    let v = both (not a.allow_negative_numbers) _ u.1 in
    let w = both (not a.require_equals) _ v.1 in
    let x = both (not a.last) _ w.1 in
    is_false _ x.1

-- No argument of a command changes how words are read.
is_simple_rule : (a : Argument) → (rule_for a).is_simple ≡ true
is_simple_rule argument.FieldFile = refl
is_simple_rule argument.Copy = refl
is_simple_rule argument.Station = refl
is_simple_rule argument.StationOrTable = refl
is_simple_rule argument.Pages = refl
is_simple_rule argument.All = refl
is_simple_rule argument.Sheet = refl
is_simple_rule argument.Table = refl
is_simple_rule argument.Fault = refl
is_simple_rule argument.TwoC = refl
is_simple_rule argument.TwoI = refl
is_simple_rule argument.Residual = refl
is_simple_rule argument.Within = refl
is_simple_rule argument.Degrees = refl
is_simple_rule argument.MinutesAfterPoint = refl
is_simple_rule argument.Columns = refl
is_simple_rule argument.Decimals = refl
is_simple_rule argument.Digests = refl
is_simple_rule argument.Rows = refl
is_simple_rule argument.DecimalComma = refl
is_simple_rule argument.Json = refl
is_simple_rule argument.StatedTable = refl
is_simple_rule argument.StatedName = refl
is_simple_rule argument.SameSetUp = refl
is_simple_rule argument.Again = refl
is_simple_rule argument.StationCode = refl
is_simple_rule argument.StatedSets = refl
is_simple_rule argument.StatedTargets = refl
is_simple_rule argument.Others = refl
is_simple_rule argument.LeaveOut = refl
is_simple_rule argument.Rename = refl
is_simple_rule argument.Language = refl
is_simple_rule argument.Date = refl
is_simple_rule argument.Note = refl
is_simple_rule argument.Signature = refl

-- A command of this name with the first of these arguments, so many of them.
abbrev pub command_with : Text → List Argument → ℕ → App
command_with name arguments n = alone (of_rules name (map rule_for (take n arguments)))

-- One argument more is added.
pub adds_argument : (name : Text) (arguments : List Argument) (n : ℕ) (old new : Command) (a : Arg)
    → n < length arguments → AddsArg old a new → app_of old ≡ command_with name arguments n
    → rule_of a ≡ rule_for (get_or arguments n argument.FieldFile)
    → app_of new ≡ command_with name arguments (n + 1)
adds_argument name arguments n old new a in_list added is_old is_rule =
    let next = get_or arguments n argument.FieldFile in
    let simple : is_simple_arg a ≡ true =
    ap (λ (r : Rule). r.is_simple) is_rule ∙ is_simple_rule next in
    let one_more : map rule_for (take (n + 1) arguments)
    ≡ map rule_for (take n arguments) ++ rule_for next ∷ [] =
    ap (map rule_for) (take_more arguments n argument.FieldFile in_list)
    ∙ map-append rule_for (take n arguments) (next ∷ []) in
    added.shape (is_local a simple) ∙ ap₂ with_rule is_old is_rule
    ∙ ap (λ rules. alone (of_rules name rules)) (sym one_more)

-- A command of this grammar, added to a program of that one.
adds_command : (old sub new : Command) (grammar : App) (s : Shape) → AddsSubcommand old sub new
    → app_of old ≡ grammar → app_of sub ≡ alone s → s.is_plain ≡ true
    → app_of new ≡ with_subcommand grammar s
adds_command old sub new grammar s added is_old is_sub plain =
    added.shape (plain_fields sub (ap (λ (x : App). x.top.is_plain) is_sub ∙ plain)).globals
    ∙ ap₂ with_subcommand is_old (ap (λ (x : App). x.top) is_sub)

-- Each command of the program is a plain one.
is_plain_command : (s : Subcommand) → (words_of s).is_plain ≡ true
is_plain_command command.Compare = refl
is_plain_command command.Differences = refl
is_plain_command command.Directions = refl
is_plain_command command.Report = refl
is_plain_command command.Check = refl
is_plain_command command.Means = refl
is_plain_command command.Mark = refl
is_plain_command command.Change = refl
is_plain_command command.List = refl
is_plain_command command.Words = refl
is_plain_command command.Explain = refl

-- The program with the first commands, so many of them.
abbrev pub program_with : ℕ → App
program_with zero = program_alone
program_with (suc n) =
    with_subcommand (program_with n) (words_of (get_or SUBCOMMANDS n command.Compare))

-- One command more is added.
pub adds_next : (n : ℕ) (old sub new : Command) → AddsSubcommand old sub new
    → app_of old ≡ program_with n
    → app_of sub ≡ alone (words_of (get_or SUBCOMMANDS n command.Compare))
    → app_of new ≡ program_with (n + 1)
adds_next n old sub new added is_old is_sub =
    let s = get_or SUBCOMMANDS n command.Compare in
    rw add-one
    (adds_command old sub new (program_with n) (words_of s) added is_old is_sub
    (is_plain_command s))

-- Two that are both there.
abbrev pair : Option Text → Option (List Row) → Option (Text × List Row)
pair name rows = option_and_then (λ n. option_map (λ r. (n, r)) rows) name

module _ {Z : Type 0} where
  -- The name and the rows of one subcommand.
  named_as : (sub : Option (Box SubCommand Z)) (name : Text) (rows : List Row)
      → option_map (λ b. (out-SubCommand (box_value b)).name.now) sub ≡ Some name
      → option_map (λ p. p.1) (subcommand_rows sub) ≡ Some rows
      → subcommand_rows sub ≡ Some (name, rows)
  named_as (Some b) name rows is_name are_rows = ap₂ pair is_name are_rows
  named_as None name rows is_name are_rows = ap₂ pair is_name are_rows

  -- No subcommand has no rows.
  not_named : (sub : Option (Box SubCommand Z)) → is_some sub ≡ false → subcommand_rows sub ≡ None
  not_named (Some b) none = absurd (true≢false none)
  not_named None none = refl

-- A parse met the subcommand of this name.
pub meets : (m : ArgMatches) (name : Text) (found : Found) → subcommand_name_of m ≡ Some name
    → option_map (λ p. p.1) (subcommand_rows_of m) ≡ Some (rows_of found)
    → Meets (subcommand_rows_of m) name found
meets m name found = named_as (out-ArgMatches m).subcommand name (rows_of found)

-- A parse met no subcommand.
pub meets_none : (m : ArgMatches) → has_subcommand m ≡ false → subcommand_rows_of m ≡ None
meets_none m = not_named (out-ArgMatches m).subcommand

-- The grammar of the program is one of which it is known what a parse gives.
is_known : is_simple the_program ≡ true
unfolding clap_on_literals
is_known = refl

-- The same of its errors.
has_known_faults : is_simple_and_free the_program ≡ true
unfolding clap_on_literals
has_known_faults = refl

-- A parse by a command of the program's grammar meets the subcommand that the words name.
pub met_by : (a : App) (words : List Text) (m : ArgMatches) → a ≡ the_program
    → HasMatchesOf a words m
    → subcommand_rows_of m ≡ named_by words
met_by a words m e h = (h (ap is_simple e ∙ is_known)).1 ∙ ap (λ (x : App). subcommand_of x words) e

-- It takes the words where the grammar does, and else its error is of the kind that this says.
pub fails_by : {T : Type 0} (a : App) (words : List Text) (r : Result T Error) → a ≡ the_program
    → (is_simple_and_free a ≡ true → FailsBy (fault_of a words) r)
    → FailsBy (fault_of the_program words) r
fails_by a words r e h =
    subst (λ (x : App). FailsBy (fault_of x words) r) e
    (h (ap is_simple_and_free e ∙ has_known_faults))
