-- The grammar of the command line: the commands, and the arguments and options of each, in the
-- order in which they are read.
use Rattle.std.specs.Prelude.{◌∷◌, [], pos, true, false, List, Some, codes}
use Rattle.clap.specs.Lexer.{usize_max}
use Rattle.clap.specs.Simple.{new_shape}
use Rattle.clap.specs.Words.{App, Rule, Shape, Text, new_rule}
use Rattle.clap.specs.declared.builder.action.ArgAction.TheVariants.{Set, SetTrue, Append}
use Rattle.clap.specs.declared.builder.value_parser.ValueParser.TheVariants.{NonEmptyString, Signed}
use Rattle.command_line.specs.declared.arguments.Argument.{Argument}
use Rattle.command_line.specs.declared.arguments.Argument.TheVariants as argument
use Rattle.command_line.specs.declared.commands.Subcommand.{Subcommand}
use Rattle.command_line.specs.declared.commands.Subcommand.TheVariants as command

-- An argument that must be given: one word.
abbrev pub given_rule : Text → Rule
given_rule id = record (new_rule id) { required = true; action = Some Set }

-- A path that must be given: one word, and not the empty one.
abbrev pub path_rule : Text → Rule
path_rule id = record (given_rule id) { parser = Some NonEmptyString }

-- An option `--id TEXT`, which may be left out: one text.
abbrev pub text_rule : Text → Rule
text_rule id = record (new_rule id) {
  long = Some id;
  action = Some Set;
  value_names = 1;
}

-- The limit of a face difference: 20 mgon where it is left out.
abbrev pub face_limit_rule : Text → Rule
face_limit_rule id = record (text_rule id) { defaults = codes "20mgon" ∷ [] }

-- The limit of 2c.
abbrev pub two_c_rule : Rule
two_c_rule = face_limit_rule (codes "two-c")

-- The limit of 2i.
abbrev pub two_i_rule : Rule
two_i_rule = face_limit_rule (codes "two-i")

-- The limit of residuals: no text stands where it is left out.
abbrev pub residual_rule : Rule
residual_rule = text_rule (codes "residual")

-- How near a table must be: as is usual for its rows where it is left out.
abbrev pub within_rule : Rule
within_rule = text_rule (codes "within")

-- How many decimals a direction is written with, a whole number from 1 up to 8: 6 where it is left
-- out.
abbrev pub decimals_rule : Rule
decimals_rule = record (text_rule (codes "decimals")) {
  parser = Some (Signed (pos 1) (pos 8));
  defaults = codes "6" ∷ [];
}

-- An option `--id TEXT`, any number of times.
abbrev pub texts_rule : Text → Rule
texts_rule id = record (text_rule id) { action = Some Append }

-- The option `--sets`: how many sets were read to the end.
abbrev pub sets_rule : Rule
sets_rule = texts_rule (codes "sets")

-- The option `--targets`: how many targets they have.
abbrev pub targets_rule : Rule
targets_rule = texts_rule (codes "targets")

-- The option `--leave-out`: the lines that are left out.
abbrev pub leave_out_rule : Rule
leave_out_rule = texts_rule (codes "leave-out")

-- The option `--rename`: the lines whose points have other names.
abbrev pub rename_rule : Rule
rename_rule = texts_rule (codes "rename")

-- The option `--language CODE`, which may be left out: the language of a report.
abbrev pub language_rule : Rule
language_rule = text_rule (codes "language")

-- The option `--date TEXT`, which may be left out: the date of a report.
abbrev pub date_rule : Rule
date_rule = text_rule (codes "date")

-- The option `--note KEY=TEXT`: what the head of a report notes.
abbrev pub note_rule : Rule
note_rule = texts_rule (codes "note")

-- A flag `--id`.
abbrev pub flag_rule : Text → Rule
flag_rule id = record (new_rule id) { long = Some id; action = Some SetTrue }

-- The flag `--sha256`: digests are printed.
abbrev pub digests_rule : Rule
digests_rule = flag_rule (codes "sha256")

-- The flag `--others`: stations with a fault stay outside.
abbrev pub others_rule : Rule
others_rule = flag_rule (codes "others")

-- The flag `--csv`: rows are printed, as CSV.
abbrev pub csv_rule : Rule
csv_rule = flag_rule (codes "csv")

-- The flag `--decimal-comma`: rows have semicolons between cells and commas in numbers.
abbrev pub decimal_comma_rule : Rule
decimal_comma_rule = flag_rule (codes "decimal-comma")

-- The flag `--json`: JSON lines are printed.
abbrev pub json_rule : Rule
json_rule = flag_rule (codes "json")

-- The flag `--signature`: a report ends with lines for a signature.
abbrev pub signature_rule : Rule
signature_rule = flag_rule (codes "signature")

-- The flag `--pages`: a report is divided into pages.
abbrev pub pages_rule : Rule
pages_rule = flag_rule (codes "pages")

-- The option `--station NAME`, which may be left out: the name of the file's one station.
abbrev pub stated_name_rule : Rule
stated_name_rule = text_rule (codes "station")

-- The flag `--same-set-up`: a set-up line of the station that is open begins nothing.
abbrev pub same_set_up_rule : Rule
same_set_up_rule = flag_rule (codes "same-set-up")

-- The flag `--again`: a name that comes again is another set-up.
abbrev pub again_rule : Rule
again_rule = flag_rule (codes "again")

-- The option `--station-code N`, which may be left out: the code whose blocks begin a station.
abbrev pub station_code_rule : Rule
station_code_rule = text_rule (codes "station-code")

-- The option `--table TABLE`, which may be left out: the path of a table, which is not empty.
abbrev pub stated_table_rule : Rule
stated_table_rule = record (text_rule (codes "table")) { parser = Some NonEmptyString }

-- An argument that may be left out: one word.
abbrev pub optional_rule : Text → Rule
optional_rule id = record (new_rule id) { action = Some Set }

-- The path of the field file.
abbrev pub field_file_rule : Rule
field_file_rule = path_rule (codes "GSI")

-- A path that may be left out: one word, and not the empty one.
abbrev pub optional_path_rule : Text → Rule
optional_path_rule id = record (optional_rule id) { parser = Some NonEmptyString }

-- The path of the copy of a field file.
abbrev pub copy_rule : Rule
copy_rule = optional_path_rule (codes "COPY")

-- The name of the station; or, where no word follows or all stations are asked for, the path of the
-- table.
abbrev pub station_or_table_rule : Rule
station_or_table_rule = given_rule (codes "STATION")

-- The name of the station, which may be left out.
abbrev pub station_rule : Rule
station_rule = optional_rule (codes "STATION")

-- The flag `--all`: all stations of the file are asked for.
abbrev pub all_rule : Rule
all_rule = flag_rule (codes "all")

-- The path of the sheet.
abbrev pub sheet_rule : Rule
sheet_rule = path_rule (codes "SHEET")

-- The path of the table, where the name of the station stands before it.
abbrev pub table_rule : Rule
table_rule = optional_path_rule (codes "TABLE")

-- The flag `--degrees`: the table states degrees.
abbrev pub degrees_rule : Rule
degrees_rule = flag_rule (codes "degrees")

-- The flag `--dmmss`: its degrees have minutes and seconds after the point.
abbrev pub dmmss_rule : Rule
dmmss_rule = flag_rule (codes "dmmss")

-- The option `--columns TARGET,DIRECTION`, which may be left out: the columns of a table.
abbrev pub columns_rule : Rule
columns_rule = text_rule (codes "columns")

-- The words of a fault: any number of them.
abbrev pub fault_rule : Rule
fault_rule = record (new_rule (codes "FAULT")) {
  action = Some Append;
  range = Some (record { start_inclusive = 0; end_inclusive = usize_max });
}

-- The rule of each argument and option.
abbrev pub rule_for : Argument → Rule
rule_for argument.FieldFile = field_file_rule
rule_for argument.Copy = copy_rule
rule_for argument.Station = station_rule
rule_for argument.StationOrTable = station_or_table_rule
rule_for argument.All = all_rule
rule_for argument.Sheet = sheet_rule
rule_for argument.Table = table_rule
rule_for argument.Fault = fault_rule
rule_for argument.TwoC = two_c_rule
rule_for argument.TwoI = two_i_rule
rule_for argument.Residual = residual_rule
rule_for argument.Within = within_rule
rule_for argument.Degrees = degrees_rule
rule_for argument.MinutesAfterPoint = dmmss_rule
rule_for argument.Columns = columns_rule
rule_for argument.Decimals = decimals_rule
rule_for argument.Digests = digests_rule
rule_for argument.Rows = csv_rule
rule_for argument.DecimalComma = decimal_comma_rule
rule_for argument.Json = json_rule
rule_for argument.StatedTable = stated_table_rule
rule_for argument.StatedName = stated_name_rule
rule_for argument.SameSetUp = same_set_up_rule
rule_for argument.Again = again_rule
rule_for argument.StationCode = station_code_rule
rule_for argument.StatedSets = sets_rule
rule_for argument.StatedTargets = targets_rule
rule_for argument.Others = others_rule
rule_for argument.LeaveOut = leave_out_rule
rule_for argument.Rename = rename_rule
rule_for argument.Language = language_rule
rule_for argument.Date = date_rule
rule_for argument.Note = note_rule
rule_for argument.Signature = signature_rule
rule_for argument.Pages = pages_rule

-- A command of this name, with these arguments and options.
abbrev pub of_rules : Text → List Rule → Shape
of_rules name rules = record (new_shape name) { rules = rules }

-- A command before it is one of a program's.
abbrev pub alone : Shape → App
alone s = record { top = s; subs = [] }

-- `compare GSI STATION TABLE`, `compare GSI TABLE`, or `compare --all GSI TABLE`
abbrev pub compare_words : Shape
compare_words = of_rules (codes "compare")
    (field_file_rule ∷ station_or_table_rule ∷ table_rule ∷ all_rule
    ∷ degrees_rule ∷ dmmss_rule ∷ columns_rule ∷ two_c_rule ∷ two_i_rule ∷ residual_rule
    ∷ within_rule ∷ digests_rule ∷ [])

-- `differences GSI STATION TABLE`, `differences GSI TABLE`, or `differences --all GSI TABLE`
abbrev pub differences_words : Shape
differences_words = of_rules (codes "differences")
    (field_file_rule ∷ station_or_table_rule ∷ table_rule ∷ all_rule
    ∷ degrees_rule ∷ dmmss_rule ∷ columns_rule ∷ two_c_rule ∷ two_i_rule ∷ residual_rule
    ∷ decimal_comma_rule ∷ json_rule ∷ [])

-- `directions GSI STATION`, `directions GSI`, or `directions --all GSI`
abbrev pub directions_words : Shape
directions_words = of_rules (codes "directions")
    (field_file_rule ∷ station_rule ∷ all_rule
    ∷ two_c_rule ∷ two_i_rule ∷ residual_rule ∷ decimals_rule ∷ decimal_comma_rule ∷ [])

-- `report GSI STATION`, `report GSI`, or `report --all GSI`
abbrev pub report_words : Shape
report_words = of_rules (codes "report")
    (field_file_rule ∷ station_rule ∷ all_rule
    ∷ two_c_rule ∷ two_i_rule ∷ residual_rule
    ∷ stated_table_rule ∷ degrees_rule ∷ dmmss_rule ∷ columns_rule ∷ within_rule ∷ language_rule
    ∷ date_rule ∷ note_rule ∷ digests_rule ∷ signature_rule ∷ pages_rule ∷ csv_rule
    ∷ decimal_comma_rule ∷ [])

-- `check GSI SHEET`
abbrev pub check_words : Shape
check_words = of_rules (codes "check")
    (field_file_rule ∷ sheet_rule
    ∷ two_c_rule ∷ two_i_rule ∷ residual_rule ∷ digests_rule ∷ [])

-- `means GSI STATION`, or `means GSI`
abbrev pub means_words : Shape
means_words =
    of_rules (codes "means") (field_file_rule ∷ station_rule ∷ two_c_rule ∷ two_i_rule ∷ [])

-- `mark GSI`, or `mark GSI COPY`
abbrev pub mark_words : Shape
mark_words = of_rules (codes "mark")
    (field_file_rule ∷ copy_rule ∷ stated_name_rule ∷ same_set_up_rule ∷ again_rule
    ∷ station_code_rule ∷ sets_rule ∷ targets_rule ∷ others_rule ∷ [])

-- `change GSI`, or `change GSI COPY`
abbrev pub change_words : Shape
change_words = of_rules (codes "change")
    (field_file_rule ∷ copy_rule ∷ leave_out_rule ∷ rename_rule ∷ [])

-- `list GSI`
abbrev pub list_words : Shape
list_words = of_rules (codes "list")
    (field_file_rule ∷ two_c_rule ∷ two_i_rule ∷ csv_rule ∷ decimal_comma_rule ∷ [])

-- `words GSI`
abbrev pub words_words : Shape
words_words = of_rules (codes "words") (field_file_rule ∷ [])

-- `explain`, with any words
abbrev pub explain_words : Shape
explain_words = of_rules (codes "explain") (fault_rule ∷ [])

-- A command of the program.
abbrev pub words_of : Subcommand → Shape
words_of command.Compare = compare_words
words_of command.Differences = differences_words
words_of command.Directions = directions_words
words_of command.Report = report_words
words_of command.Check = check_words
words_of command.Means = means_words
words_of command.Mark = mark_words
words_of command.Change = change_words
words_of command.List = list_words
words_of command.Words = words_words
words_of command.Explain = explain_words

-- The program before it has commands. Each of them has `--version` too.
abbrev pub program_alone : App
program_alone = alone (record (new_shape (codes "station_check")) {
  has_version = true;
  propagate_version = true;
})

-- The program: its commands.
abbrev pub the_program : App
the_program = record {
  top = record program_alone.top { is_leaf = false };
  subs = compare_words ∷ differences_words ∷ directions_words ∷ report_words ∷ check_words
      ∷ means_words ∷ mark_words ∷ change_words ∷ list_words ∷ words_words ∷ explain_words ∷ [];
}
