-- What the words of a command line ask for, or why they are answered with an error.
use Rattle.std.specs.Prelude.{◌≡◌, ◌≢◌, ◌⊎◌, ℕ, true, false, List, [], Option, Some, None, codes}
use Rattle.std.specs.Prelude.{option_map}
use Rattle.std.specs.Borrow.{Bor}
use Rattle.std.specs.List.{join_by}
use Rattle.changed_lines.specs.declared.change.Change.{Change}
use Rattle.clap.specs.Words.{first_value, matched_of, raw_values, kind_of, fault_of, HasKind, Row}
use Rattle.clap.specs.Words.{Text, subcommand_of, rows_of}
use Rattle.clap.specs.declared.error.Error.{Error}
use Rattle.clap.specs.declared.error.kind.ErrorKind.TheVariants.{InvalidValue, OutOfMemory}
use Rattle.clap.specs.declared.error.kind.ErrorKind.TheVariants.{ValueValidation}
use Rattle.clap.specs.declared.parser.matches.Found.{Found}
use Rattle.job_statements.specs.declared.beginnings.Beginnings.{Beginnings}
use Rattle.job_statements.specs.declared.stated.Stated.{Stated}
use Rattle.station_book.specs.Limits.{FaceLimits}
use Rattle.station_book.specs.declared.result_limits.ResultLimits.{ResultLimits}
use Rattle.station_explain.specs.Naming.{Names, IsMeant, IsNoNameInAnyCase}
use Rattle.station_explain.specs.Table.{Explanation}
use Rattle.command_line.specs.Commands.{the_program}
use Rattle.command_line.specs.Mistakes.{StandsBesideAll, StandsBesideTable}
use Rattle.command_line.specs.Stated.{HoldsResiduals, IsGiven, IsMissing, StatesDigests, StatesForm}
use Rattle.command_line.specs.Stated.{StatesBeginnings, StatesFlag, StatesLimits}
use Rattle.command_line.specs.Stated.{IsStatedForm, StatesNoBeginnings, StatesNoColumns}
use Rattle.command_line.specs.Stated.{StatesNoLimits, StatesNoNumber}
use Rattle.command_line.specs.Stated.{StatesNoResidual, StatesNoWithin, StatesNumber}
use Rattle.command_line.specs.Stated.{StatesResidual, StatesRowForm, StatesTableForm}
use Rattle.command_line.specs.Stated.{StatesUnit, StatesWithin}
use Rattle.command_line.specs.Stated.{IsCommaAlone, IsCommaInJson}
use Rattle.command_line.specs.StatedChanges.{StatesChanges, StatesNoChanges}
use Rattle.command_line.specs.StatedNotes.{SpeaksOfNotes, StatesNoNotes, StatesNotes}
use Rattle.command_line.specs.StatedNumbers.{StatesNoNumbers, StatesNumbers}
use Rattle.command_line.specs.declared.request.AllTableText.{AllTableText}
use Rattle.command_line.specs.declared.request.AllTableText.TheVariants as all_text
use Rattle.command_line.specs.declared.request.FieldStation.{FieldStation}
use Rattle.command_line.specs.declared.request.FieldStations.{FieldStations}
use Rattle.command_line.specs.declared.request.FormStated.{FormStated}
use Rattle.command_line.specs.declared.request.ListForm.TheVariants.{Lines, Rows}
use Rattle.command_line.specs.declared.request.Request.{Request}
use Rattle.command_line.specs.declared.request.Request.TheVariants as request
use Rattle.command_line.specs.declared.request.SheetCheck.{SheetCheck}
use Rattle.command_line.specs.declared.request.StationText.{StationText}
use Rattle.command_line.specs.declared.request.StationText.TheVariants as text
use Rattle.command_line.specs.declared.request.StationsBeside.{StationsBeside}
use Rattle.command_line.specs.declared.request.StationsText.{StationsText}
use Rattle.command_line.specs.declared.request.StationsText.TheVariants as texts
use Rattle.command_line.specs.declared.request.TableText.{TableText}
use Rattle.command_line.specs.declared.request.TableText.TheVariants as table_text
use Rattle.direction_table.specs.declared.unit.AngleUnit.TheVariants.{Gon}
use Rattle.row_forms.specs.declared.form.RowForm.TheVariants.{Commas}

-- The name of a station as it is stated: it may be left out.
abbrev pub NameAsked : Type 0
NameAsked = Option (Bor (List ℕ))

-- What is asked for, with the paths of its files.
abbrev pub Asked : Type 0
Asked = Request (Bor (List ℕ)) (Bor (List ℕ)) NameAsked FormStated

-- The word after the field file is this name of a station; or it is left out, and the only station
-- of the file is meant.
abbrev pub NamesStation : Found → NameAsked → Type 0
NamesStation found station =
    first_value found (codes "STATION") ≡ option_map (λ name. name.now) station

-- The words after the field file are this name of a station and the path of a table; or the path
-- alone, and the only station of the file is meant.
abbrev pub NamesTable : Found → NameAsked → List ℕ → Type 0
NamesTable found (Some name) table =
    IsGiven found (codes "STATION") name.now × IsGiven found (codes "TABLE") table
NamesTable found None table =
    IsGiven found (codes "STATION") table × IsMissing found (codes "TABLE")

-- A station of a field file is asked for: the path of the file, the station's name where it has
-- one, and the limits of face differences.
pub record AsksOfStation (found : Found) (gsi : List ℕ) (station : NameAsked)
    (limits : FaceLimits) : Type 0 where
  pub field_file : IsGiven found (codes "GSI") gsi
  pub of_station : NamesStation found station
  pub of_limits : StatesLimits found limits

-- A result is held to these limits: to those of face differences, and to that of residuals, which
-- is the largest where none is stated.
pub record HoldsResult (found : Found) (limits : ResultLimits) : Type 0 where
  pub of_faces : StatesLimits found limits.faces
  pub of_residuals : HoldsResiduals found limits.residual

-- The adjustment of a station is asked for: the path of the field file, and the limits of the
-- result.
pub record AsksForResult (found : Found) (asked : FieldStation (Bor (List ℕ)) NameAsked)
    : Type 0 where
  pub field_file : IsGiven found (codes "GSI") asked.gsi.now
  pub of_limits : HoldsResult found asked.limits

-- The adjustments of all stations are asked for: the path of the field file, and the limits of the
-- results; and nothing that is of one station stands beside that.
pub record AsksForAll (found : Found) (asked : FieldStations (Bor (List ℕ))) : Type 0 where
  pub field_file : IsGiven found (codes "GSI") asked.gsi.now
  pub of_limits : HoldsResult found asked.limits
  pub alone : ¬ (StandsBesideAll found)

-- The adjustments of all stations and one table of them are asked for: the path of the field file,
-- the path of the table in the place of a station's name, how it is read, and the limits of the
-- results; and nothing stands beside that which is of one table of one station.
pub record AsksForTableOfAll (found : Found) (asked : StationsBeside (Bor (List ℕ)) FormStated)
    : Type 0 where
  pub field_file : IsGiven found (codes "GSI") asked.stations.gsi.now
  pub of_table : IsGiven found (codes "STATION") asked.file.now
  pub of_limits : HoldsResult found asked.stations.limits
  pub of_form : StatesTableForm found asked.form
  pub alone : ¬ (StandsBesideTable found)

-- No table is stated, and nothing that speaks of one: no limit of a comparison, no unit but gon,
-- and no columns.
pub record IsWithoutTable (found : Found) : Type 0 where
  pub no_table : IsMissing found (codes "table")
  pub no_within : StatesWithin found None
  pub in_gon : StatesUnit found Gon
  pub no_columns : IsMissing found (codes "columns")

-- Which text of a station is asked for, where all are not: by `directions` the table of its
-- directions in a form, with so many decimals; by `report`, where no table is stated, the report,
-- with its notes, or its rows in a form, which have none, each with digests or without.
abbrev pub AsksForText : Text → Found → StationText → Type 0
AsksForText name found (text.Directions decimals form) =
    (name ≡ codes "directions") × StatesNumber found (codes "decimals") decimals
    × StatesRowForm found form
AsksForText name found (text.Report digests notes) =
    (name ≡ codes "report") × IsWithoutTable found × StatesDigests found digests
    × StatesForm found Lines × StatesNotes found notes
AsksForText name found (text.ReportRows digests form) =
    (name ≡ codes "report") × IsWithoutTable found × StatesDigests found digests
    × StatesForm found (Rows form) × ¬ SpeaksOfNotes found

-- Which text of all stations is asked for: the same, without digests.
abbrev pub AsksForTexts : Text → Found → StationsText → Type 0
AsksForTexts name found (texts.Directions decimals form) =
    (name ≡ codes "directions") × StatesNumber found (codes "decimals") decimals
    × StatesRowForm found form
AsksForTexts name found (texts.Reports notes) =
    (name ≡ codes "report") × StatesForm found Lines × StatesNotes found notes
AsksForTexts name found (texts.ReportRows form) =
    (name ≡ codes "report") × StatesForm found (Rows form) × ¬ SpeaksOfNotes found

-- Which text of a station, by this name where it has one, and of the table of this path: by
-- `compare` the comparison, with its limit or none, and with digests or without; by `differences`
-- the differences in a form, or as JSON lines, which have points; by `report` the report with the
-- table of its option and with its notes, and all else as for `compare`.
abbrev pub AsksForTableText : Text → Found → NameAsked → List ℕ → TableText → Type 0
AsksForTableText name found station table (table_text.Comparison within digests) =
    (name ≡ codes "compare") × NamesTable found station table × StatesWithin found within
    × StatesDigests found digests
AsksForTableText name found station table (table_text.Differences form) =
    (name ≡ codes "differences") × NamesTable found station table
    × StatesRowForm found form × StatesFlag found (codes "json") false
AsksForTableText name found station table table_text.JsonLines =
    (name ≡ codes "differences") × NamesTable found station table
    × StatesRowForm found Commas × StatesFlag found (codes "json") true
AsksForTableText name found station table (table_text.Report within digests notes) =
    (name ≡ codes "report") × NamesStation found station × IsGiven found (codes "table") table
    × StatesWithin found within × StatesDigests found digests × StatesForm found Lines
    × StatesNotes found notes

-- Which text of all stations and of one table of them: by `compare` the comparisons, with their
-- limit or none; by `differences` the differences in a form.
abbrev pub AsksForTextOfAll : Text → Found → AllTableText → Type 0
AsksForTextOfAll name found (all_text.Comparison within) =
    (name ≡ codes "compare") × StatesWithin found within
AsksForTextOfAll name found (all_text.Differences form) =
    (name ≡ codes "differences") × StatesRowForm found form

-- What `check` asks for: its two paths, the limits of face differences, the residual limit or none,
-- and whether digests are printed.
pub record AsksToCheck (found : Found) (asked : SheetCheck (Bor (List ℕ))) : Type 0 where
  pub field_file : IsGiven found (codes "GSI") asked.gsi.now
  pub of_sheet : IsGiven found (codes "SHEET") asked.sheet.now
  pub of_limits : StatesLimits found asked.limits
  pub of_residual : StatesResidual found asked.residual
  pub of_digests : StatesDigests found asked.digests

-- What `mark` asks for: the path of the field file and that of its copy or none, how its stations
-- begin, how many sets were read to the end and how many targets they have, at most 40 and 100,
-- whether a name that comes again is another set-up, and whether stations with a fault stay
-- outside.
pub record AsksToMark (found : Found) (gsi : List ℕ) (copy : Option (List ℕ))
    (beginnings : Beginnings) (stated : Stated) : Type 0 where
  pub field_file : IsGiven found (codes "GSI") gsi
  pub of_copy : first_value found (codes "COPY") ≡ copy
  pub of_beginnings : StatesBeginnings found beginnings
  pub of_sets : StatesNumbers found (codes "sets") 40 stated.sets
  pub of_targets : StatesNumbers found (codes "targets") 100 stated.targets
  pub of_again : StatesFlag found (codes "again") stated.again
  pub of_others : StatesFlag found (codes "others") stated.others

-- What `change` asks for: the path of the field file, that of its copy or none, and the changes of
-- lines.
pub record AsksToChange (found : Found) (gsi : List ℕ) (copy : Option (List ℕ))
    (changes : List Change) : Type 0 where
  pub field_file : IsGiven found (codes "GSI") gsi
  pub of_copy : first_value found (codes "COPY") ≡ copy
  pub of_changes : StatesChanges found changes

-- What a subcommand of this name asks for, by what is found of the words after it.
abbrev pub AsksFor : Text → Found → Asked → Type 0
AsksFor name found (request.Check asked) = (name ≡ codes "check") × AsksToCheck found asked
AsksFor name found (request.Means gsi station limits) =
    (name ≡ codes "means") × AsksOfStation found gsi.now station limits
AsksFor name found (request.Station station text) =
    AsksForResult found station × NamesStation found station.name × AsksForText name found text
    × StatesFlag found (codes "all") false
AsksFor name found (request.Stations stations text) =
    AsksForAll found stations × AsksForTexts name found text × StatesFlag found (codes "all") true
AsksFor name found (request.Table beside text) =
    AsksForResult found beside.station × StatesTableForm found beside.form
    × AsksForTableText name found beside.station.name beside.file.now text
    × StatesFlag found (codes "all") false
AsksFor name found (request.StationsTable beside text) =
    AsksForTableOfAll found beside × AsksForTextOfAll name found text
    × StatesFlag found (codes "all") true
AsksFor name found (request.Mark gsi copy beginnings stated) =
    (name ≡ codes "mark")
    × AsksToMark found gsi.now (option_map (λ path. path.now) copy) beginnings stated
AsksFor name found (request.Change gsi copy changes) =
    (name ≡ codes "change")
    × AsksToChange found gsi.now (option_map (λ path. path.now) copy) changes.items
AsksFor name found (request.List gsi limits form) =
    (name ≡ codes "list") × IsGiven found (codes "GSI") gsi.now
    × StatesLimits found limits × StatesForm found form
AsksFor name found (request.Words gsi) =
    (name ≡ codes "words") × IsGiven found (codes "GSI") gsi.now
AsksFor name found other = ⊥

-- No station can be asked for: the field file is missing, or no limits are stated that may be.
abbrev pub LacksStation : Found → Type 0
LacksStation found = IsMissing found (codes "GSI") ⊎ StatesNoLimits found

-- A result can be held to no limits: none of face differences, or of residuals, is stated that may
-- be.
abbrev pub LacksLimits : Found → Type 0
LacksLimits found = StatesNoLimits found ⊎ StatesNoResidual found

-- No result of a station can be asked for: the field file is missing, or its limits.
abbrev pub LacksResult : Found → Type 0
LacksResult found = IsMissing found (codes "GSI") ⊎ LacksLimits found

-- The results of all stations can't be: the field file is missing, or their limits, or something
-- that is of one station stands beside that.
abbrev pub LacksAll : Found → Type 0
LacksAll found =
    IsMissing found (codes "GSI") ⊎ StandsBesideAll found ⊎ LacksLimits found

-- Neither can those of one, where all are not asked for, nor of all, where they are.
abbrev pub LacksResults : Found → Type 0
LacksResults found =
    (StatesFlag found (codes "all") false × LacksResult found)
    ⊎ (StatesFlag found (codes "all") true × LacksAll found)

-- No table can be: no word of its path is there; or beside one table of all stations something
-- stands that is of one.
abbrev pub LacksTable : Found → Type 0
LacksTable found = IsMissing found (codes "STATION")
    ⊎ (StatesFlag found (codes "all") true × StandsBesideTable found)

-- What `compare` needs isn't found, or what it has doesn't go together.
abbrev pub LacksToCompare : Found → Type 0
LacksToCompare found =
    LacksResult found ⊎ LacksTable found ⊎ StatesNoColumns found ⊎ StatesNoWithin found

-- What `differences` needs isn't found, or what it has doesn't go together.
abbrev pub LacksForDifferences : Found → Type 0
LacksForDifferences found =
    LacksResult found ⊎ LacksTable found ⊎ StatesNoColumns found ⊎ IsCommaInJson found

-- What `directions` needs isn't found.
abbrev pub LacksForDirections : Found → Type 0
LacksForDirections found = LacksResults found ⊎ StatesNoNumber found (codes "decimals") 1 8

-- How a table is read is stated: in another unit than gon, or by columns.
abbrev pub SpeaksOfForm : Found → Type 0
SpeaksOfForm found = (form : FormStated) × StatesTableForm found form × IsStatedForm form

-- A limit of a comparison is stated, or how a table is read, and no table.
abbrev pub SpeaksOfNoTable : Found → Type 0
SpeaksOfNoTable found =
    IsMissing found (codes "table")
    × (((within : ℕ) × StatesWithin found (Some within)) ⊎ SpeaksOfForm found)

-- A report is to be of rows, and something beside them is stated: a table, a limit of a comparison,
-- how one is read, or what a report alone can have.
abbrev pub HasMoreThanRows : Found → Type 0
HasMoreThanRows found =
    StatesFlag found (codes "csv") true
    × (((table : List ℕ) × IsGiven found (codes "table") table)
    ⊎ ((within : ℕ) × StatesWithin found (Some within)) ⊎ SpeaksOfForm found
    ⊎ SpeaksOfNotes found)

-- What `report` needs isn't found, or what it has doesn't go together.
abbrev pub LacksToReport : Found → Type 0
LacksToReport found =
    LacksResults found ⊎ StatesNoWithin found ⊎ StatesNoColumns found ⊎ SpeaksOfNoTable found
    ⊎ HasMoreThanRows found ⊎ IsCommaAlone found ⊎ StatesNoNotes found

-- What `check` needs isn't found.
abbrev pub LacksToCheck : Found → Type 0
LacksToCheck found = IsMissing found (codes "GSI") ⊎ IsMissing found (codes "SHEET")
    ⊎ StatesNoLimits found ⊎ StatesNoResidual found

-- What `mark` needs isn't found.
abbrev pub LacksToMark : Found → Type 0
LacksToMark found = IsMissing found (codes "GSI") ⊎ StatesNoBeginnings found
    ⊎ StatesNoNumbers found (codes "sets") 40 ⊎ StatesNoNumbers found (codes "targets") 100

-- What `change` needs isn't found.
abbrev pub LacksToChange : Found → Type 0
LacksToChange found = IsMissing found (codes "GSI") ⊎ StatesNoChanges found

-- What `list` needs isn't found, or what it has doesn't go together.
abbrev pub LacksForList : Found → Type 0
LacksForList found =
    IsMissing found (codes "GSI") ⊎ StatesNoLimits found ⊎ IsCommaAlone found

-- What a subcommand of this name needs isn't found of the words after it.
pub data Lacks (name : Text) (found : Found) : Type 0 where
  of_compare : name ≡ codes "compare" → LacksToCompare found → Lacks name found
  of_differences : name ≡ codes "differences" → LacksForDifferences found → Lacks name found
  of_directions : name ≡ codes "directions" → LacksForDirections found → Lacks name found
  of_report : name ≡ codes "report" → LacksToReport found → Lacks name found
  of_check : name ≡ codes "check" → LacksToCheck found → Lacks name found
  of_means : name ≡ codes "means" → LacksStation found → Lacks name found
  of_mark : name ≡ codes "mark" → LacksToMark found → Lacks name found
  of_change : name ≡ codes "change" → LacksToChange found → Lacks name found
  of_list : name ≡ codes "list" → LacksForList found → Lacks name found
  of_words : name ≡ codes "words" → IsMissing found (codes "GSI") → Lacks name found
  -- No subcommand of another name can be done.
  of_other_name : (name ≢ codes "compare") × (name ≢ codes "differences")
      × (name ≢ codes "directions") × (name ≢ codes "report") × (name ≢ codes "check")
      × (name ≢ codes "means") × (name ≢ codes "mark") × (name ≢ codes "change")
      × (name ≢ codes "list") × (name ≢ codes "words")
      → Lacks name found

-- The words of `explain` have this name of a fault: they make one line, with a blank between each
-- two.
pub record NamesFault (found : Found) (name : List ℕ) : Type 0 where
  pub words : List (List ℕ)
  pub given : option_map raw_values (matched_of found (codes "FAULT")) ≡ Some words
  pub named : Names (join_by (λ word. word) (codes " ") words) name

-- What `explain` asks for: the fault that its words name; all names where it has no words.
abbrev pub AsksToExplain : Found → List (Bor (List Explanation)) → Asked → Type 0
AsksToExplain found table (request.Explain None) = matched_of found (codes "FAULT") ≡ None
AsksToExplain found table (request.Explain (Some e)) =
    (name : List ℕ) × NamesFault found name × IsMeant table name e.now
AsksToExplain found table other = ⊥

-- Why `explain` answers none: no fault has the name, or there is no memory.
abbrev pub IsMistakenName : Found → List (Bor (List Explanation)) → Error → Type 0
IsMistakenName found table error = (kind_of error ≡ OutOfMemory)
    ⊎ ((kind_of error ≡ InvalidValue)
    × ((name : List ℕ) × NamesFault found name × IsNoNameInAnyCase table name))

-- The name of a subcommand, and what is found of the words after it; or that there is none.
abbrev pub Named : Type 0
Named = Option (Text × List Row)

-- The subcommand has this name, and this is found of the words after it.
abbrev pub Meets : Named → Text → Found → Type 0
Meets named name found = named ≡ Some (name, rows_of found)

-- The subcommand that the words of a command line name by the grammar of the program, with what is
-- found of the words after it. The first word is the program's name.
abbrev pub named_by : List Text → Named
named_by words = subcommand_of the_program words

-- A subcommand is named, and asks for this: `explain` for an explanation, each other as it is said
-- above.
pub record NamesRequest (named : Named) (table : List (Bor (List Explanation)))
    (request : Asked) : Type 0 where
  pub name : Text
  pub found : Found
  pub met : Meets named name found
  pub asked : AsksFor name found request
      ⊎ ((name ≡ codes "explain") × AsksToExplain found table request)

-- What the words ask for: where no subcommand is named, the words of standard input.
abbrev pub IsAskedFor : Named → List (Bor (List Explanation)) → Asked → Type 0
IsAskedFor named table asked =
    ((named ≡ None) × (asked ≡ request.WordsOfInput)) ⊎ NamesRequest named table asked

-- This is what the words of a command line ask for: the grammar takes them, and the request is that
-- of the subcommand that they name, or of none.
pub record IsAskedForBy (words : List Text) (table : List (Bor (List Explanation)))
    (request : Asked) : Type 0 where
  pub taken : fault_of the_program words ≡ []
  pub asked : IsAskedFor (named_by words) table request

-- A subcommand is named, and this error is its answer: `explain` is given no name of a fault, or
-- memory ran out; or what another subcommand needs isn't found.
pub record NamesMistake (named : Named) (table : List (Bor (List Explanation)))
    (error : Error) : Type 0 where
  pub name : Text
  pub found : Found
  pub met : Meets named name found
  pub mistaken : ((name ≡ codes "explain") × IsMistakenName found table error)
      ⊎ ((name ≢ codes "explain") × (kind_of error ≡ ValueValidation) × Lacks name found)

-- Why the words of a command line are answered with an error: memory ran out, or the grammar
-- refuses them or they ask for help or the version, and the error is of the kind that the grammar
-- gives; or the grammar takes them, and it is the answer of the subcommand that they name.
abbrev pub IsMistakeIn : List Text → List (Bor (List Explanation)) → Error → Type 0
IsMistakeIn words table error = HasKind (fault_of the_program words) error
    ⊎ ((fault_of the_program words ≡ []) × NamesMistake (named_by words) table error)
