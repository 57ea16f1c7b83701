-- What is answered of a text that names a fault. `table` has the explanations, in groups.
use Rattle.std.specs.Prelude.{◌≡◌, ◌≢◌, ◌++◌, ℕ, List, [], Option, Some, None, Result, Ok, Err}
use Rattle.std.specs.Prelude.{codes, ⊤}
use Rattle.std.specs.Borrow.{Bor}
use Rattle.std.specs.List.{join_by}
use Rattle.std.specs.Str.{IsUtf8}
use Rattle.station_answers.specs.Parts.{part_text}
use Rattle.station_check.specs.VerdictLines.{refusal_line}
use Rattle.station_check.specs.declared.fault.Fault.TheVariants as check
use Rattle.station_explain.specs.Explaining.{Explains}
use Rattle.station_explain.specs.Naming.{Names, IsMeant, IsNoNameInAnyCase}
use Rattle.station_explain.specs.Table.{Explanation}
use Rattle.station_page.specs.declared.explain.ExplainedAs.{ExplainedAs}
use Rattle.station_page.specs.declared.explain.ExplainedAs.TheVariants.{Text, Parts}
use Rattle.station_page.specs.declared.explain.Unexplained.{Unexplained}
use Rattle.station_page.specs.declared.explain.Unexplained.TheVariants.{NotUtf8, NoName, Memory}

-- The fault that a text asks for: the one that the name in it means; none, for the list of all
-- names, where the text is empty.
abbrev pub IsAskedFor : List (Bor (List Explanation)) → List ℕ → Option Explanation → Type 0
IsAskedFor table line (Some e) =
    (line ≢ []) × (name : List ℕ) × Names line name × IsMeant table name e
IsAskedFor table line None = line ≡ []

-- What is said of a fault, part by part: its names, one a line; what it is; when it comes; a line
-- that names it; and what to do.
abbrev pub explanation_parts : Explanation → List ℕ
explanation_parts e =
    part_text (codes "names") (join_by (λ name. name.now) (codes "\n") e.names.now)
    ++ (part_text (codes "meaning") e.meaning.now
    ++ (part_text (codes "when") e.when.now
    ++ (part_text (codes "example") e.example.now
    ++ part_text (codes "remedy") e.remedy.now)))

-- What is answered of a fault, or of none: the text that the program prints of it, or its parts.
abbrev pub Tells : ExplainedAs → List (Bor (List Explanation)) → Option Explanation → List ℕ → Type 0
Tells Text table fault text = Explains table fault text
Tells Parts table (Some e) text = text ≡ explanation_parts e
Tells Parts table None text = text ≡ []

-- The line is a text, and what is answered tells of the fault that it asks for.
pub record IsExplained (form : ExplainedAs) (table : List (Bor (List Explanation)))
    (line text : List ℕ) : Type 0 where
  pub is_text : IsUtf8 line
  pub fault : Option Explanation
  pub asked : IsAskedFor table line fault
  pub explains : Tells form table fault text

-- The line is a text and not empty, and no fault has the name in it, capitals and small letters
-- alike.
pub record IsUnnamed (table : List (Bor (List Explanation))) (line : List ℕ) : Type 0 where
  pub not_empty : line ≢ []
  pub is_text : IsUtf8 line
  pub name : List ℕ
  pub names : Names line name
  pub missing : IsNoNameInAnyCase table name

-- Why a line is not explained.
abbrev pub IsUnexplained : List (Bor (List Explanation)) → List ℕ → Unexplained → Type 0
IsUnexplained table line NotUtf8 = ¬ (IsUtf8 line)
IsUnexplained table line NoName = IsUnnamed table line
IsUnexplained table line Memory = ⊤

-- What is answered of a line: a text that explains, or why there is none.
abbrev pub AnswersLine : ExplainedAs → List (Bor (List Explanation)) → List ℕ
    → Result (List ℕ) Unexplained → Type 0
AnswersLine form table line (Ok text) = IsExplained form table line text
AnswersLine form table line (Err why) = IsUnexplained table line why

-- the line of a refusal to explain
abbrev pub unexplained_line : Unexplained → List ℕ
unexplained_line NotUtf8 = codes "refused: not UTF-8\n"
unexplained_line NoName = codes "refused: no such fault\n"
unexplained_line Memory = refusal_line check.Memory
