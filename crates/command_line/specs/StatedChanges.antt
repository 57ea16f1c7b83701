-- The changes of lines that the options of `change` state.
use Rattle.std.specs.Prelude.{◌≡◌, ℕ, List, [], ◌++◌, codes}
use Rattle.changed_lines.specs.Order.{all_placed}
use Rattle.changed_lines.specs.Stated.{SayEach}
use Rattle.changed_lines.specs.declared.change.Change.{Change}
use Rattle.changed_lines.specs.declared.stated.EditKind.{EditKind}
use Rattle.changed_lines.specs.declared.stated.EditKind.TheVariants.{Out, Rename}
use Rattle.clap.specs.declared.parser.matches.Found.{Found}
use Rattle.command_line.specs.StatedNumbers.{texts_of}

-- The name of the option that states changes of this kind, without its two hyphens.
abbrev pub change_name : EditKind → List ℕ
change_name Out = codes "leave-out"
change_name Rename = codes "rename"

-- The option as a mistake names it.
abbrev pub change_form : EditKind → List ℕ
change_form Out = codes "leave-out <N>"
change_form Rename = codes "rename <N=NAME>"

-- What may be stated there, as a mistake tells it.
abbrev pub change_why : EditKind → List ℕ
change_why Out = codes "state the number of a line, from 1"
change_why Rename = codes "state the number of a line, from 1, '=', and a name of 1 to 16 "
    ++ codes "characters, from the blank to '~'"

-- The place of an option in the order in which mistakes are told.
abbrev pub change_place : EditKind → ℕ
change_place Out = 12
change_place Rename = 13

-- These changes are stated: the texts of `--leave-out` say which lines are left out, those of
-- `--rename` which points have other names, and these are all of them in the order of their lines.
pub record StatesChanges (found : Found) (cs : List Change) : Type 0 where
  pub outs : List Change
  pub names : List Change
  pub of_outs : SayEach Out (texts_of found (codes "leave-out")) outs
  pub of_names : SayEach Rename (texts_of found (codes "rename")) names
  pub ordered : cs ≡ all_placed (all_placed [] outs) names

-- No changes are stated: a text of one of the two says none.
abbrev pub StatesNoChanges : Found → Type 0
StatesNoChanges found = (cs : List Change) → ¬ StatesChanges found cs
