-- The changes that texts state, as those of an option of a command line.
use Rattle.std.specs.Prelude.{◌≡◌, ℕ, List, [], ◌∷◌, ◌++◌, ⊤}
use Rattle.std.specs.List.{AllZip}
use Rattle.changed_lines.specs.declared.change.Change.{Change}
use Rattle.changed_lines.specs.declared.change.Edit.{Edit}
use Rattle.changed_lines.specs.declared.change.Edit.TheVariants as edit
use Rattle.changed_lines.specs.declared.stated.EditKind.{EditKind}
use Rattle.changed_lines.specs.declared.stated.EditKind.TheVariants as kind
use Rattle.changed_lines.specs.declared.stated.Unstated.{Unstated}
use Rattle.changed_lines.specs.declared.stated.Unstated.TheVariants as unstated
use Rattle.changed_lines.specs.Sayings.{SaysChange}

-- What becomes of a line is of this kind: it is left out, or its point has another name.
abbrev pub IsOfKind : EditKind → Edit → Type 0
IsOfKind kind.Out edit.Out = ⊤
IsOfKind kind.Rename (edit.Rename name) = ⊤
IsOfKind kind other = ⊥

-- A text says this change, which is of this kind.
pub record SaysOfKind (kind : EditKind) (text : List ℕ) (c : Change) : Type 0 where
  pub says : SaysChange text c
  pub of_kind : IsOfKind kind c.edit

-- Texts say these changes of a kind, each the one at its place.
abbrev pub SayEach : EditKind → List (List ℕ) → List Change → Type 0
SayEach kind texts cs = AllZip (SaysOfKind kind) texts cs

-- The change of a kind that a text says is added.
pub record AddsOfKind (kind : EditKind) (old : List Change) (text : List ℕ) (new : List Change)
    : Type 0 where
  pub change : Change
  pub says : SaysOfKind kind text change
  pub added : new ≡ old ++ change ∷ []

-- Why it isn't: memory ran out, or the text says none.
abbrev pub IsUnsaid : EditKind → List ℕ → Unstated → Type 0
IsUnsaid kind text unstated.Memory = ⊤
IsUnsaid kind text (unstated.Wrong told) =
    (told.now ≡ text) × ((c : Change) → ¬ SaysOfKind kind text c)

-- The text is the first that says no change of a kind: those before it say some.
pub record IsFirstUnsaid (kind : EditKind) (texts : List (List ℕ)) (text : List ℕ) : Type 0 where
  pub before : List (List ℕ)
  pub after : List (List ℕ)
  pub cs : List Change
  pub whole : texts ≡ before ++ text ∷ after
  pub right : SayEach kind before cs
  pub wrong : (c : Change) → ¬ SaysOfKind kind text c

-- Why texts state no changes: memory ran out, or a text is the first that says none.
abbrev pub AreUnsaid : EditKind → List (List ℕ) → Unstated → Type 0
AreUnsaid kind texts unstated.Memory = ⊤
AreUnsaid kind texts (unstated.Wrong text) = IsFirstUnsaid kind texts text.now
