-- The lines of a copy.
use Rattle.std.proofs.Common.{◌≡◌, ℕ, suc, true, false, List, [], ◌∷◌, ◌++◌, drop, filter, map}
use Rattle.std.proofs.Common.{refl}
use Rattle.std.proofs.Common.{sym, ap, subst, ◌∙◌, inl, inr, append_assoc, Option, Some, None}
use Rattle.std.proofs.Common.{eqb-true}
use Rattle.std.specs.Prelude.{⊤, ◌==◌}
use Rattle.std.specs.List.{flat_map}
use Rattle.std.proofs.lemmas.Bool.{cases_Bool}
use Rattle.std.proofs.lemmas.List.{append-nil}
use Rattle.gsi_file.specs.Parts.{HasNoEnd, is_line, numbered_lines}
use Rattle.gsi_file.specs.Beside.{end_bytes}
use Rattle.gsi_file.specs.declared.beside.LineEnd.{LineEnd}
use Rattle.set_marks.specs.Unmarked.{whole_lines}
use Rattle.set_marks.proofs.WholeLines.{lines_joined}
use Rattle.changed_lines.specs.declared.change.Change.{Change}
use Rattle.changed_lines.specs.declared.change.Edit.{Edit}
use Rattle.changed_lines.specs.declared.change.Edit.TheVariants.{Out, Rename}
use Rattle.changed_lines.specs.Answers.{AreMade, IsMadeAt, MayBe, line_at}
use Rattle.changed_lines.specs.ChangedFile.{text_of, end_of, numbered, edit_of, edited, in_copy}
use Rattle.changed_lines.specs.ChangedFile.{changed, edited_line, edited_lines}
use Rattle.changed_lines.specs.FirstLines.{with_line}
use Rattle.changed_lines.specs.Renaming.{renamed}
use Rattle.changed_lines.proofs.EndedLines.{IsEnded, AreEnded, are_ended}
use Rattle.changed_lines.proofs.LineCuts.{first_numbered, lone_numbered, text_kept, no_end_kept}
use Rattle.changed_lines.proofs.LineCuts.{text_before, end_after}
use Rattle.changed_lines.proofs.RenamedBlocks.{block_has_no_end, block_is_line}
use Rattle.changed_lines.proofs.Walks.{drop_next, at_next}

-- Where no change is left, each line stands as it is.
as_they_are : (count : ℕ) (lines : List (List ℕ))
    → flat_map (in_copy []) (numbered count lines) ≡ flat_map (λ line. line) lines
as_they_are count [] = refl
as_they_are count (line ∷ lines) = elim (cases_Bool (is_line (text_of line))) [
  | inl h ↦ rw h (ap (λ bs. line ++ bs) (as_they_are (suc count) lines))
  | inr h ↦ rw h (ap (λ bs. line ++ bs) (as_they_are count lines))
]

-- With no change the copy is the file.
pub unchanged : (bytes : List ℕ) → changed [] bytes ≡ bytes
unchanged bytes = as_they_are 0 (whole_lines bytes) ∙ lines_joined bytes

-- A line with another name, where it is to have one, is a line.
abbrev FineLine : Option Edit → List ℕ → Type 0
FineLine None line = ⊤
FineLine (Some Out) line = ⊤
FineLine (Some (Rename name)) line =
    HasNoEnd (renamed name line) × (is_line (renamed name line) ≡ true)

-- All these lines, of which so many came before, are.
abbrev AreFine : List Change → ℕ → List (List ℕ) → Type 0
AreFine cs count [] = ⊤
AreFine cs count (line ∷ lines) =
    FineLine (edit_of (suc count) cs) line × AreFine cs (suc count) lines

-- The numbered lines of an ended text and of what comes after it.
ended_lines : (text : List ℕ) (end : LineEnd) (beyond : List ℕ) → HasNoEnd text
    → numbered_lines ((text ++ end_bytes end) ++ beyond)
    ≡ with_line (is_line text) text (numbered_lines beyond)
ended_lines text end beyond none =
    ap numbered_lines (append_assoc text (end_bytes end) beyond)
    ∙ first_numbered text end beyond none

text_is : (whole : List ℕ) (is : IsEnded whole) → text_of whole ≡ is.text
text_is whole is = ap text_of is.is ∙ text_before is.text is.end is.none

end_is : (whole : List ℕ) (is : IsEnded whole) → end_of whole ≡ end_bytes is.end
end_is whole is = ap end_of is.is ∙ end_after is.text is.end is.none

-- Those of an ended line.
whole_ended : (whole beyond : List ℕ) → IsEnded whole
    → numbered_lines (whole ++ beyond)
    ≡ with_line (is_line (text_of whole)) (text_of whole) (numbered_lines beyond)
whole_ended whole beyond is =
    ap (λ bs. numbered_lines (bs ++ beyond)) is.is ∙ ended_lines is.text is.end beyond is.none
    ∙ ap (λ (t : List ℕ). with_line (is_line t) t (numbered_lines beyond)) (sym (text_is whole is))

-- What stands for an ended line, and what comes after it.
ended_step : (e : Option Edit) (whole beyond : List ℕ) → IsEnded whole
    → is_line (text_of whole) ≡ true → FineLine e (text_of whole)
    → numbered_lines (edited e whole ++ beyond)
    ≡ edited_line e (text_of whole) ++ numbered_lines beyond
ended_step None whole beyond is line fine =
    whole_ended whole beyond is
    ∙ ap (λ b. with_line b (text_of whole) (numbered_lines beyond)) line
ended_step (Some Out) whole beyond is line fine = refl
ended_step (Some (Rename name)) whole beyond is line fine =
    let text = renamed name (text_of whole) in
    ap (λ bs. numbered_lines ((text ++ bs) ++ beyond)) (end_is whole is)
    ∙ ended_lines text is.end beyond fine.0
    ∙ ap (λ b. with_line b text (numbered_lines beyond)) fine.1

-- The numbered lines of a last line.
lone_lines : (whole : List ℕ) → HasNoEnd whole
    → numbered_lines (whole ++ []) ≡ with_line (is_line (text_of whole)) (text_of whole) []
lone_lines whole none = ap numbered_lines (append-nil whole) ∙ lone_numbered whole none
    ∙ ap (λ (t : List ℕ). with_line (is_line t) t []) (sym (text_kept whole none))

-- What stands for it.
last_step : (e : Option Edit) (whole : List ℕ) → HasNoEnd whole
    → is_line (text_of whole) ≡ true → FineLine e (text_of whole)
    → numbered_lines (edited e whole ++ []) ≡ edited_line e (text_of whole) ++ []
last_step None whole none line fine =
    lone_lines whole none ∙ ap (λ b. with_line b (text_of whole) []) line
last_step (Some Out) whole none line fine = refl
last_step (Some (Rename name)) whole none line fine =
    let text = renamed name (text_of whole) in
    ap (λ bs. numbered_lines ((text ++ bs) ++ [])) (no_end_kept whole none)
    ∙ ap numbered_lines (append-nil (text ++ []) ∙ append-nil text)
    ∙ lone_numbered text fine.0 ∙ ap (λ b. with_line b text []) fine.1

-- The numbered lines among these.
abbrev lines_of : List (List ℕ) → List (List ℕ)
lines_of wholes = filter is_line (map text_of wholes)

kept : (w : List ℕ) (ls : List (List ℕ)) → is_line (text_of w) ≡ true
    → lines_of (w ∷ ls) ≡ text_of w ∷ lines_of ls
kept w ls h = rw h refl

passed : (w : List ℕ) (ls : List (List ℕ)) → is_line (text_of w) ≡ false
    → lines_of (w ∷ ls) ≡ lines_of ls
passed w ls h = rw h refl

-- The numbered lines of a copy.
copies : (cs : List Change) (count : ℕ) (ls : List (List ℕ)) → AreEnded ls
    → AreFine cs count (lines_of ls)
    → numbered_lines (flat_map (in_copy cs) (numbered count ls))
    ≡ edited_lines count cs (lines_of ls)
copies cs count [] are fine = refl
copies cs count (w ∷ []) are fine = elim (cases_Bool (is_line (text_of w))) [
  | inl h ↦ let f = rw h at fine in rw h (elim are [
    | inl is ↦ ended_step (edit_of (suc count) cs) w [] is h f.0
    | inr none ↦ last_step (edit_of (suc count) cs) w none h f.0
  ])
  | inr h ↦ rw h (elim are [
    | inl is ↦ whole_ended w [] is ∙ ap (λ b. with_line b (text_of w) []) h
    | inr none ↦ lone_lines w none ∙ ap (λ b. with_line b (text_of w) []) h
  ])
]
copies cs count (w ∷ k ∷ ls) are fine = elim (cases_Bool (is_line (text_of w))) [
  | inl h ↦
      let f : AreFine cs count (text_of w ∷ lines_of (k ∷ ls)) = subst
      (λ (xs : List (List ℕ)). AreFine cs count xs) (kept w (k ∷ ls) h) fine in
      let rest = copies cs (suc count) (k ∷ ls) are.1 f.1 in
      rw h (ended_step (edit_of (suc count) cs) w
      (flat_map (in_copy cs) (numbered (suc count) (k ∷ ls))) are.0 h f.0
      ∙ ap (λ xs. edited_line (edit_of (suc count) cs) (text_of w) ++ xs) rest)
  | inr h ↦
      let f : AreFine cs count (lines_of (k ∷ ls)) = subst
      (λ (xs : List (List ℕ)). AreFine cs count xs) (passed w (k ∷ ls) h) fine in
      let rest = copies cs count (k ∷ ls) are.1 f in
      rw h (whole_ended w (flat_map (in_copy cs) (numbered count (k ∷ ls))) are.0
      ∙ ap (λ b. with_line b (text_of w)
      (numbered_lines (flat_map (in_copy cs) (numbered count (k ∷ ls))))) h ∙ rest)
]

none_edited : (count : ℕ) (lines : List (List ℕ)) → edited_lines count [] lines ≡ lines
none_edited count [] = refl
none_edited count (line ∷ lines) = ap (λ ls. line ∷ ls) (none_edited (suc count) lines)

none_unfine : (count : ℕ) (lines : List (List ℕ)) → AreFine [] count lines
none_unfine count [] = tt
none_unfine count (line ∷ lines) = (tt, none_unfine (suc count) lines)

-- The lines that refusals count are the lines of the file without what ends them.
lines_counted : (bytes : List ℕ) → numbered_lines bytes ≡ lines_of (whole_lines bytes)
lines_counted bytes = ap numbered_lines (sym (unchanged bytes))
    ∙ copies [] 0 (whole_lines bytes) (are_ended bytes)
    (none_unfine 0 (lines_of (whole_lines bytes)))
    ∙ none_edited 0 (lines_of (whole_lines bytes))

-- A change that can be made is made of its line.
made_at : (all : List (List ℕ)) (number before : ℕ) (e : Edit) (cs : List Change)
    → AreMade all before cs → edit_of number cs ≡ Some e → IsMadeAt (line_at all number) e
made_at all number before e [] made is = let f : None ≡ Some e = is in absurd (cc)
made_at all number before e (c ∷ cs) made is = elim (cases_Bool (c.line == number)) [
  | inl h ↦
      let same : Some c.edit ≡ Some e = rw h at is in
      let edit : c.edit ≡ e = cc in
      subst (λ (x : Edit). IsMadeAt (line_at all number) x) edit
      (subst (λ (n : ℕ). IsMadeAt (line_at all n) c.edit) (eqb-true c.line number h) made.1)
  | inr h ↦ made_at all number c.line e cs made.2 (rw h at is)
]

fine_edit : (e : Option Edit) (line : List ℕ) → ((f : Edit) → e ≡ Some f → MayBe f line)
    → FineLine e line
fine_edit None line may = tt
fine_edit (Some Out) line may = tt
fine_edit (Some (Rename name)) line may =
    let m = (may (Rename name) refl).2.measures in (
      block_has_no_end (renamed name line) m.block m.is_block,
      block_is_line (renamed name line) m.block m.is_block,
    )

all_fine : (all : List (List ℕ)) (cs : List Change) (count : ℕ) (lines : List (List ℕ))
    → AreMade all 0 cs → drop count all ≡ lines → AreFine cs count lines
all_fine all cs count [] made are = tt
all_fine all cs count (line ∷ lines) made are =
    let next = drop_next count all line lines are in
    let here = at_next all count line next.1 in (
      fine_edit (edit_of (suc count) cs) line (λ e is.
          subst (λ (o : Option (List ℕ)). IsMadeAt o e) here
          (made_at all (suc count) 0 e cs made is)),
      all_fine all cs (suc count) lines made next.0,
    )

-- The lines of the copy are those of the file, each as the changes say.
pub copied_lines : (bytes : List ℕ) (cs : List Change) → AreMade (numbered_lines bytes) 0 cs
    → numbered_lines (changed cs bytes) ≡ edited_lines 0 cs (numbered_lines bytes)
copied_lines bytes cs made =
    let counted = lines_counted bytes in
    copies cs 0 (whole_lines bytes) (are_ended bytes)
    (all_fine (lines_of (whole_lines bytes)) cs 0 (lines_of (whole_lines bytes))
    (subst (λ (ls : List (List ℕ)). AreMade ls 0 cs) counted made) refl)
    ∙ ap (λ (ls : List (List ℕ)). edited_lines 0 cs ls) (sym counted)
