use Rattle.std.proofs.Common.{◌≡◌, ◌∙◌, ◌++◌, List, ℕ, append_assoc, codes, sym}
use Rattle.std.proofs.lemmas.Result.{IfOk-weaker}
use Rattle.command_line.specs.Mistakes.{code_why, columns_why, language_why, note_why}
use Rattle.command_line.proofs.mistakes.message_of.Goals as goal

-- Six pieces are one text, however they are grouped.
regroup : (a b c d e f : List ℕ)
    → a ++ b ++ c ++ d ++ e ++ f ≡ a ++ (b ++ (c ++ (d ++ (e ++ f))))
regroup a b c d e f = simp append_assoc

pub returns-in-Limit : goal.returns-in-Limit
returns-in-Limit c =
    let same = regroup (codes "invalid value '") c.in-Limit.text.now (codes "' for '--")
    c.name.result.now (codes " <LIMIT>': ") c.stated_as.result.now in
    rw (c.in-Limit.is, ← c.name.ensures, ← c.stated_as.ensures)
    (IfOk-weaker c.format.result _ _ (λ said is. is ∙ sym same) c.format.ensures.ok)

-- Seven are, of which the last two make one.
regroup_pair : (a b c d e f g : List ℕ)
    → a ++ b ++ c ++ d ++ e ++ (f ++ g) ≡ a ++ (b ++ (c ++ (d ++ (e ++ (f ++ g)))))
regroup_pair a b c d e f g = simp append_assoc

pub returns-in-Count : goal.returns-in-Count
returns-in-Count c =
    let same = regroup_pair (codes "invalid value '") c.in-Count.text.now (codes "' for '--")
    c.name-in-Count.result.now (codes " <N>': ") c.told_of.result.0.now c.told_of.result.1.now in
    rw (c.in-Count.is, ← c.name-in-Count.ensures, ← c.told_of.ensures)
    (IfOk-weaker c.format-in-Count.result _ _ (λ said is. is ∙ sym same)
    c.format-in-Count.ensures.ok)

-- Four are.
regroup_four : (a b c d : List ℕ) → a ++ b ++ c ++ d ≡ a ++ (b ++ (c ++ d))
regroup_four a b c d = simp append_assoc

pub returns-in-Code : goal.returns-in-Code
returns-in-Code c =
    let same = regroup_four (codes "invalid value '") c.in-Code.text.now
    (codes "' for '--station-code <N>': ") code_why in
    rw c.in-Code.is
    (IfOk-weaker c.format-in-Code.result _ _ (λ said is. is ∙ sym same)
    c.format-in-Code.ensures.ok)

pub returns-in-Columns : goal.returns-in-Columns
returns-in-Columns c =
    let same = regroup_four (codes "invalid value '") c.in-Columns.text.now
    (codes "' for '--columns <TARGET,DIRECTION>': ") columns_why in
    rw c.in-Columns.is
    (IfOk-weaker c.format-in-Columns.result _ _ (λ said is. is ∙ sym same)
    c.format-in-Columns.ensures.ok)

pub returns-in-Change : goal.returns-in-Change
returns-in-Change c =
    let same = regroup (codes "invalid value '") c.in-Change.text.now (codes "' for '--")
    c.form_of_changes.result.now (codes "': ") c.stated_as_changes.result.now in
    rw (c.in-Change.is, ← c.form_of_changes.ensures, ← c.stated_as_changes.ensures)
    (IfOk-weaker c.format-in-Change.result _ _ (λ said is. is ∙ sym same)
    c.format-in-Change.ensures.ok)

pub returns-in-Note : goal.returns-in-Note
returns-in-Note c =
    let same = regroup_four (codes "invalid value '") c.in-Note.text.now
    (codes "' for '--note <KEY=TEXT>': ") note_why in
    rw c.in-Note.is
    (IfOk-weaker c.format-in-Note.result _ _ (λ said is. is ∙ sym same)
    c.format-in-Note.ensures.ok)

pub returns-in-Language : goal.returns-in-Language
returns-in-Language c =
    let same = regroup_four (codes "invalid value '") c.in-Language.text.now
    (codes "' for '--language <CODE>': ") language_why in
    rw c.in-Language.is
    (IfOk-weaker c.format-in-Language.result _ _ (λ said is. is ∙ sym same)
    c.format-in-Language.ensures.ok)
