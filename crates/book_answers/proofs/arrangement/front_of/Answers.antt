use Rattle.std.proofs.Common.{◌≡◌, ◌-◌, ◌∙◌, ◌∷◌, List, ℕ, [], ap, length, rules, take}
use Rattle.csv.specs.Writing.{row_text}
use Rattle.row_forms.specs.Forms.{writer_of}
use Rattle.book_answers.proofs.FrontLaws.{front-part}
use Rattle.book_answers.proofs.arrangement.front_of.Goals as goal

pub returns : goal.returns
returns c =
    let row_is : c.in_ok-front.front.items ≡ row_text (writer_of c.args.form) (c.args.name ∷ [] ∷ []) =
    c.in_ok-front.ensures
    ∙ ap (λ (n : List ℕ). row_text (writer_of c.args.form) (n ∷ [] ∷ [])) c.bytes.ensures.value in
    let count : c.len.result ≡ length c.in_ok-front.front.items = search rules in
    c.truncate.ensures.items
    ∙ ap (λ (n : ℕ). take (n - 1) c.in_ok-front.front.items) count
    ∙ front-part c.args.form c.in_ok-front.front.items c.args.name row_is
