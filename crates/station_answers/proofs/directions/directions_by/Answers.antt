use Rattle.std.proofs.Common.{◌≡◌, ◌∙◌, ℕ, List, [], ◌∷◌, map, All, ap, rules, sym, subst}
use Rattle.std.proofs.lemmas.List.Elements.{All-cons, All-head, All-nil, All-tail}
use Rattle.direction_table.specs.TableRows.{unstated}
use Rattle.direction_table.specs.TableTexts.{directions_of, names_of, table_text}
use Rattle.direction_table.specs.Tables.{IsTableText}
use Rattle.direction_table.specs.Texts.{IsWhole}
use Rattle.direction_table.proofs.LawLemmas.{table_reads_back}
use Rattle.station_answers.specs.Directions.{numbers_of}
use Rattle.station_answers.proofs.directions.directions_by.Goals as goal
use Rattle.direction_table.specs.declared.unit.AngleUnit.TheVariants.{Gon}
use Rattle.row_forms.specs.declared.form.RowForm.{RowForm}
use Rattle.row_forms.specs.declared.form.RowForm.TheVariants.{Commas}

-- What holds of each element's part holds of each element by its part.
all_by_part : {X Y : Type 0} (P : Y → Type 0) (f : X → Y) (xs : List X) → All P (map f xs)
    → All (λ x. P (f x)) xs
all_by_part P f [] h = All-nil (λ x. P (f x))
all_by_part P f (x ∷ xs) h =
    All-cons (λ x. P (f x)) x xs (All-head P (f x) (map f xs) h)
    (all_by_part P f xs (All-tail P (f x) (map f xs) h))

pub returns : goal.returns
returns c =
    let station = c.args.station.now in
    let count = c.args.asked.decimals in
    let form = c.args.asked.form in
    let rows = c.in_ok-stated.stated.items in
    let text = c.in_ok-text.text.items in
    let text_is : text ≡ table_text form count rows = search rules in
    let named : names_of rows ≡ station.targets = search rules in
    let whole : All (IsWhole count) (numbers_of rows) = search rules in
    record {
      stated = rows;
      text_is = text_is;
      named = named;
      first = search rules;
      whole = whole;
      rounded = search rules;
      reads = λ (commas : form ≡ Commas). subst (λ (t : List ℕ).
          IsTableText (unstated Gon) station.targets t (directions_of rows))
          (sym (text_is ∙ ap (λ (f : RowForm). table_text f count rows) commas))
          (table_reads_back station.targets count rows c.targets.ensures.valid.targets named
          (search rules) (all_by_part (IsWhole count) (λ row. row.direction) rows whole));
    }
