use Rattle.std.proofs.Common.{◌≡◌, ◌++◌, ◌∙◌, ap, append_assoc, codes, List, ℕ}
use Rattle.station_answers.specs.Parts.{part_text}
use Rattle.table_answers.specs.ColumnRows.{columns_rows}
use Rattle.table_answers.specs.Comparisons.{verdict}
use Rattle.table_answers.specs.Wholes.{verdict_parts}
use Rattle.table_answers.proofs.whole.whole_text.Goals as goal

-- Four parts, one after the other.
in_turn : (t t′ t″ all a b c d : List ℕ) → t ≡ a → t′ ≡ t ++ b → t″ ≡ t′ ++ c → all ≡ t″ ++ d
    → all ≡ a ++ (b ++ (c ++ d))
in_turn t t′ t″ all a b c d p q r s =
    s ∙ ap (λ x. x ++ d) (r ∙ ap (λ x. x ++ c) (q ∙ ap (λ x. x ++ b) p))
    ∙ append_assoc (a ++ b) c d ∙ append_assoc a b (c ++ d)

pub returns : goal.returns
returns c =
    let columns = c.as_slice.ensures.value ∙ c.columns_rows-columns.ensures in
    in_turn c.push_verdict.new.text.items c.push_part.new.text.items
    c.push_part-2.new.text.items c.push_part-3.new.text.items
    (verdict_parts (verdict c.args.compared.now))
    (part_text (codes "columns") (columns_rows c.args.by_columns))
    (part_text (codes "differences") c.args.differences.now)
    (part_text (codes "report") c.args.report.now)
    (c.in_ok-push_verdict.ensures
    ∙ ap (λ t. t ++ verdict_parts c.verdict.result) c.new-text.ensures.items
    ∙ ap verdict_parts c.verdict.ensures)
    (c.in_ok-push_part.ensures
    ∙ ap (λ t. c.push_verdict.new.text.items ++ part_text (codes "columns") t) columns)
    c.in_ok-push_part-2.ensures c.in_ok-push_part-3.ensures
