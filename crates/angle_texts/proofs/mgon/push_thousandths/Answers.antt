use Rattle.std.proofs.Common.{◌≡◌, ◌∙◌, ◌++◌, ◌∷◌, ◌/◌, [], List, ℕ, ap, append_assoc, decimal}
use Rattle.std.proofs.Common.{rules}
use Rattle.direction_table.proofs.Begun.{first_part}
use Rattle.direction_table.proofs.FirstDecimals.{in_any_case}
use Rattle.direction_table.specs.DecimalNumbers.{point}
use Rattle.direction_table.specs.Texts.{last_digit}
use Rattle.angle_texts.proofs.mgon.push_thousandths.Goals as goal

-- What stands after the whole.
abbrev decimals : ℕ → List ℕ
decimals n = point ∷ last_digit (n / 100) ∷ last_digit (n / 10) ∷ last_digit n ∷ []

-- Memory was refused for the decimals: the whole was added.
pub returns-in_err-extend_from_slice-2-clause-begun :
    goal.returns-in_err-extend_from_slice-2-clause-begun
returns-in_err-extend_from_slice-2-clause-begun c =
    let old = c.args.text.now.items in
    let whole : c.extend_from_slice.new.self.items ≡ old ++ decimal (c.args.number / 1_000) =
    search rules in
    in_any_case c.from_residual-in_err-extend_from_slice-2.result
    (first_part (decimal (c.args.number / 1_000)) (decimals c.args.number) old
    c.extend_from_slice-2.new.self.items (c.in_err-extend_from_slice-2.ensures.items ∙ whole))

pub returns-clause-added : goal.returns-clause-added
returns-clause-added c =
    let old = c.args.text.now.items in
    let begun = c.extend_from_slice.new.self.items in
    let whole : begun ≡ old ++ decimal (c.args.number / 1_000) = search rules in
    let rest : c.extend_from_slice-2.new.self.items ≡ begun ++ decimals c.args.number =
    search rules in
    rest ∙ (ap (λ (text : List ℕ). text ++ decimals c.args.number) whole
    ∙ append_assoc old (decimal (c.args.number / 1_000)) (decimals c.args.number))
