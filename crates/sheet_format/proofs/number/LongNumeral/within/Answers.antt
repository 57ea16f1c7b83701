use Rattle.std.proofs.Common.{rules, ◌≡◌}
use Rattle.std.specs.Int.{w128}
use Rattle.std.specs.Prelude.{FitsSigned, IsUtf8}
use Rattle.std.specs.Str.Parse.{IsNumeral, signed_digits_value, without_leading_sign}
use Rattle.std.proofs.lemmas.Str.{IsUtf8-from_ascii}
use Rattle.sheet_format.proofs.CanonicalDecimals.{canonical-numeral, outside}
use Rattle.sheet_format.proofs.number.LongNumeral.within.Goals as goal

pub returns-in_err-ok-clause-outside : goal.returns-in_err-ok-clause-outside
returns-in_err-ok-clause-outside c =
    let field = c.args.self.now.field.now in
    let text : IsUtf8 field = IsUtf8-from_ascii _
    (canonical-numeral field c.args.self.now.canonical).1 in
    search rules

pub returns-in_err-number-clause-outside : goal.returns-in_err-number-clause-outside
returns-in_err-number-clause-outside c =
    let field = c.args.self.now.field.now in
    let same : c.in_ok-ok.field-0.now ≡ field = search rules in
    let refused : IsNumeral 10 (without_leading_sign field)
    × FitsSigned w128 (signed_digits_value 10 field) → ⊥ = search rules in
    let away = outside c.args.low c.args.high field c.ranges.low c.ranges.high
    c.args.self.now.canonical refused in
    search rules
