use Rattle.std.proofs.Common.{◌≡◌, ◌∙◌, ap, sym, pos, arith, rules}
use Rattle.std.specs.Fmt.{signed_decimal}
use Rattle.std.proofs.lemmas.Fmt.{decimal_digit}
use Rattle.sheet_format.proofs.number_texts.turn_text.Goals as goal

pub returns-in-0 : goal.returns-in-0
returns-in-0 c =
    let none : c.args.turn ≡ pos 0 = search rules in
    sym (ap signed_decimal none ∙ decimal_digit 0 (omega arith))
