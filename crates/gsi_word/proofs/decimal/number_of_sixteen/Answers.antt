use Rattle.std.proofs.Common.{◌≡◌, Bool, Some, None, true, take, drop}
use Rattle.std.proofs.Common.{ap, sym, ◌∙◌}
use Rattle.std.specs.Prelude.{if◌then◌else◌}
use Rattle.std.specs.Char.{is_ascii_digit}
use Rattle.std.specs.List.{list_all}
use Rattle.gsi_word.specs.Angles.{decimal_number, decimal_value}
use Rattle.gsi_word.proofs.DecimalLaws.{value_in_halves}
use Rattle.gsi_word.proofs.decimal.number_of_sixteen.Goals as goal

pub returns : goal.returns
returns c =
    let bytes = c.args.bytes.now in
    let all : list_all is_ascii_digit bytes ≡ true =
    sym c.are_digits.ensures ∙ c.if-not-are_digits.false in
    let first : c.value_of_eight.result ≡ decimal_value (take 8 bytes) =
    c.value_of_eight.ensures.value ∙ ap decimal_value c.split_at.ensures.front in
    let last : c.value_of_eight-2.result ≡ decimal_value (drop 8 bytes) =
    c.value_of_eight-2.ensures.value ∙ ap decimal_value c.split_at.ensures.back in
    let number : decimal_number bytes ≡ Some (decimal_value bytes) =
    ap (λ (b : Bool). if b then Some (decimal_value bytes) else None) all in
    let halves = value_in_halves bytes c.requires in
    rw (first, last, number, halves)
