use Rattle.std.proofs.Common.{◌≡◌, ℕ, ◌++◌, ◌-ℤ◌, rules, subst}
use Rattle.std.specs.Prelude.{unsigned_abs}
use Rattle.angle_texts.specs.MgonTexts.{sign_text, thousandths_text}
use Rattle.direction_table.specs.Beginnings.{IsBegun}
use Rattle.direction_table.proofs.Begun.{of_first, of_second}
use Rattle.direction_table.proofs.FirstDecimals.{in_any_case, so_err}
use Rattle.station_differences.proofs.text.push_from_median.Goals as goal

-- Memory was refused for the sign.
pub returns-in_err-push_sign-clause-begun : goal.returns-in_err-push_sign-clause-begun
returns-in_err-push_sign-clause-begun c =
    let old = c.args.text.now.items in
    let new = c.push_sign.new.text.items in
    let less = c.args.difference -ℤ c.args.median in
    let begun : IsBegun (sign_text less) old new = search rules in
    in_any_case c.from_residual.result
    (of_first (sign_text less) (thousandths_text (unsigned_abs less)) old new begun)

pub returns-clause-begun : goal.returns-clause-begun
returns-clause-begun c =
    let old = c.args.text.now.items in
    let signed = c.push_sign.new.text.items in
    let new = c.push_thousandths.new.text.items in
    let less = c.args.difference -ℤ c.args.median in
    let size = unsigned_abs less in
    let is_size : c.abs_diff.result ≡ size = search rules in
    let first : signed ≡ old ++ sign_text less = search rules in
    so_err c.push_thousandths.result
    (λ (rest : IsBegun (thousandths_text c.abs_diff.result) signed new).
    of_second (sign_text less) (thousandths_text size) old signed new first
    (subst (λ (n : ℕ). IsBegun (thousandths_text n) signed new) is_size rest))
    c.push_thousandths.ensures.begun
