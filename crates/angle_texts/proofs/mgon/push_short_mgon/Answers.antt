use Rattle.std.proofs.Common.{rules}
use Rattle.std.specs.Prelude.{unsigned_abs}
use Rattle.direction_table.proofs.Begun.{of_first}
use Rattle.direction_table.proofs.FirstDecimals.{in_any_case}
use Rattle.angle_texts.proofs.Signed.{size_added, size_begun}
use Rattle.angle_texts.specs.MgonTexts.{hundredths_text, sign_text}
use Rattle.angle_texts.proofs.mgon.push_short_mgon.Goals as goal

-- Memory was refused for the sign.
pub returns-in_err-push_sign-clause-begun : goal.returns-in_err-push_sign-clause-begun
returns-in_err-push_sign-clause-begun c =
    in_any_case c.from_residual.result (of_first (sign_text c.args.units)
    (hundredths_text (unsigned_abs c.args.units)) c.args.text.now.items
    c.push_sign.new.text.items (search rules))

pub returns-clause-added : goal.returns-clause-added
returns-clause-added c =
    size_added hundredths_text (sign_text c.args.units) c.args.text.now.items
    c.push_sign.new.text.items c.push_hundredths.new.text.items (unsigned_abs c.args.units)
    c.unsigned_abs.result (search rules) (search rules) c.push_hundredths.result
    c.push_hundredths.ensures.added

pub returns-clause-begun : goal.returns-clause-begun
returns-clause-begun c =
    size_begun hundredths_text (sign_text c.args.units) c.args.text.now.items
    c.push_sign.new.text.items c.push_hundredths.new.text.items (unsigned_abs c.args.units)
    c.unsigned_abs.result (search rules) (search rules) c.push_hundredths.result
    c.push_hundredths.ensures.begun
