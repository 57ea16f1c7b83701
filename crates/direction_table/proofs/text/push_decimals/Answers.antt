use Rattle.std.proofs.Common.{◌≡◌, ◌≤◌, ◌++◌, ◌-◌, rules, arith}
use Rattle.std.proofs.Math.Nat.{one-le-pow}
use Rattle.direction_table.specs.Texts.{decimals_of}
use Rattle.direction_table.proofs.FirstDecimals.{first_decimals, in_any_case}
use Rattle.direction_table.proofs.text.push_decimals.Goals as goal

pub nonzero_div-digit : goal.nonzero_div-digit
nonzero_div-digit c = omega (
  arith,
  c.pow.ensures,
  one-le-pow (8 - c.loop-place.place) 10
      (omega arith),
)

pub returns-in_err-push-clause-begun : goal.returns-in_err-push-clause-begun
returns-in_err-push-clause-begun c =
    let old = c.args.text.now.items in
    let new = c.push.new.self.items in
    let place = c.loop-place.place in
    let stays : new ≡ old ++ decimals_of place c.args.direction = search rules in
    let inside : place ≤ c.args.decimals = search rules in
    in_any_case c.from_residual.result
    (first_decimals place c.args.decimals c.args.direction old new inside stays)
