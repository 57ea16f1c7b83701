use Rattle.std.proofs.Common.{◌≡◌, ◌++◌, ◌∷◌, [], ◌/◌, ◌^◌, rules}
use Rattle.std.specs.Fmt.{decimal}
use Rattle.direction_table.specs.Texts.{decimals_of}
use Rattle.direction_table.proofs.Begun.{of_second}
use Rattle.direction_table.proofs.FirstDecimals.{so_err}
use Rattle.direction_table.proofs.text.push_direction.Goals as goal

pub returns-clause-begun : goal.returns-clause-begun
returns-clause-begun c =
    let old = c.args.text.now.items in
    let gon = decimal (c.args.direction / 10 ^ 9) in
    let with_gon = c.extend_from_slice.new.self.items in
    let with_point = c.push.new.self.items in
    let new = c.push_decimals.new.text.items in
    let decimals = decimals_of c.args.decimals c.args.direction in
    let first : with_gon ≡ old ++ gon = search rules in
    let second : with_point ≡ with_gon ++ (46 ∷ []) = search rules in
    so_err c.push_decimals.result
    (λ rest. of_second gon (46 ∷ decimals) old with_gon new first
    (of_second (46 ∷ []) decimals with_gon with_point new second rest))
    c.push_decimals.ensures.begun
