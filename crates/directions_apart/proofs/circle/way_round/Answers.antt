use Rattle.std.proofs.Common.{arith}
use Rattle.directions_apart.proofs.ArcLaws.{onward_is, past_zero_is}
use Rattle.directions_apart.proofs.circle.way_round.Goals as goal
use Rattle.directions_apart.proofs.circle.way_round.Goals.{then-is_below, else-is_below}

pub returns : goal.returns
returns c =
    elim c.if-is_below.branch [
      | then-is_below w ↦
          past_zero_is c.args.circle.now c.args.from.now c.args.to c.subtract.new.self
          (c.is_below.ensures.0 w.if-is_below.true) (omega (arith, w.add_product.ensures))
      | else-is_below w ↦
          onward_is c.args.circle.now c.args.from.now c.args.to c.subtract.new.self
          c.requires.to (omega arith)
    ]
