use Rattle.std.proofs.Common.{◌≡◌, ℕ, ◌∙◌, pos, arith, ap, sym, subst, FitsSigned, w32}
use Rattle.std.proofs.Common.{to_z, of_z}
use Rattle.std.proofs.Math.IntN.{◌-ℤ◌}
use Rattle.std.proofs.lemmas.Int.{ints, to_z-of_z}
use Rattle.directions_apart.specs.Arcs.{IsWayRound}
use Rattle.station_differences.specs.Differences.{IsRoundedFromMiddle}
use Rattle.station_differences.proofs.DifferenceLaws.{between_places}
use Rattle.station_differences.proofs.difference.difference_at.Goals as goal

pub lifted_difference-lifted-requires-clause-in_arc :
    goal.lifted_difference-lifted-requires-clause-in_arc
lifted_difference-lifted-requires-clause-in_arc c =
    let first = c.requires.best.first in
    let copy : c.times.result ≡ c.index-angles-place.result = omega (arith, c.times.ensures) in
    first.here.held c.args.place c.requires.place c.way_round-way.result
    (between_places c.args.circle.now c.args.angles.now c.args.arc.now.start c.args.place
    c.index-angles-arc.result c.index-angles-place.result c.way_round-way.result first.inside
    c.requires.place c.index-angles-arc.is c.index-angles-place.is
    (subst (λ (n : ℕ). IsWayRound c.args.circle.now (pos c.index-angles-arc.result) (pos n)
    c.way_round-way.result) copy c.way_round-way.ensures))

pub returns : goal.returns
returns c =
    let first = c.requires.best.first in
    let copy : c.times.result ≡ c.index-angles-place.result = omega (arith, c.times.ensures) in
    let n = c.lifted_difference-lifted.result in
    let bound = c.lifted_difference-lifted.ensures.bound in
    let cast : to_z w32 n ≡ pos n = search (arith, bound) in
    let fits : FitsSigned w32 (to_z w32 n -ℤ pos 200_000_000) = omega (arith, ints, cast, bound) in
    let units : to_z w32 (of_z w32 (to_z w32 n -ℤ pos 200_000_000)) ≡ pos n -ℤ pos 200_000_000 =
    to_z-of_z w32 (to_z w32 n -ℤ pos 200_000_000) fits ∙ ap (λ z. z -ℤ pos 200_000_000) cast in
    record {
      way = c.way_round-way.result;
      onward = between_places c.args.circle.now c.args.angles.now c.args.arc.now.start
          c.args.place c.index-angles-arc.result c.index-angles-place.result
          c.way_round-way.result first.inside c.requires.place c.index-angles-arc.is
          c.index-angles-place.is
          (subst (λ (n : ℕ). IsWayRound c.args.circle.now (pos c.index-angles-arc.result) (pos n)
          c.way_round-way.result) copy c.way_round-way.ensures);
      rounded = subst (λ z. IsRoundedFromMiddle c.args.denominator.now c.way_round-way.result
          c.args.arc.now.spread z) (sym units) c.lifted_difference-lifted.ensures.rounded;
    }
