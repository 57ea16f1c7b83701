use Rattle.station_results.specs.Greatest.{IsGreatestBefore}
use Rattle.station_results.proofs.greatest.greatest_of.Given as goal

abbrev pub invariant-loop-place : goal.invariant-loop-place
invariant-loop-place l = IsGreatestBefore l.rows l.place l.at
