use Rattle.std.proofs.Common.{◌≡◌, ◌≤◌, ◌+◌, ◌*◌, ◌++◌}
use Rattle.arrayvec.specs.ArrayVec.{array_vec_len}
use Rattle.station_compare.specs.HintTexts.{names_before}
use Rattle.station_compare.proofs.named_stations.add_names.Given as goal

abbrev pub invariant-stations : goal.invariant-stations
invariant-stations l = record {
  items : l.line.items ≡ l.fn.line.items ++ names_before l.place l.stations;
  len : array_vec_len l.line ≤ array_vec_len l.fn.line + 18 * l.place;
}
