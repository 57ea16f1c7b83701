use Rattle.std.proofs.Common.{◌≡◌, ◌+◌, ◌*◌, ◌≤◌, ◌++◌, ◌∷◌, drop}
use Rattle.arrayvec.specs.ArrayVec.{array_vec_len}
use Rattle.station_tables.specs.Said.{doubled, quote}
use Rattle.station_tables.proofs.said.quoted.Given as goal

-- What was put, what is to come, and that there is room for it.
abbrev pub invariant-bytes : goal.invariant-bytes
invariant-bytes l = record {
  whole : l.quoted.items ++ doubled (drop l.byte-index l.byte-items)
      ≡ quote ∷ doubled l.byte-items;
  room : array_vec_len l.quoted ≤ 1 + 2 * l.byte-index;
}
