use Rattle.std.proofs.Common.{◌≡◌, drop, map, take}
use Rattle.row_forms.specs.Forms.{with_comma}
use Rattle.row_forms.proofs.number.set_point.Given as goal

abbrev pub invariant-loop-byte : goal.invariant-loop-byte
invariant-loop-byte l =
    (take l.byte-index l.byte-items ≡ map with_comma (take l.byte-index l.fn.number.items))
    × (drop l.byte-index l.byte-items ≡ drop l.byte-index l.fn.number.items)
