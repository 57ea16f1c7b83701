use Rattle.std.proofs.Common.{Some, drop, flat_map}
use Rattle.byte_digests.specs.NameTexts.{shown}
use Rattle.byte_digests.proofs.Written.{Partly}
use Rattle.byte_digests.proofs.name_text.push_shown.Given as goal

abbrev pub invariant-bytes : goal.invariant-bytes
invariant-bytes l = Partly (flat_map shown l.fn.name)
    (flat_map shown (drop l.byte-index l.fn.name)) (Some l.fn.text.items) (Some l.text.items)
