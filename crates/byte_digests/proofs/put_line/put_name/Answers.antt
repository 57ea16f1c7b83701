use Rattle.std.proofs.Common.{arith, rules}
use Rattle.std.proofs.lemmas.List.Folds.{length-flat_map-take}
use Rattle.byte_digests.specs.DigestLines.{escaped}
use Rattle.byte_digests.proofs.Resting.{next_put}
use Rattle.byte_digests.proofs.put_line.put_name.Goals as goal

pub put_byte-end-requires : goal.put_byte-end-requires
put_byte-end-requires c = omega (
  arith,
  length-flat_map-take escaped c.args.name.now c.name.byte-index 0 (search rules),
  c.requires,
  c.name.invariant.ends,
  c.name.invariant.fits,
)

pub name-preserved : goal.name-preserved
name-preserved c =
    next_put c.args.name.now c.name.byte-index _ _ _ _ _ _ (search rules) c.name.invariant
    c.put_byte-end.ensures (search rules)
