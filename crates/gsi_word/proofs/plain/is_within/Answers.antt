use Rattle.std.proofs.Common.{rules}
use Rattle.std.proofs.lemmas.Simd.{length-chunk}
use lib.Lanes.{chunk}
use Rattle.gsi_word.proofs.BoundedLoads.{none_outside}
use Rattle.gsi_word.proofs.plain.is_within.Goals as goal

pub returns : goal.returns
returns c =
    let load = chunk c.args.at 16 c.args.bytes.now in
    none_outside c.args.lowest c.args.highest load
    (length-chunk c.args.at 16 c.args.bytes.now c.requires) (search rules) (search rules)
