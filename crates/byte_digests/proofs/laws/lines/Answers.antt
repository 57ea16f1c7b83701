use Rattle.std.proofs.Common.{rules}
use Rattle.hex.specs.Hex.{encode_with}
use Rattle.byte_digests.proofs.laws.lines.Goals as goal

pub returns-clause-escape : goal.returns-clause-escape
unfolding encode_with
returns-clause-escape c = search rules

pub returns-clause-delete : goal.returns-clause-delete
unfolding encode_with
returns-clause-delete c = search rules
