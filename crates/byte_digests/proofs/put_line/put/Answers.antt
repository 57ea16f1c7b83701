use Rattle.std.proofs.Common.{rules}
use Rattle.std.proofs.lemmas.Slice.{overwrites}
use Rattle.byte_digests.proofs.put_line.put.Goals as goal

pub returns : goal.returns
returns c = record {
  ends = search rules;
  fits = search rules;
  stands = search (rules, overwrites);
  rest = search (rules, overwrites);
}
