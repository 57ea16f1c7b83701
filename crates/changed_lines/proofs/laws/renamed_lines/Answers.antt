use Rattle.changed_lines.proofs.RenamedBlocks.{renamed_is_block, takes_name}
use Rattle.changed_lines.proofs.laws.renamed_lines.Goals as goal

pub returns : goal.returns
returns c = record {
  block = λ line name block is room is_name.
      renamed_is_block line name block is room is_name.printable;
  taken = λ line name block is measures room is_name.
      takes_name line name block is measures room is_name.printable;
}
