use Rattle.std.proofs.Common.{rules}
use Rattle.table_answers.proofs.noted.note_by.Goals as goal

pub returns : goal.returns
returns c = record {
  other = c.in_ok-other.other;
  names = c.in_ok-other.ensures;
  text_is = search rules;
}
