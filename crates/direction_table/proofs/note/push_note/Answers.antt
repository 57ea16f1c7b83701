use Rattle.std.proofs.Common.{append_assoc}
use Rattle.direction_table.proofs.note.push_note.Goals as goal

pub returns : goal.returns
returns c =
    rw (
      c.in_ok-push.ensures.items,
      c.in_ok-push_numbered-6.ensures,
      c.in_ok-push_numbered-5.ensures,
      c.in_ok-push_numbered-4.ensures,
      c.in_ok-push_numbered-3.ensures,
      c.in_ok-push_numbered-2.ensures,
      c.in_ok-push_numbered.ensures,
      c.from-names.ensures,
      c.from-directions.ensures,
      c.from.ensures,
      c.from-2.ensures,
      c.from-3.ensures,
      c.from-4.ensures,
    ) (simp append_assoc)
