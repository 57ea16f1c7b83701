use Rattle.std.proofs.Common.{refl}
use Rattle.station_compare.proofs.agreement.agreement_line.Goals as goal

pub returns : goal.returns
returns c = rw (
  c.add-6.ensures.items,
  c.add_thousandths.ensures.items,
  c.add_how_far.ensures.items,
  c.add-5.ensures.items,
  c.add-4.ensures.items,
  c.targets_word.ensures.text,
  c.add_numbered-2.ensures.items,
  c.add-3.ensures.items,
  c.sets_word.ensures.text,
  c.add_numbered.ensures.items,
  c.add-2.ensures.items,
  c.bytes.ensures.value,
  c.add.ensures.items,
  c.new-line.ensures,
) refl
