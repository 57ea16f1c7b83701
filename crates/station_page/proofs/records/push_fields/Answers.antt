use Rattle.std.proofs.Common.{◌<◌, length, rules, take, append_assoc}
use Rattle.std.specs.List.{concat}
use Rattle.csv.specs.Records.{fields_of}
use Rattle.station_page.proofs.FieldTexts.{at, fields_more}
use Rattle.station_page.proofs.records.push_fields.Goals as goal

pub loop-at-preserved : goal.loop-at-preserved
loop-at-preserved c =
    let fields = fields_of c.args.row.now in
    let inside : c.loop-at.at < length fields = search rules in
    rw (
      c.in_ok-extend_from_slice.ensures.items,
      c.loop-at.invariant,
      c.field.ensures,
      fields_more fields c.loop-at.at inside,
    )
    (append_assoc c.args.text.now.items (concat (take c.loop-at.at fields))
    (at fields c.loop-at.at))
