use Rattle.std.proofs.Common.{◌∙◌, ◌<◌, ◌++◌, ap, sym, length, rules, take}
use Rattle.std.proofs.Common.{append-nil, append_assoc}
use Rattle.std.specs.Prelude.{codes, decimal}
use Rattle.csv.specs.Records.{fields_of}
use Rattle.station_page.specs.TextRecords.{lengths_text}
use Rattle.station_page.proofs.FieldTexts.{at, lengths_first, lengths_more, lengths_none}
use Rattle.station_page.proofs.records.push_lengths.Goals as goal
use Rattle.station_page.proofs.records.push_lengths.Goals.{then-at-gt0+in_ok-push, else-at-gt0}

pub loop-at-init : goal.loop-at-init
loop-at-init c = rw lengths_none (sym (append-nil c.args.text.now.items))

pub loop-at-preserved : goal.loop-at-preserved
loop-at-preserved c =
    let fields = fields_of c.args.row.now in
    let old = c.args.text.now.items in
    let before = lengths_text (take c.loop-at.at fields) in
    let added = decimal (length (at fields c.loop-at.at)) in
    let inside : c.loop-at.at < length fields = search rules in
    elim c.if-at-gt0.branch [
      | then-at-gt0+in_ok-push w ↦ rw (
        c.in_ok-push_count.ensures.added,
        w.text-is,
        w.in_ok-push.ensures.items,
        c.loop-at.invariant,
        c.field.ensures,
        lengths_more fields c.loop-at.at inside w.if-at-gt0.true,
      )
          (ap (λ l. l ++ added) (append_assoc old before (codes ","))
          ∙ append_assoc old (before ++ codes ",") added)
      | else-at-gt0 w ↦ rw (
        c.in_ok-push_count.ensures.added,
        w.text-is,
        c.loop-at.invariant,
        c.field.ensures,
        lengths_first fields c.loop-at.at inside w.if-at-gt0.false,
      )
          (append_assoc old before added)
    ]
