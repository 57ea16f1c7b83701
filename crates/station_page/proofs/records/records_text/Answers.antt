use Rattle.std.proofs.Common.{Bor, List, ℕ, ◌∙◌, ◌++◌, ◌∷◌, [], sym, refl, ap, inl, inr, Some}
use Rattle.csv.specs.Reading.{Reached, strip_bom}
use Rattle.csv.specs.Records.{fields_of}
use Rattle.csv.specs.declared.parser.State.TheVariants as st
use Rattle.csv.proofs.ReadFacts.{rows-end, rows-more}
use Rattle.station_page.specs.TextRecords.{record_text, separated_by}
use Rattle.station_page.proofs.FieldTexts.{rows_more}
use Rattle.station_page.proofs.records.records_text.Goals as goal

pub loop-row-init : goal.loop-row-init
unfolding Reached
loop-row-init c =
    let fr = c.from_reader-reader.ensures in
    let d = c.delimiter.ensures in
    let e = c.flexible.ensures in
    let h = c.has_headers.ensures in
    let start = c.into_iter-row-iterator.ensures.into_iter_gives ∙ refl in
    let rdr = c.into_byte_records-row-items.ensures.rdr in
    let left = c.into_byte_records-row-items.ensures.left in
    rw (start, rdr, c.new-records.ensures.items) (
      rw (d, e, h) at fr.trim ∙ c.new.ensures.trim,
      inr (inr (rw (d, e, h) at fr.has_headers, fr.headers)),
      left,
      rw (d, e, h, c.new.ensures.config) at fr.config,
      rw (d, e) at fr.flexible,
      strip_bom c.args.text.now,
      fr.source,
      [],
      (sym fr.state, refl),
      refl,
    )

pub loop-row-preserved : goal.loop-row-preserved
loop-row-preserved c =
    let (trim, ready, left, config, flexible, rest, source, rows, reached, items) =
    c.loop-row.invariant in
    let row = fields_of c.in-Ok.row in
    let steps = c.next.ensures.steps left trim in
    let step = rw (c.in-Some.is, c.in-Ok.is) at (steps.0 ready) in
    let keeps = rw (c.in-Some.is, c.in-Ok.is) at steps.3 in
    let more = rows-more (λ (b : Bor (List ℕ)). Some b.now) c.loop-row.row-iterator.rdr
    c.next.new.self.rdr row (separated_by c.args.separator) st.StartRecord
    (strip_bom c.args.text.now) rest rows config source reached step.0 in (
      step.0.3 ∙ trim,
      inl step.1,
      step.2,
      step.0.2 ∙ config,
      keeps ∙ flexible,
      more.0,
      more.1,
      rows ++ (row ∷ []),
      more.2,
      c.in_ok-push_row-in-Ok.ensures ∙ ap (λ l. l ++ record_text row) items
          ∙ sym (rows_more rows row),
    )

pub returns : goal.returns
returns c =
    let (trim, ready, left, config, flexible, rest, source, rows, reached, items) =
    c.loop-row.invariant in
    let step = rw c.in-None.is at ((c.next.ensures.steps left trim).0 ready) in
    record {
      rows = rows;
      are_all = (
        c.loop-row.row-iterator.rdr.state,
        rest,
        reached,
        rows-end (λ (b : Bor (List ℕ)). Some b.now) c.loop-row.row-iterator.rdr
            c.next.new.self.rdr [] (separated_by c.args.separator) rest config source step,
      );
      bytes_are = items;
    }
