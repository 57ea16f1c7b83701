use Rattle.std.proofs.Common.{◌∙◌, Bor, List, ℕ, Some, inl, inr, arith, sym}
use Rattle.csv.specs.Records.{fields_of}
use Rattle.table_titles.proofs.RowsLeft.{left-all, none-left, taken}
use Rattle.table_titles.proofs.row.title_row_by.Goals as goal

pub rows-init : goal.rows-init
rows-init c =
    let fr = c.from_reader-reader.ensures in
    let d = c.delimiter.ensures in
    let e = c.flexible.ensures in
    let h = c.has_headers.ensures in (
      rw (d, e, h) at fr.trim ∙ c.new.ensures.trim,
      inr (inr (rw (d, e, h) at fr.has_headers, fr.headers)),
      rw (d, e, h, c.new.ensures.config) at fr.config,
      rw (d, e) at fr.flexible,
      left-all (λ (b : Bor (List ℕ)). Some b.now) c.args.title.now c.args.bytes.now
          c.args.separator c.from_reader-reader.result fr.state fr.source,
    )

pub returns-then-not-found-clause-row : goal.returns-then-not-found-clause-row
returns-then-not-found-clause-row c =
    let (trim, ready, config, flexible, left) = c.rows.invariant in
    let got = rw c.if-not-found.true at (c.in-Ok.ensures.reads trim ready) in
    none-left (λ (b : Bor (List ℕ)). Some b.now) c.args.title.now c.args.bytes.now c.args.separator
    c.rows.reader c.read_byte_record.new.self (fields_of c.read_byte_record.new.row) config left got

pub returns-then-has_title-clause-row : goal.returns-then-has_title-clause-row
returns-then-has_title-clause-row c =
    let (trim, ready, config, flexible, left) = c.rows.invariant in
    let got = rw c.if-not-found.false at (c.in-Ok.ensures.reads trim ready) in
    let row = taken (λ (b : Bor (List ℕ)). Some b.now) c.args.title.now c.args.bytes.now
    c.args.separator c.rows.reader c.read_byte_record.new.self
    (fields_of c.read_byte_record.new.row) config left got in
    row.is (sym c.has_title.ensures ∙ c.if-has_title.true)

pub returns-then-has_title-clause-few : goal.returns-then-has_title-clause-few
returns-then-has_title-clause-few c =
    let (trim, ready, config, flexible, left) = c.rows.invariant in
    let got = rw c.if-not-found.false at (c.in-Ok.ensures.reads trim ready) in
    let row = taken (λ (b : Bor (List ℕ)). Some b.now) c.args.title.now c.args.bytes.now
    c.args.separator c.rows.reader c.read_byte_record.new.self
    (fields_of c.read_byte_record.new.row) config left got in
    omega (arith, row.few, c.requires.short)

pub rows-smaller : goal.rows-smaller
rows-smaller c =
    let (trim, ready, config, flexible, left) = c.rows.invariant in
    let got = rw c.if-not-found.false at (c.in-Ok.ensures.reads trim ready) in
    let row = taken (λ (b : Bor (List ℕ)). Some b.now) c.args.title.now c.args.bytes.now
    c.args.separator c.rows.reader c.read_byte_record.new.self
    (fields_of c.read_byte_record.new.row) config left got in
    row.shorter

pub rows-preserved : goal.rows-preserved
rows-preserved c =
    let (trim, ready, config, flexible, left) = c.rows.invariant in
    let got = rw c.if-not-found.false at (c.in-Ok.ensures.reads trim ready) in
    let row = taken (λ (b : Bor (List ℕ)). Some b.now) c.args.title.now c.args.bytes.now
    c.args.separator c.rows.reader c.read_byte_record.new.self
    (fields_of c.read_byte_record.new.row) config left got in (
      got.3 ∙ trim,
      inl (c.in-Ok.ensures.ready trim),
      got.2 ∙ config,
      c.in-Ok.ensures.flexible ∙ flexible,
      row.more (sym c.has_title.ensures ∙ c.if-has_title.false),
    )
