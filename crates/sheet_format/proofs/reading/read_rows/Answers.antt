use Rattle.std.proofs.Common.{◌∙◌, ◌+◌, ◌∷◌, Bor, List, ℕ, Some, refl, subst, inl, inr, arith}
use Rattle.std.proofs.Common.{length, ◌≡◌, ◌<◌, false}
use Rattle.csv.specs.Machine.{ends_at_end}
use Rattle.csv.specs.Reading.{default_config, records_from, source_of, strip_bom}
use Rattle.csv.specs.Records.{fields_of}
use Rattle.csv.proofs.ReadFacts.{rows-end}
use Rattle.sheet_format.specs.Rows.{records_of}
use Rattle.std.proofs.Common.{ap, [], length-append}
use Rattle.sheet_format.specs.Drafts.{rows_of_draft}
use Rattle.sheet_format.proofs.DraftRows.{row-taken}
use Rattle.sheet_format.proofs.FirstFaults.{HasRead, read-begin, read-end, read-fault, read-more}
use Rattle.sheet_format.proofs.FirstFaults.{read-whole}
use Rattle.sheet_format.proofs.RecordFacts.{records-end, records-step, row-read}
use Rattle.sheet_format.proofs.reading.read_rows.Goals as goal
use Rattle.sheet_format.proofs.reading.read_rows.Goals.{After-take_row}

pub rows-init : goal.rows-init
rows-init c =
    let fr = c.from_reader-reader.ensures in
    let e = c.flexible.ensures in
    let h = c.has_headers.ensures in
    rw (c.new-draft.ensures, fr.state) (
      rw (e, h) at fr.trim ∙ c.new.ensures.trim,
      inr (inr (rw (e, h) at fr.has_headers, fr.headers)),
      rw (e, h) at fr.config ∙ c.new.ensures.config,
      refl,
      strip_bom c.args.bytes.now,
      fr.source,
      length (strip_bom c.args.bytes.now) + 1,
      omega arith,
      read-begin (records_of c.args.bytes.now),
      rw e at fr.flexible,
    )

-- The text that is left after a row, and its rows, which with that row were left before.
record RowsLeft (c : After-take_row) : Type 0 where
  text : List ℕ
  source : source_of (λ (b : Bor (List ℕ)). Some b.now) c.read_byte_record.new.self ≡ Some text
  count : ℕ
  room : length text < count
  well : ends_at_end c.read_byte_record.new.self.state ≡ false
  read : HasRead (records_of c.args.bytes.now) c.rows.draft (fields_of c.read_byte_record.new.row
      ∷ records_from default_config count c.read_byte_record.new.self.state text)

rows_left : (c : After-take_row) → RowsLeft c
rows_left c =
    let (trim, ready, config, well, y, source, n, room, read, flexible) = c.rows.invariant in
    let got = rw c.if-not-found.false at (c.in-Ok.ensures.reads trim ready) in
    let row = fields_of c.read_byte_record.new.row in
    let (z, at_z, next) = row-read (λ (b : Bor (List ℕ)). Some b.now) c.rows.reader
    c.read_byte_record.new.self row y config source got in
    let (m, more, room2, well2) = records-step n c.rows.reader.state y
    (row, c.read_byte_record.new.self.state, z) next well room in
    let rest = records_from default_config m c.read_byte_record.new.self.state z in
    record {
      text = z;
      source = at_z;
      count = m;
      room = room2;
      well = well2;
      read = subst (HasRead (records_of c.args.bytes.now) c.rows.draft) {y = row ∷ rest} more read;
    }

pub rows-preserved : goal.rows-preserved
rows-preserved c =
    let (trim, ready, config, well, y, source, n, room, read, flexible) = c.rows.invariant in
    let got = rw c.if-not-found.false at (c.in-Ok.ensures.reads trim ready) in
    let left = rows_left (goal.at.rows-preserved c).After-take_row in
    let rest = records_from default_config left.count c.read_byte_record.new.self.state left.text in
    let after = read-more (records_of c.args.bytes.now) c.rows.draft c.take_row.new.self
    (fields_of c.read_byte_record.new.row) rest left.read c.in-Ok-take_row.ensures.faultless
    c.in-Ok-take_row.ensures.taken in (
      got.3 ∙ trim,
      inl (c.in-Ok.ensures.ready trim),
      got.2 ∙ config,
      left.well,
      left.text,
      left.source,
      left.count,
      left.room,
      after,
      c.in-Ok.ensures.flexible ∙ flexible,
    )

pub returns-in-Err-Fault-clause-fault : goal.returns-in-Err-Fault-clause-fault
returns-in-Err-Fault-clause-fault c =
    let left = rows_left (goal.at.returns-in-Err-Fault-clause-fault c).After-take_row in
    let rest = records_from default_config left.count c.read_byte_record.new.self.state left.text in
    let refused = rw c.in-Err-Fault.is at c.take_row.ensures.fault in
    let found = read-fault (records_of c.args.bytes.now) c.rows.draft
    (fields_of c.read_byte_record.new.row) rest c.in-Err-Fault.kind left.read
    (rw c.in-Err-Fault.field-0-is at refused) in
    rw (c.taken-number.ensures, c.in-Err-Fault.kind-is) (inl (c.requires, _, refl, found))

pub returns-in-None-clause-fault : goal.returns-in-None-clause-fault
returns-in-None-clause-fault c =
    let (trim, ready, config, well, y, source, n, room, read, flexible) = c.rows.invariant in
    let got = rw c.if-not-found.true at (c.in-Ok.ensures.reads trim ready) in
    let end = rows-end (λ (b : Bor (List ℕ)). Some b.now) c.rows.reader c.read_byte_record.new.self
    (fields_of c.read_byte_record.new.row) default_config y config source got in
    let here = subst (HasRead (records_of c.args.bytes.now) c.rows.draft)
    (records-end n c.rows.reader.state y end) read in
    let found = read-end (records_of c.args.bytes.now) c.rows.draft here c.in-None.ensures.none in
    rw c.taken-number.ensures (inl (c.requires, _, refl, found))

pub returns-in-Some-clause-sheet : goal.returns-in-Some-clause-sheet
returns-in-Some-clause-sheet c =
    let (trim, ready, config, well, y, source, n, room, read, flexible) = c.rows.invariant in
    let got = rw c.if-not-found.true at (c.in-Ok.ensures.reads trim ready) in
    let end = rows-end (λ (b : Bor (List ℕ)). Some b.now) c.rows.reader c.read_byte_record.new.self
    (fields_of c.read_byte_record.new.row) default_config y config source got in
    let here = subst (HasRead (records_of c.args.bytes.now) c.rows.draft)
    (records-end n c.rows.reader.state y end) read in
    read-whole c.args.bytes.now c.rows.draft c.in-Some.sheet c.requires here c.in-Some.ensures.some
    c.in-Some.ensures.valid

pub rows-smaller : goal.rows-smaller
rows-smaller c =
    let row = fields_of c.read_byte_record.new.row in
    let left = rows_left (goal.at.rows-smaller c).After-take_row in
    let rest = records_from default_config left.count c.read_byte_record.new.self.state left.text in
    let taken = row-taken c.rows.draft row left.read.draft c.in-Ok-take_row.ensures.faultless in
    rw (c.in-Ok-take_row.ensures.taken, taken.rows) (omega (
      arith,
      ap (λ (all : List (List (List ℕ))). length all) left.read.rows,
      length-append (rows_of_draft c.rows.draft) (row ∷ rest),
      length-append (rows_of_draft c.rows.draft) (row ∷ []),
    ))
