use Rattle.std.proofs.Common.{◌∙◌, List, ℕ, None, refl, rules, ap, arith, inl, length}
use Rattle.std.proofs.Common.{subst, sym}
use Rattle.std.proofs.lemmas.List.{length-replicate}
use Rattle.direction_table.specs.Separators.{rows_of}
use Rattle.direction_table.proofs.RowsRead.{HasRead, all-left, none-stated, read-begin, read-clean}
use Rattle.direction_table.proofs.RowsRead.{read-fault, read-more, read-titles, strip-short}
use Rattle.direction_table.proofs.RowsRead.{written-back}
use Rattle.direction_table.proofs.UsualLimits.{finer-small}
use Rattle.direction_table.proofs.reading.read_rows.Goals as goal

pub rows-init : goal.rows-init
rows-init c =
    let targets = c.args.targets.now in
    let bytes = c.args.bytes.now in
    let directions = c.in_ok-directions.directions.items in
    let items = c.in_ok-directions.ensures.items_if_clones_equal (λ y clone. search rules) in
    let of = c.of-records.ensures in (
      subst (HasRead c.args.unit targets (rows_of targets bytes) directions 0 0)
          (all-left c.in_ok-separator.separator targets c.of-records.result bytes
          c.in_ok-separator.ensures of.separator of.unread)
          (read-begin c.args.unit targets (rows_of targets bytes) directions
          (items ∙ none-stated c.args.unit targets)),
      omega (arith, ap (λ (xs : List ℕ). length xs) of.unread, strip-short bytes),
      ap length items ∙ length-replicate (length targets) None,
      omega arith,
    )

pub returns-then-not-found-clause-faultless : goal.returns-then-not-found-clause-faultless
returns-then-not-found-clause-faultless c =
    let none = rw c.if-not-found.true at c.in_ok-found.ensures.next in
    read-clean _ _ _ _ _ _ (rw none at c.rows.invariant.0)

pub rows-preserved-then-begins_with_titles : goal.rows-preserved-then-begins_with_titles
rows-preserved-then-begins_with_titles c =
    let next = rw c.if-not-found.false at c.in_ok-found.ensures.next in
    let here = rw (← c.in_ok-row.ensures) at (rw next at c.rows.invariant.0) in
    let shorter = c.in_ok-found.ensures.shorter c.if-not-found.false in (
      read-titles _ _ _ _ _ _ _ _ here
          (sym c.begins_with_titles.ensures ∙ c.if-begins_with_titles.true),
      omega (arith, c.rows.invariant.1, shorter),
      c.rows.invariant.2,
      c.rows.invariant.3,
    )

pub rows-preserved : goal.rows-preserved
rows-preserved c =
    let next = rw c.if-not-found.false at c.in_ok-found.ensures.next in
    let here = rw (← c.in_ok-row.ensures) at (rw next at c.rows.invariant.0) in
    let shorter = c.in_ok-found.ensures.shorter c.if-not-found.false in
    let was = c.deref_mut.ensures.value in
    let long = c.take_row.auto.directions ∙ ap length was in
    let back = written-back c.rows.directions.items c.take_row.new.directions c.rows.directions.len
    c.rows.directions.ok.0 long in
    let taken = read-more _ _ _ _ _ _ _ _ here c.take_row.new.directions
    c.finer-finest_step.result c.in-Ok.step
    (sym c.begins_with_titles.ensures ∙ c.if-begins_with_titles.false)
    (λ before stated. c.in-Ok.ensures.faultless before (was ∙ stated))
    (λ before stated. c.in-Ok.ensures.taken before (was ∙ stated))
    c.in-Ok.ensures.step c.finer-finest_step.ensures in (
      rw (← back) at taken,
      omega (arith, c.rows.invariant.1, shorter),
      ap length back ∙ long ∙ c.rows.invariant.2,
      rw c.finer-finest_step.ensures (finer-small _ _ _ c.rows.invariant.3 c.in-Ok.ensures.small_step),
    )

pub returns-in-Err-clause-fault : goal.returns-in-Err-clause-fault
returns-in-Err-clause-fault c =
    let next = rw c.if-not-found.false at c.in_ok-found.ensures.next in
    let here = rw (← c.in_ok-row.ensures) at (rw next at c.rows.invariant.0) in
    inl record {
      place = c.rows.number;
      kind = c.in-Err.kind;
      is_row = refl;
      first = read-fault _ _ _ _ _ _ _ _ here c.in-Err.kind
          (sym c.begins_with_titles.ensures ∙ c.if-begins_with_titles.false)
          (λ before stated. c.in-Err.ensures.fault before (c.deref_mut.ensures.value ∙ stated));
    }
