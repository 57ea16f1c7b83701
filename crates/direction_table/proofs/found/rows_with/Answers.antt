use Rattle.std.proofs.Common.{List, ℕ, ap, arith, length, length-append, ◌∷◌, []}
use Rattle.direction_table.proofs.RowsLeft.{kept-all, kept-end, kept-more}
use Rattle.direction_table.proofs.RowsRead.{strip-short}
use Rattle.direction_table.proofs.found.rows_with.Goals as goal

pub rows-init : goal.rows-init
rows-init c = (
  rw c.new-rows.ensures.items
      (kept-all c.args.separator c.of-records.result c.args.bytes.now c.of-records.ensures.separator
      c.of-records.ensures.unread),
  rw c.new-rows.ensures.items
      (omega (
        arith,
        ap (λ (xs : List ℕ). length xs) c.of-records.ensures.unread,
        strip-short c.args.bytes.now,
      )),
)

pub returns-then-not-branch-clause-rows : goal.returns-then-not-branch-clause-rows
returns-then-not-branch-clause-rows c =
    kept-end c.args.separator c.rows.rows.items _ _
    (rw c.if-not-branch.true at c.in_ok-next.ensures.next) c.rows.invariant.0

pub returns-then-not-branch-clause-few : goal.returns-then-not-branch-clause-few
returns-then-not-branch-clause-few c = omega (arith, c.rows.invariant.1)

pub rows-preserved : goal.rows-preserved
rows-preserved c =
    let shorter = c.in_ok-next.ensures.shorter c.if-not-branch.false in (
      rw c.in_ok-push.ensures.items
          (kept-more c.args.separator c.rows.rows.items _ _ _ _ _
          (rw c.if-not-branch.false at c.in_ok-next.ensures.next)
          c.in_ok-kept_record.ensures c.rows.invariant.0),
      rw (
        c.in_ok-push.ensures.items,
        length-append c.rows.rows.items
            (c.in_ok-kept_record.field-0 ∷ []),
      )
          (omega (arith, c.rows.invariant.1, shorter)),
    )
