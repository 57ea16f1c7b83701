use Rattle.std.proofs.Common.{◌∙◌, ◌+◌, ℕ, List, arith, ap, not, sym, length, map}
use Rattle.std.specs.List.{suffix_len}
use Rattle.std.proofs.lemmas.List.{length-map, take_all}
use Rattle.csv.specs.Records.{fields_of}
use Rattle.direction_table.specs.Cells.{names_in}
use Rattle.direction_table.proofs.LastRows.{last-other, last-so}
use Rattle.direction_table.proofs.picked.end_of_named.Goals as goal

pub loop-end-init : goal.loop-end-init
loop-end-init c =
    let rows = c.args.rows.now in
    let long = length-map rows fields_of in
    let all = take_all (length rows) (map fields_of rows) (omega (arith, long)) in (
      omega arith,
      ap (λ (xs : List (List (List ℕ))). length rows
          + suffix_len (λ row. not (names_in c.args.targets.now c.args.names row)) xs) (sym all),
    )

pub returns-then-names_in : goal.returns-then-names_in
returns-then-names_in c =
    let none = last-other (λ row. not (names_in c.args.targets.now c.args.names row))
    c.args.rows.now c.index-rows-end.result c.loop-end.end (omega arith)
    (omega (arith, c.loop-end.invariant.0)) c.index-rows-end.is
    (ap not (sym c.names_in.ensures ∙ c.if-names_in.true)) in
    omega (arith, none, c.loop-end.invariant.1)

pub loop-end-preserved : goal.loop-end-preserved
loop-end-preserved c =
    let one = last-so (λ row. not (names_in c.args.targets.now c.args.names row))
    c.args.rows.now c.index-rows-end.result c.loop-end.end (omega arith)
    (omega (arith, c.loop-end.invariant.0)) c.index-rows-end.is
    (ap not (sym c.names_in.ensures ∙ c.if-names_in.false)) in
    (omega (arith, c.loop-end.invariant.0), omega (arith, one, c.loop-end.invariant.1))
