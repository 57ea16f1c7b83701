use Rattle.std.proofs.Common.{◌≡◌, ◌∙◌, ℕ, List, [], ◌∷◌, map, sym, ap, Some, Option, FitsSigned, arith}
use mir.Syntax.{w64}
use Rattle.std.specs.Prelude.{slice_set}
use Rattle.std.specs.Option.{option_map}
use Rattle.std.proofs.lemmas.Int.{ints, to_z-of_z}
use Rattle.csv.specs.Records.{fields_of}
use Rattle.direction_table.specs.FieldForms.{tidy}
use Rattle.direction_table.specs.Rows.{direction_in, two_columns_of, two_columns_view}
use Rattle.direction_table.specs.UsualLimits.{row_step}
use Rattle.direction_table.specs.declared.columns.Columns.{Columns}
use Rattle.direction_table.proofs.RowsTaken.{Taken, fault-taken, taken}
use Rattle.direction_table.proofs.TwoColumns.{row-is}
use Rattle.direction_table.proofs.draft.take_row.Goals as goal
use Rattle.direction_table.proofs.draft.take_row.Goals.{After-is_some}

-- The row that is about to be taken, after whatever rows were before it.
row_taken : (c : After-is_some) (before : List (List (List ℕ)))
    → c.args.directions.now ≡ map (direction_in c.args.unit before) c.args.targets.now
    → Taken c.args.unit c.args.targets.now before c.args.directions.now
    (tidy c.args.targets.now (fields_of c.args.row.now)) c.in_ok-entry.entry.place
    (two_columns_view c.in_ok-columns.columns)
row_taken c before same = record {
  columns = sym c.parse.ensures ∙ ap (λ (o : Option Columns). option_map two_columns_view o)
      c.in_ok-columns.ensures.ok_part;
  clean = c.in_ok-entry.ensures.faultless;
  inside = c.in_ok-entry.ensures.inside;
  name = c.in_ok-entry.ensures.name;
  stated = same;
}

pub returns-then-is_some-clause-fault : goal.returns-then-is_some-clause-fault
returns-then-is_some-clause-fault c before same = fault-taken
    (row_taken (goal.at.returns-then-is_some-clause-fault c).After-is_some before same)
    (sym c.is_some.ensures ∙ c.if-is_some.true)

pub returns-clause-faultless : goal.returns-clause-faultless
returns-clause-faultless c before same = fault-taken
    (row_taken (goal.at.returns-clause-faultless c).After-is_some before same)
    (sym c.is_some.ensures ∙ c.if-is_some.false)

pub returns-clause-step : goal.returns-clause-step
returns-clause-step c =
    let row = tidy c.args.targets.now (fields_of c.args.row.now) in
    let columns = two_columns_view c.in_ok-columns.columns in
    let two : two_columns_of row ≡ Some columns =
    sym c.parse.ensures ∙ ap (λ (o : Option Columns). option_map two_columns_view o)
    c.in_ok-columns.ensures.ok_part in
    let is : row ≡ columns.name ∷ columns.direction ∷ [] = row-is row columns two in
    let step : row_step c.args.unit (columns.name ∷ columns.direction ∷ []) ≡ c.in_ok-entry.entry.stated.step =
    rw c.in_ok-entry.ensures.form (sym c.in_ok-entry.ensures.step) in
    sym step ∙ ap (row_step c.args.unit) (sym is)

pub returns-clause-taken : goal.returns-clause-taken
returns-clause-taken c before same =
    let low = c.in_ok-entry.ensures.bound.low in
    let high = c.in_ok-entry.ensures.bound.high in
    let fits : FitsSigned w64 c.in_ok-entry.entry.stated.direction =
    omega (arith, ints, low, high) in
    ap (λ z. slice_set c.args.directions.now c.in_ok-entry.entry.place (Some z))
    (to_z-of_z w64 c.in_ok-entry.entry.stated.direction fits)
    ∙ taken (row_taken (goal.at.returns-clause-taken c).After-is_some before same)
    c.in_ok-entry.entry.stated.direction c.requires.different
    (sym c.is_some.ensures ∙ c.if-is_some.false) c.in_ok-entry.ensures.direction
