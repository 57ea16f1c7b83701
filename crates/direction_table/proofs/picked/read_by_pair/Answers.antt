use Rattle.std.proofs.Common.{◌≡◌, [], ◌∷◌, ◌∙◌, ◌+◌, None, ap, arith, inl, length, map, refl}
use Rattle.std.proofs.Common.{rules, subst, sym}
use Rattle.std.proofs.lemmas.List.{length-replicate}
use Rattle.csv.specs.Records.{fields_of}
use Rattle.direction_table.specs.Faults.{column_row_fault}
use Rattle.direction_table.specs.FieldForms.{tidy}
use Rattle.direction_table.specs.FoundColumns.{rows_by_pair}
use Rattle.direction_table.specs.UsualLimits.{finer}
use Rattle.direction_table.proofs.RowsInTurn.{HasReadBy, begin, clean-all, finest-all, here, more}
use Rattle.direction_table.proofs.RowsInTurn.{stated-all}
use Rattle.direction_table.proofs.RowsPicked.{picked-all, picked-end, picked-next, picked_left}
use Rattle.direction_table.proofs.RowsRead.{none-stated, written-back}
use Rattle.direction_table.proofs.UsualLimits.{finer-small}
use Rattle.direction_table.proofs.picked.read_by_pair.Goals as goal
use Rattle.direction_table.proofs.picked.read_by_pair.Goals.{After-loop-place, In_ok-pick_begun}

pub loop-place-init : goal.loop-place-init
loop-place-init c =
    let unit = c.args.unit in
    let targets = c.args.targets.now in
    let pair = c.args.pair in
    let rows = c.args.rows.now in
    let directions = c.in_ok-directions.directions.items in
    let items = c.in_ok-directions.ensures.items_if_clones_equal (λ y clone. search rules) in
    record {
      read = subst (HasReadBy unit targets (column_row_fault unit targets)
          (rows_by_pair unit targets pair (map fields_of rows)) directions 0 0)
          (sym (picked-all c.in_ok-taken.taken unit targets pair rows c.in_ok-taken.ensures))
          (begin unit targets (column_row_fault unit targets)
          (rows_by_pair unit targets pair (map fields_of rows)) directions
          (items ∙ none-stated unit targets));
      ends = c.end_of_named-place-end.ensures;
      long = ap length items ∙ length-replicate (length targets) None;
      small = omega arith;
    }

-- The row that was picked is the next of those that are left.
next : (c : In_ok-pick_begun) → picked_left c.in_ok-taken.taken c.args.unit c.args.targets.now c.args.pair
    c.args.rows.now c.loop-place.has_begun c.loop-place.place
    ≡ tidy c.args.targets.now (fields_of c.pick_begun.new.picked)
    ∷ picked_left c.in_ok-taken.taken c.args.unit c.args.targets.now c.args.pair c.args.rows.now
    c.begins-has_begun.result (c.loop-place.place + 1)
next c = picked-next c.in_ok-taken.taken c.args.unit c.args.targets.now c.args.pair c.args.rows.now
    c.end_of_named-place-end.result c.end_of_named-place-end.ensures c.loop-place.has_begun
    c.begins-has_begun.result c.loop-place.place c.index-rows-place.result
    (fields_of c.pick_begun.new.picked) c.loop-place-test.true c.index-rows-place.is
    c.begins-has_begun.ensures c.in_ok-pick_begun.ensures

pub loop-place-preserved : goal.loop-place-preserved
loop-place-preserved c =
    let unit = c.args.unit in
    let targets = c.args.targets.now in
    let next_is = next (goal.at.loop-place-preserved c).In_ok-pick_begun in
    let read = rw next_is at c.loop-place.invariant.read in
    let was = c.deref_mut.ensures.value in
    let long = c.take_picked.auto.directions ∙ ap length was in
    let back = written-back c.loop-place.directions.items c.take_picked.new.directions
    c.loop-place.directions.len c.loop-place.directions.ok.0 long in
    let taken = more unit targets (column_row_fault unit targets) _ _ _ _ _ _ read
    c.take_picked.new.directions c.finer-finest_step.result
    (c.in-Ok.ensures.faultless read.before (was ∙ read.each))
    (c.in-Ok.ensures.taken read.before (was ∙ read.each))
    (c.finer-finest_step.ensures ∙ ap (finer c.loop-place.finest_step) c.in-Ok.ensures.step) in
    record {
      read = rw (← back) at taken;
      ends = c.end_of_named-place-end.ensures;
      long = ap length back ∙ long ∙ c.loop-place.invariant.long;
      small = rw c.finer-finest_step.ensures
          (finer-small _ _ _ c.loop-place.invariant.small c.in-Ok.ensures.small_step);
    }

pub returns-in-Err-clause-fault : goal.returns-in-Err-clause-fault
returns-in-Err-clause-fault c =
    let unit = c.args.unit in
    let targets = c.args.targets.now in
    let next_is = next (goal.at.returns-in-Err-clause-fault c).In_ok-pick_begun in
    let read = rw next_is at c.loop-place.invariant.read in
    inl record {
      place = c.loop-place.place;
      kind = c.in-Err.kind;
      is_row = refl;
      first = here unit targets (column_row_fault unit targets) _ _ _ _ _ _ read c.in-Err.kind
          (c.in-Err.ensures.fault read.before (c.deref_mut.ensures.value ∙ read.each));
    }

-- All rows were read.
all-read : (c : After-loop-place) → HasReadBy c.args.unit c.args.targets.now
    (column_row_fault c.args.unit c.args.targets.now)
    (rows_by_pair c.args.unit c.args.targets.now c.args.pair (map fields_of c.args.rows.now))
    c.loop-place.directions.items c.loop-place.finest_step c.loop-place.place []
all-read c = rw (picked-end c.in_ok-taken.taken c.args.unit c.args.targets.now c.args.pair c.args.rows.now
    c.end_of_named-place-end.result c.end_of_named-place-end.ensures c.loop-place.has_begun
    c.loop-place.place c.loop-place-test.false) at c.loop-place.invariant.read

pub returns-clause-faultless : goal.returns-clause-faultless
returns-clause-faultless c = clean-all _ _ _ _ _ _ _
    (all-read (goal.at.returns-clause-faultless c).After-loop-place)

pub returns-clause-stated : goal.returns-clause-stated
returns-clause-stated c = stated-all _ _ _ _ _ _ _
    (all-read (goal.at.returns-clause-stated c).After-loop-place)

pub returns-clause-finest : goal.returns-clause-finest
returns-clause-finest c = finest-all _ _ _ _ _ _ _
    (all-read (goal.at.returns-clause-finest c).After-loop-place)
