use Rattle.std.proofs.Common.{◌+◌, ◌∙◌, rules, sym}
use Rattle.station_tables.proofs.PartLaws.{no_row_here, no_rows, none_held, row_here, row_later}
use Rattle.station_tables.proofs.part.line_of_row.Goals as goal
use Rattle.station_tables.proofs.part.line_of_row.Goals.{then-has_row+else-before-eq0, else-has_row}

pub returns-then-before-eq0 : goal.returns-then-before-eq0
returns-then-before-eq0 c =
    let held = rw c.if-before-eq0.true at c.lines.invariant in
    sym (row_here c.args.lines.now c.lines.place c.lines-test.true c.args.name (c.lines.place + 1)
    (search rules)) ∙ held

pub lines-preserved : goal.lines-preserved
lines-preserved c =
    let lines = c.args.lines.now in
    let place = c.lines.place in
    let inside = c.lines-test.true in
    elim c.if-has_row.branch [
      | then-has_row+else-before-eq0 w ↦
          rw w.before-is (row_later lines place inside c.args.name (place + 1) c.lines.before
          (search rules) (search rules) ∙ c.lines.invariant)
      | else-has_row w ↦
          rw w.before-is (no_row_here lines place inside c.args.name (place + 1) c.lines.before
          (search rules) ∙ c.lines.invariant)
    ]

pub returns : goal.returns
returns c =
    let none = none_held c.args.lines.now c.lines.place c.lines-test.false in
    let held = rw none at c.lines.invariant in
    sym (no_rows c.args.name (c.lines.place + 1) c.lines.before) ∙ held
