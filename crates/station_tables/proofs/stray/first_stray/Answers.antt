use Rattle.std.proofs.Common.{◌+◌, ◌∙◌, rules, sym}
use Rattle.station_tables.proofs.PartLaws.{no_strays, none_held, stray_here, stray_later}
use Rattle.station_tables.proofs.stray.first_stray.Goals as goal

pub returns-then-is_stray : goal.returns-then-is_stray
returns-then-is_stray c =
    sym (stray_here c.args.lines.now c.lines.place c.lines-test.true c.args.stations.now
    (c.lines.place + 1) (search rules)) ∙ c.lines.invariant

pub lines-preserved : goal.lines-preserved
lines-preserved c =
    stray_later c.args.lines.now c.lines.place c.lines-test.true c.args.stations.now
    (c.lines.place + 1) (search rules) ∙ c.lines.invariant

pub returns : goal.returns
returns c =
    let none = none_held c.args.lines.now c.lines.place c.lines-test.false in
    let held = rw none at c.lines.invariant in
    sym (no_strays c.args.stations.now (c.lines.place + 1)) ∙ held
