use Rattle.std.proofs.Common.{rules, ◌≤◌, ◌^◌, ◌-◌, length, arith}
use Rattle.station_explain.proofs.ExplainingLaws.{filled_by_format}
use Rattle.station_explain.proofs.explain.add_line.Goals as goal

pub returns : goal.returns
returns c =
    let short : length c.args.name.now ≤ 2 ^ 64 - 1 = omega arith in
    let name_is = filled_by_format c.args.name.now short in
    search (rules, name_is)
