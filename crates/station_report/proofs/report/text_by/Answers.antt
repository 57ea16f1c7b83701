use Rattle.std.proofs.Common.{arith}
use Rattle.std.proofs.lemmas.Result.{IfOk-weaker}
use Rattle.station_results.proofs.GreatestLaws.{as_many_rows}
use Rattle.station_report.proofs.report.text_by.Goals as goal

pub text_of-requires-clause-each_target : goal.text_of-requires-clause-each_target
text_of-requires-clause-each_target c = c.requires.rounded.count

pub text_of-requires-clause-each : goal.text_of-requires-clause-each
text_of-requires-clause-each c =
    as_many_rows c.args.surveyed.now.station c.args.computed.now.rows.items
    c.requires.adjusted.observed

pub text_of-requires-clause-inside : goal.text_of-requires-clause-inside
text_of-requires-clause-inside c =
    let many = as_many_rows c.args.surveyed.now.station c.args.computed.now.rows.items
    c.requires.adjusted.observed in
    let inside = c.requires.is_greatest.inside in
    omega (arith, many, inside)

pub returns : goal.returns
returns c =
    let v = c.args.computed.now in
    IfOk-weaker c.text_of.result _ _
    (λ text same. record {
      directions = v.directions.items;
      rows = v.rows.items;
      greatest = v.greatest;
      accuracy = v.accuracy;
      computed = c.requires;
      text_is = same;
    })
    c.text_of.ensures
