use Rattle.std.proofs.Common.{rules}
use Rattle.station_compare.specs.declared.how_far.HowFar.{HowFar}
use Rattle.table_answers.proofs.ComparedBy.{by_how_far}
use Rattle.table_answers.proofs.comparison.ComparisonTableAnswer.of_table.Goals as goal

pub returns-clause-tells : goal.returns-clause-tells
returns-clause-tells c =
    let asked = c.args.self.now in
    let how_far : HowFar =
    record { apart = c.apart_by-apart.result; limit = c.unwrap_or-limit.result } in (
      by_how_far asked.form c.args.surveyed.now.station c.args.limits.residual c.args.bytes.now
          asked.within how_far c.in_ok-answer.answer
          (rw c.station-station.ensures at c.in_ok-answer.ensures.compared) (record {
            held = search rules;
            compared = record {
              directions = c.in_ok-stated.stated.directions.items;
              states = search rules;
              are_apart = search rules;
            };
            limit = search rules;
          }),
      rw c.station-station.ensures at c.in_ok-note.ensures,
    )
