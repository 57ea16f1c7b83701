use Rattle.std.proofs.Common.{refl}
use Rattle.directions_apart.specs.Apart.{stated_by}
use Rattle.least_directions.proofs.LeastLaws.{are_apart}
use Rattle.station_differences.proofs.LeastLaws.{are_compared}
use Rattle.table_report.proofs.beside.beside_by.Goals as goal

pub returns-clause-rows : goal.returns-clause-rows
returns-clause-rows c =
    let its = c.args.surveyed.now in
    let valid = rw c.station-station.ensures at c.targets.ensures.valid in
    are_compared its.station c.args.adjustment.now c.args.stated.now.directions.now
    c.in_ok-rows.rows.items valid c.requires.tied c.requires.exact c.requires.limited
    (rw (c.targets.ensures.value, c.station-station.ensures) at c.in_ok-rows.ensures)

pub returns-clause-apart : goal.returns-clause-apart
returns-clause-apart c =
    let its = c.args.surveyed.now in
    let stated = c.args.stated.now in
    let valid = rw c.station-station.ensures at c.targets.ensures.valid in
    are_apart its.station valid c.args.adjustment.now c.requires.tied c.requires.exact
    c.requires.limited (stated_by stated.directions.now) stated.off c.apart_of.result
    (rw c.requires.each at c.apart_of.ensures.apart)

pub returns-clause-report : goal.returns-clause-report
returns-clause-report c =
    let its = c.args.surveyed.now in
    let a = c.args.adjustment.now in
    let stated = c.args.stated.now in
    let exact = c.requires.exact in
    let limited = c.requires.limited in
    let tied = c.requires.tied in
    let rows = c.in_ok-rows.rows.items in
    let valid = rw c.station-station.ensures at c.targets.ensures.valid in
    record {
      section = c.in_ok-section.section.items;
      is_section = record {
        rows = rows;
        compared = are_compared its.station a stated.directions.now rows valid tied exact limited
            (rw (c.targets.ensures.value, c.station-station.ensures) at c.in_ok-rows.ensures);
        how_far = record { apart = c.apart_of.result; limit = stated.limit };
        are_apart = are_apart its.station valid a tied exact limited
            (stated_by stated.directions.now) stated.off c.apart_of.result
            (rw c.requires.each at c.apart_of.ensures.apart);
        held_to = refl;
        section_is = rw (c.language-language.ensures, c.station-station.ensures, c.deref.ensures.value) at
            c.in_ok-section.ensures;
        beyond_is = refl;
      };
      is_report = rw c.deref-2.ensures.value at c.in_ok-report.ensures;
    }
