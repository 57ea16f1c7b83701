use Rattle.std.proofs.Common.{rules, ◌≤◌}
use Rattle.sheet_format.specs.Versions.{largest_denominator}
use Rattle.sheet_format.proofs.Ranges.{denominator-below}
use Rattle.sheet_format.proofs.entry.header_of.Goals as goal

pub returns-clause-valid : goal.returns-clause-valid
returns-clause-valid c =
    let version = c.in_ok-version.version in
    let denominator = c.in_ok-denominator.denominator in
    let least : 1 ≤ denominator = search rules in
    let most : denominator ≤ largest_denominator version = search rules in
    record {
      name = search rules;
      denominator = (least, denominator-below version denominator most);
    }
