use Rattle.std.proofs.Common.{◌≡◌, ◌++◌, take}
use Rattle.csv.specs.Records.{fields_of}
use Rattle.station_page.specs.TextRecords.{lengths_text}
use Rattle.station_page.proofs.records.push_lengths.Given as goal

abbrev pub invariant-loop-at : goal.invariant-loop-at
invariant-loop-at l = l.text.items ≡ l.fn.text.items ++ lengths_text (take l.at (fields_of l.row))
