use Rattle.std.proofs.Common.{◌≡◌, None, rules}
use Rattle.book_answers.proofs.TableLaws.{of_lines}
use Rattle.station_tables.specs.Lines as tables
use Rattle.station_tables.specs.Strays.{first_stray}
use Rattle.book_answers.proofs.table.text_of_bytes.Goals as goal

pub returns : goal.returns
returns c =
    let lines = tables.of_lines c.deref-2.result.now in
    let is : lines ≡ tables.lines_of c.args.bytes.now = search rules in
    let none : first_stray c.args.stations.now lines ≡ None = search rules in
    let one = rw c.arrangement_of.ensures at c.text_of_stations.ensures.text in
    of_lines c.args.asked c.args.limits c.args.stations.now c.args.unchecked c.args.bytes.now lines
    is none c.text_of_stations.result one c.text_of_stations.ensures.noted
