use Rattle.byte_ends.proofs.Coming.{some_left}
use Rattle.byte_ends.specs.Source.{given_then}
use Rattle.book_answers.proofs.TableLaws.{bytes_left, ended_within}
use Rattle.station_tables.specs.declared.line.TheConstants.{LONGEST_TABLES}
use Rattle.book_answers.proofs.table.text_of_input.Goals as goal

pub text_of_bytes-requires : goal.text_of_bytes-requires
text_of_bytes-requires g c =
    let q = c.in-Ok.ensures.came in
    let left = some_left (g.Q.Source.told c.read_whole.new.source) in
    rw c.deref.ensures.value
    (ended_within LONGEST_TABLES (given_then q.given left.0) c.in-Ok.bytes.items (q.so left.0 left.1))

pub returns-in-Ok-clause-reader : goal.returns-in-Ok-clause-reader
returns-in-Ok-clause-reader g c =
    bytes_left c.args.asked c.args.limits c.args.stations.now c.args.unchecked
    c.deref.result.now c.text_of_bytes.result _ c.in-Ok.ensures.left c.text_of_bytes.ensures
