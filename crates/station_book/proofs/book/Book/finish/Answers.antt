use Rattle.station_book.proofs.histories.Answers.{end_clean, end_stations, end_fault}
use Rattle.station_book.proofs.book.Book.finish.Goals as goal

pub returns-clause-clean : goal.returns-clause-clean
returns-clause-clean c = end_clean c.args.self c.finish_stations.result
    c.finish_stations.ensures.clean

pub returns-clause-stations : goal.returns-clause-stations
returns-clause-stations c = end_stations c.args.self c.finish_stations.result
    c.finish_stations.ensures.ok

pub returns-clause-fault : goal.returns-clause-fault
returns-clause-fault c = end_fault c.args.self c.finish_stations.result
    c.finish_stations.ensures.fault
