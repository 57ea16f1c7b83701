use Rattle.gsi_word.specs.BlockViews.{block_of}
use Rattle.station_book.proofs.faults.BlockFaults.{take_clean, take_taken, take_fault}
use Rattle.station_book.proofs.book.Book.take.Goals as goal

pub returns-clause-clean : goal.returns-clause-clean
returns-clause-clean c = take_clean c.args.self.now
    (block_of c.args.block.now) c.take_block.result c.take_block.ensures.clean

pub returns-clause-taken : goal.returns-clause-taken
returns-clause-taken c = take_taken c.args.self.now c.take_block.new.self
    (block_of c.args.block.now) c.take_block.result c.take_block.ensures.clean
    c.take_block.ensures.ok

pub returns-clause-fault : goal.returns-clause-fault
returns-clause-fault c = take_fault c.args.self.now
    (block_of c.args.block.now) c.take_block.result c.take_block.ensures.fault
    c.take_block.ensures.memory
