use Rattle.gsi_word.specs.BlockViews.{block_of}
use Rattle.gsi_word.proofs.LawLemmas.{no_fault_in_a_block}
use Rattle.changed_lines.proofs.NamesRead.{no_measurement}
use Rattle.changed_lines.proofs.renaming.is_measurement.Goals as goal

pub returns-in_default : goal.returns-in_default
returns-in_default c = record {
  measures = tt;
  other = no_measurement c.args.line.now (block_of c.in-Ok.block) c.role_of.result
      c.in-Ok.ensures.block c.role_of.ensures c.in_default.not-Measurement;
}

pub returns-in-Err-clause-other : goal.returns-in-Err-clause-other
returns-in-Err-clause-other c = λ m. no_fault_in_a_block c.args.line.now m.block c.in-Err.field-0
    m.is_block c.in-Err.ensures.fault
