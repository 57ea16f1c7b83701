use Rattle.std.specs.Prelude.{option_map}
use Rattle.std.proofs.Common.{rules}
use Rattle.command_run.proofs.ExplainingLaws.{explained}
use Rattle.command_run.proofs.explaining.print.Goals as goal

pub returns-in-Err : goal.returns-in-Err
returns-in-Err c c' =
    let some = explained c'.args.table.now (option_map (λ e. e.now) c'.args.fault) in
    record {
      text = some.0;
      of_fault = some.1;
      of_explain = search rules;
      written = search rules;
      flushed = search rules;
      cut_short = search rules;
      fails = search rules;
      unwritten = search rules;
    }
