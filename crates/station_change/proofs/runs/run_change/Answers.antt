use Rattle.std.proofs.Common.{Ok, Err, refl}
use Rattle.changed_lines.specs.declared.fault.ChangeFault.TheVariants.{Memory}
use Rattle.station_change.specs.declared.fault.PrintFault.TheVariants as fault
use Rattle.station_change.proofs.OutOfMemory.{out_of_memory}
use Rattle.station_change.proofs.runs.run_change.Goals as goal

pub returns-in-Err : goal.returns-in-Err
returns-in-Err g c = (
  c.copy_of_source.new.gsi,
  record {
    answer = Err c.in-Err.fault;
    so = record {
      answer = Err c.in-Err.fault;
      answers = c.in-Err.ensures.fault;
      printed = (refl, refl);
    };
    exits = c.refuse.ensures.status;
    reports = c.refuse.ensures.line;
  },
)

pub returns-in_default : goal.returns-in_default
returns-in_default g c = (
  c.copy_of_source.new.gsi,
  record {
    answer = Err (fault.Change Memory);
    so = record {
      answer = Err (fault.Change Memory);
      answers = out_of_memory c.args.changes.now _ c.in-Ok.copy.items c.in-Ok.ensures.copy;
      printed = (refl, refl);
    };
    exits = c.refuse-in_default.ensures.status;
    reports = c.refuse-in_default.ensures.line;
  },
)

pub returns-in-Ok-write_whole : goal.returns-in-Ok-write_whole
returns-in-Ok-write_whole g c = (
  c.copy_of_source.new.gsi,
  record {
    answer = Ok c.in-Ok.copy.items;
    so = record {
      answer = Ok c.in-Ok.copy.items;
      answers = c.in-Ok.ensures.copy;
      printed = (
        record {
          got = rw c.deref.ensures.value at c.in-Ok-write_whole.ensures.ok;
          unfailed = c.in-Ok-write_whole.ensures.failed;
        },
        c.in-Ok-write_whole.ensures.flushed,
      );
    };
    exits = c.tell.ensures.status;
    reports = rw (c.deref-in-Ok-write_whole.ensures.value, c.in-Ok-notes_text.ensures) at
        c.tell.ensures.notes;
  },
)

pub returns : goal.returns
returns g c = (
  c.copy_of_source.new.gsi,
  record {
    answer = Err fault.Write;
    so = record {
      answer = Ok c.in-Ok.copy.items;
      answers = c.in-Ok.ensures.copy;
      printed = (
        refl,
        record {
          got = rw c.deref.ensures.value at c.in-Err-write_whole.ensures.cut_short;
          call_failed = c.in-Err-write_whole.ensures.failed;
        },
      );
    };
    exits = c.refuse-in-Err-write_whole.ensures.status;
    reports = c.refuse-in-Err-write_whole.ensures.line;
  },
)
