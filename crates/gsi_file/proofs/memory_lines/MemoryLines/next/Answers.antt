use Rattle.std.proofs.Common.{Ok, None, Some}
use Rattle.gsi_file.specs.Passing.{FindsPart}
use Rattle.gsi_file.proofs.MemoryParts.{one_more, one_fewer}
use Rattle.gsi_file.proofs.memory_lines.MemoryLines.next.Goals as goal

pub invariant_of-self : goal.invariant_of-self
invariant_of-self c =
    let self = c.args.self.now in
    let found : FindsPart self.rest (Ok None) c.find_line.new.self =
    rw c.in-Ok-None.field-0-is at c.in-Ok-None.ensures in
    record { counted = found.0.counts self.count self.counted }

pub invariant_of-self-in-Err-1 : goal.invariant_of-self-in-Err-1
invariant_of-self-in-Err-1 c =
    let self = c.args.self.now in
    record { counted = c.in-Err.ensures.0.counts self.count self.counted }

pub invariant_of-self-in-Ok : goal.invariant_of-self-in-Ok
invariant_of-self-in-Ok c =
    let self = c.args.self.now in
    let part = c.in-Ok-Some.part in
    let found : FindsPart self.rest (Ok (Some part)) c.find_line.new.self =
    rw c.in-Ok-Some.field-0-is at c.in-Ok-Some.ensures in
    record {
      counted = one_more self.count self.rest c.find_line.new.self part found.0 found.1
          self.counted;
    }

pub invariant_of-self-in-Err-read_part : goal.invariant_of-self-in-Err-read_part
invariant_of-self-in-Err-read_part c =
    let self = c.args.self.now in
    let part = c.in-Ok-Some.part in
    let found : FindsPart self.rest (Ok (Some part)) c.find_line.new.self =
    rw c.in-Ok-Some.field-0-is at c.in-Ok-Some.ensures in
    record {
      counted = one_fewer self.count c.find_line.new.self
          (one_more self.count self.rest c.find_line.new.self part found.0 found.1 self.counted);
    }
