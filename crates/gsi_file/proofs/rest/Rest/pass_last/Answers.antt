use Rattle.std.proofs.Common.{◌+◌, length}
use Rattle.gsi_file.proofs.MemoryParts.{answers_last, places_last, count_last, none_left}
use Rattle.gsi_file.proofs.rest.Rest.pass_last.Goals as goal

pub returns-clause-passes : goal.returns-clause-passes
returns-clause-passes c =
    let self = c.args.self.now in
    let rest = self.bytes.now in
    record {
      answers = answers_last self.place rest self.fails c.requires.ends c.requires.end
          c.requires.short c.requires.fits;
      places = places_last self.place (self.place + length rest) rest c.requires.end;
      counts = λ count few. count_last count self.place rest few;
      tested = tt;
    }

pub returns-clause-answers : goal.returns-clause-answers
returns-clause-answers c =
    let self = c.args.self.now in
    none_left (self.place + length self.bytes.now) self.fails c.requires.ends
