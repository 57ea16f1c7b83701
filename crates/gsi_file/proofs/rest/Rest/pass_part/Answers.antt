use Rattle.std.proofs.Common.{length, arith}
use Rattle.gsi_file.proofs.MemoryParts.{answers_passed, places_passed, count_passed}
use Rattle.gsi_file.proofs.rest.Rest.pass_part.Goals as goal

pub returns-clause-passes : goal.returns-clause-passes
returns-clause-passes c =
    let self = c.args.self.now in
    let rest = self.bytes.now in
    let n = c.args.end.place in
    let used = c.next_line_start-next.result in
    let next = c.after-self.result.now in
    let first = c.requires.end.0 in
    let most = c.min-most.ensures in
    let within = c.next_line_start-next.ensures.within in
    let up = c.next_line_start-next.ensures.next in
    record {
      answers = answers_passed self.place n used rest next self.fails c.after-self.ensures first
          c.requires.short c.requires.fits up (omega (arith, most, within))
          (omega (arith, most, within));
      places = places_passed self.place n used rest next c.after-self.ensures first up
          (omega (arith, most, within));
      counts = λ count few. count_passed count self.place n used (length next) rest first.inside
          within.0 few;
      tested = c.requires.end.1;
    }
