use Rattle.std.proofs.Common.{◌≡◌, Err, [], ap, refl, rules, subst}
use Rattle.byte_ends.proofs.Coming.{came_so, anything_came}
use Rattle.byte_ends.specs.Came.{Leaves}
use Rattle.byte_ends.specs.Source.{Told, reader_change}
use Rattle.gsi_file.specs.FileAnswers.{FileAnswers, file_answers}
use Rattle.gsi_file.specs.ToCome.{ToCome}
use Rattle.gsi_file.specs.Standing.{to_come, gives, reader_of}
use Rattle.station_check.specs.declared.fault.Fault.TheVariants.{Memory}
use Rattle.station_check.specs.Answerable.{words_left}
use Rattle.station_check.specs.Printing.{Prints, PrintsSome}
use Rattle.station_check.specs.Words.{AnswersWords, WritesWords}
use Rattle.station_check.proofs.Coming.{lines_came}
use Rattle.station_check.proofs.Leaving.{left_as, not_memory}
use Rattle.station_check.proofs.words.write_words.Goals as goal

pub returns-in_err-lines : goal.returns-in_err-lines
returns-in_err-lines g c =
    let is_its : c.from_residual.result ≡ Err Memory = search rules in
    rw is_its (
      c.args.gsi,
      record {
        words = anything_came g.R.Source.told g.R.Source.failed g.R.Source.gave _
            (λ (gsi : Told).
            WritesWords (Err Memory) (g.W.Sink.holds c.args.writer.now)
            (g.W.Sink.holds c.args.writer.now) (file_answers gsi)) (λ gsi. tt);
        gsi_reader = refl;
        of_words = tt;
        fails = refl;
        flushed = tt;
        memory = refl;
      },
    )

pub returns : goal.returns
returns g c =
    let printed = rw c.new-page.ensures at c.print_blocks-answer.ensures.prints in
    let holds = g.W.Sink.holds c.args.writer.now in
    let now = g.W.Sink.holds c.print_blocks-answer.new.writer in
    let last = reader_of c.print_blocks-answer.new.lines in
    let Answered =
    λ (file : FileAnswers).
    AnswersWords c.print_blocks-answer.result
    (Prints holds [] now c.print_blocks-answer.new.page) (PrintsSome holds [] now) file in (
      last,
      record {
        words = came_so _ (λ (gsi : Told). Answered (file_answers gsi))
            (λ (gsi : Told).
            WritesWords c.end_text.result holds (g.W.Sink.holds c.end_text.new.writer)
            (file_answers gsi))
            (lines_came g.R.Source.told g.R.Source.failed g.R.Source.gave c.args.gsi _ last
            (λ (gsi : Told). to_come (gives gsi) c.in_ok-lines.lines) Answered
            c.in_ok-lines.ensures.unread c.in_ok-lines.ensures.whatever printed)
            (λ gsi a. c.end_text.ensures.writes holds (file_answers gsi) a);
        gsi_reader = subst (λ (r : _). Leaves words_left c.end_text.result
            (reader_change g.R.Source.told g.R.Source.failed g.R.Source.gave r last))
            c.in_ok-lines.ensures.unread
            (left_as _ _ _ c.end_text.ensures.same c.print_blocks-answer.ensures.left);
        of_words = c.end_text.ensures.of_words c.print_blocks-answer.ensures.of_words;
        fails = c.end_text.ensures.failed c.args.writer.now c.print_blocks-answer.ensures.failed;
        flushed = c.end_text.ensures.flushed;
        memory = not_memory _ _ c.end_text.ensures.not_memory;
      },
    )

pub print_blocks-answer-requires : goal.print_blocks-answer-requires
print_blocks-answer-requires g c = record {
  none = λ gsi. ap (λ (next : ToCome). next.number) (c.in_ok-lines.ensures.whatever gsi);
  unsettled = c.in_ok-lines.ensures.open;
}
