use Rattle.std.proofs.Common.{◌≡◌, ◌∙◌, List, ℕ, sym, subst, Ok, Some}
use Rattle.gsi_word.specs.BlockViews.{block_of}
use Rattle.station_book.specs.Readings.{read}
use Rattle.station_book.proofs.PlainReadings.{reads_no_face, reads_face, same_target}
use Rattle.station_book.proofs.plain_reading.read_plain.Goals as goal

pub returns-in_default : goal.returns-in_default
returns-in_default c = λ b is.
    reads_no_face b c.reading_angles-hz.result.0 c.reading_angles-hz.result.1
    (c.reading_angles-hz.ensures.hz b is) (c.reading_angles-hz.ensures.zenith b is)
    c.in_default.ensures

pub returns : goal.returns
returns c = λ b is.
    let hz = c.reading_angles-hz.result.0 in
    let zenith = c.reading_angles-hz.result.1 in
    subst (λ (t : List ℕ). Ok (Some (record {
      target = t;
      angles = record { hz = hz; zenith = zenith };
      face = c.in-Some.face;
    })) ≡ read b) (same_target c.args.line.now b (block_of c.reading_block.result) is
    c.reading_block.ensures ∙ sym c.target-target.ensures)
    (reads_face b hz zenith c.in-Some.face (c.reading_angles-hz.ensures.hz b is)
    (c.reading_angles-hz.ensures.zenith b is) c.in-Some.ensures)
