-- Lines that are readings as most are written.
use Rattle.std.proofs.Common.{◌≡◌, ◌∙◌, ◌+◌, true, false, List, ℕ, take, drop, refl, ap, All, Some}
use Rattle.std.proofs.Common.{arith}
use Rattle.std.specs.Prelude.{slice_get, ◌==◌, Option, Result}
use Rattle.std.proofs.lemmas.Bool.{eq-eqb, ne_eqb}
use Rattle.std.proofs.lemmas.List.Elements.{All-weaker}
use Rattle.std.proofs.lemmas.List.Folds.{list_any_none}
use Rattle.gsi_word.specs.Words.{GsiWord}
use Rattle.gsi_word.specs.Blocks.{GsiBlock, IsBlock}
use Rattle.gsi_word.specs.Layout.{word_of}
use Rattle.gsi_word.specs.PlainLines.{is_plain_reading}
use Rattle.gsi_word.proofs.PlainLines.{reading_line, reading_begins, reading_goes_on}
use Rattle.gsi_word.proofs.PlainWords.{IsLater}
use Rattle.station_book.specs.Blocks.{role_of, word_role}
use Rattle.station_book.specs.Readings.{read}
use Rattle.station_book.specs.declared.role.Role.TheVariants.{Measurement}
use Rattle.station_book.specs.declared.angles.Reading.{Reading}
use Rattle.station_book.specs.declared.fault.BookKind.{BookKind}
use Rattle.set_marks.specs.Stations.{begins_line, is_two_lines}
use Rattle.set_marks.specs.Taking.{IsKnown}

no_beginning : (w : GsiWord) → IsLater w → begins_line w ≡ false
no_beginning w later =
    let low = later.0 in
    let point : (w.index == 11) ≡ false = ne_eqb w.index 11 (λ e. absurd (omega (arith, low, e))) in
    let code : (w.index == 41) ≡ false = ne_eqb w.index 41 later.1 in
    rw (point, code) refl

-- A block is one line where no word after the first is one that a line begins with.
pub is_one_line : (b : GsiBlock) → All IsLater (drop 1 b.words) → is_two_lines b ≡ false
unfolding is_two_lines
is_one_line b later = list_any_none begins_line (drop 1 b.words)
    (All-weaker IsLater (λ w. begins_line w ≡ false) no_beginning (drop 1 b.words) later)

-- What is known of such a line.
pub is_known : (line : List ℕ) (b : GsiBlock) (said : Result (Option Reading) BookKind)
    → is_plain_reading line ≡ true → IsBlock line b
    → ((c : GsiBlock) → IsBlock line c → said ≡ read c)
    → IsKnown (Some said) b
unfolding role_of
is_known line b said e is says =
    let p = reading_line line e in
    let first = word_of (take (7 + p.width) p.bytes) in (
      is_one_line b (reading_goes_on p.width p.n line p.bytes p.d p.z b p.reading is),
      (
        measures first (reading_begins p.width p.n line p.bytes p.d p.z b p.reading is)
            p.reading.block.point,
        says b is,
      ),
    )
  where
    measures : (w : GsiWord) → slice_get b.words 0 ≡ Some w → w.index ≡ 11
        → role_of b ≡ Measurement
    measures w first point = ap (λ (v : Option GsiWord). word_role v) first
        ∙ rw (eq-eqb w.index 11 point) refl
