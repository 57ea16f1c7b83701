-- The station of a name, in the words of the lines, is the one that the file has.
use Rattle.std.proofs.Common.{◌≡◌, ℕ, List, [], ◌∷◌, None, Ok, ap, sym, subst, inr}
use Rattle.std.specs.Prelude.{reverse}
use mathlib.Core.List.{reverse_aux}
use Rattle.std.specs.List.{AllZip}
use Rattle.std.proofs.lemmas.List.{reverse-reverse}
use Rattle.gsi_file.specs.FileAnswers.{FileAnswers}
use Rattle.gsi_word.specs.Blocks.{GsiBlock, IsBlock}
use Rattle.station_book.specs.Faults.{fault_at_end, IsWithoutFault}
use Rattle.station_book.specs.Limits.{FaceLimits}
use Rattle.station_book.specs.Places.{History}
use Rattle.station_book.specs.Stations.{SurveyedStation}
use Rattle.station_check.specs.Means.{HasStation}
use Rattle.station_check.specs.Outcomes.{ComesTo, at_end}
use Rattle.station_check.specs.StationOfFile.{IsStationOfFile}
use Rattle.station_book.proofs.LawLemmas.{its_station}
use Rattle.station_check.proofs.FirstFaultLaws.{clean_before}

-- Lines that are blocks without a fault come to these.
comes_to_blocks : (limits : FaceLimits) (past : History) (lines : List (List ℕ))
    (more : List GsiBlock) → AllZip IsBlock lines more
    → IsWithoutFault limits (reverse_aux more past)
    → fault_at_end (reverse_aux more past) ≡ None
    → ComesTo limits past lines None (Ok (reverse_aux more past))
comes_to_blocks limits past [] [] each clean closed = ap (at_end past) (sym closed)
comes_to_blocks limits past [] (b ∷ more) each clean closed = absurd each
comes_to_blocks limits past (line ∷ lines) [] each clean closed = absurd each
comes_to_blocks limits past (line ∷ lines) (b ∷ more) each clean closed =
    inr (inr (record {
      block = b;
      is_block = each.0;
      clean =
          (clean_before limits (b ∷ past) more clean).0;
      after =
          comes_to_blocks limits (b ∷ past) lines more each.1 clean closed;
    }))

-- A station of the lines of a file is one that the name finds.
pub has_station : (limits : FaceLimits) (file : FileAnswers) (name : List ℕ) (its : SurveyedStation)
    → IsStationOfFile limits file name its → HasStation limits file name its
has_station limits file name its s =
    let back : reverse_aux (reverse s.blocks) [] ≡ s.blocks = reverse-reverse s.blocks in
    let comes : ComesTo limits [] file.lines None (Ok (reverse_aux (reverse s.blocks) [])) =
    comes_to_blocks limits [] file.lines (reverse s.blocks) s.lines
    (subst (λ (bs : History). IsWithoutFault limits bs) (sym back) s.faultless)
    (subst (λ (bs : History). fault_at_end bs ≡ None) (sym back) s.closed) in
    record {
      stations = s.stations;
      survey = record {
        blocks = s.blocks;
        file = subst (λ last. ComesTo limits [] file.lines last (Ok s.blocks)) (sym s.ended)
            (subst (λ (bs : History). ComesTo limits [] file.lines None (Ok bs)) back comes);
        stations_are = s.surveyed;
      };
      named = (its_station limits s.blocks s.stations name its s.faultless s.surveyed).1
          (s.listed, s.named);
    }
