-- What is written of the differences of a table's bytes from a station is one text.
use Rattle.std.proofs.Common.{◌≡◌, ◌∙◌, ℕ, List, Some, ℤ, map, ap, sym, subst}
use Rattle.adjust_kernel.specs.Stations.{StationValue}
use Rattle.direction_table.specs.Tables.{IsTableText}
use Rattle.direction_table.specs.declared.form.TableForm.{TableForm}
use Rattle.station_differences.proofs.LeastLaws.{as_lines, one_lines}
use Rattle.station_differences.proofs.StatedLaws.{all_enough}
use Rattle.station_differences.specs.Differences.{AreCompared}
use Rattle.station_differences.specs.Lines.{AreLines}
use Rattle.station_differences.specs.Stating.{IsTextOfRows}
use Rattle.station_differences.specs.declared.compared.TargetDifference.{TargetDifference}
use Rattle.station_differences.specs.declared.line.TargetLine.{TargetLine}
use Rattle.station_differences.specs.declared.line.TargetLine.TheVariants.{Compared}

pub one_text : (written : List TargetLine → List ℕ) (form : TableForm)
    (station : StationValue) (bytes a b : List ℕ) → IsTextOfRows written form station bytes a
    → IsTextOfRows written form station bytes b → a ≡ b
one_text written form station bytes a b p q =
    let same = sym p.states.stated ∙ q.states.stated in
    p.text_is
    ∙ ap written (one_lines station q.stated p.lines q.lines
    (subst (λ stated. AreLines station stated p.lines) same p.are_lines) q.are_lines)
    ∙ sym q.text_is

-- What is written of the rows of a table that lacks no target is its text.
pub text_of_rows : (written : List TargetLine → List ℕ) (form : TableForm)
    (station : StationValue) (bytes text : List ℕ) (directions : List ℤ)
    (rows : List TargetDifference) → IsTableText form station.targets bytes directions
    → AreCompared station directions rows → text ≡ written (map Compared rows)
    → IsTextOfRows written form station bytes text
text_of_rows written form station bytes text directions rows states compared is = record {
  stated = map Some directions;
  states = states;
  enough = all_enough directions;
  lines = map Compared rows;
  are_lines = as_lines station directions rows compared;
  text_is = is;
}
