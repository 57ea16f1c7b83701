use Rattle.std.proofs.Common.{List, ℕ, ℤ, Bool, ◌≡◌, ◌++◌, ◌∙◌, [], ◌∷◌, ap, map, sym, take, subst}
use Rattle.std.proofs.Common.{FitsSigned}
use Rattle.std.specs.Int.{w32}
use mir.Val.{to_z, of_z}
use Rattle.std.proofs.lemmas.Int.{to_z-of_z}
use Rattle.std.proofs.lemmas.List.{take_all}
use Rattle.csv.specs.Writing.{row_text}
use Rattle.row_forms.specs.Forms.{rows_text, writer_of}
use Rattle.row_forms.specs.Writing.{HasWritten}
use Rattle.row_forms.proofs.TextRows.{entry-more}
use Rattle.station_differences.specs.DifferenceTexts.{are_short, row_of}
use Rattle.station_differences.specs.Lines.{compared_of, target_on}
use Rattle.station_differences.specs.Medians.{median_of}
use Rattle.station_differences.proofs.text.push_rows.Goals as goal

pub loop-line-preserved : goal.loop-line-preserved
loop-line-preserved g c text h =
    let form = c.args.form in
    let line = c.line-item.result in
    let lines = c.args.lines.now in
    let compared = compared_of lines in
    let short : c.are_short-short.result ≡ are_short compared =
    c.are_short-short.ensures
    ∙ ap are_short (c.deref.ensures.value ∙ c.in_ok-compared.ensures) in
    let found = c.median_of-median.result in
    let fits : FitsSigned w32 found = record { sfits = c.median_of-median.type_inv } in
    let median : to_z w32 (of_z w32 found) ≡ median_of compared =
    to_z-of_z w32 found fits ∙ c.median_of-median.ensures
    ∙ ap median_of (c.deref-2.ensures.value ∙ c.in_ok-compared.ensures) in
    let numbers = c.in_ok-numbers.numbers in
    let fields = target_on line ∷ numbers.stated.items ∷ numbers.least.items
    ∷ numbers.difference.items ∷ numbers.from_median.items ∷ [] in
    let made : fields ≡ row_of form (are_short compared) (median_of compared) line =
    sym c.in_ok-numbers.ensures
    ∙ ap (λ (b : Bool). row_of form b (to_z w32 (of_z w32 found)) line) short
    ∙ ap (λ (z : ℤ). row_of form (are_short compared) z line) median in
    let each = row_of form (are_short compared) (median_of compared) in
    let before = text ++ rows_text form (map each (take c.loop-line.line-index lines)) in
    let written = rw (
      c.bytes.ensures.value,
      c.target.ensures,
      c.as_slice.ensures.value,
      c.as_slice-in-loop-line.ensures.value,
      c.as_slice-in-loop-line-2.ensures.value,
      c.as_slice-in-loop-line-3.ensures.value,
    ) at (c.in_ok-write_row.ensures form) in
    let more = entry-more form each text lines c.loop-line.line-index line c.line-item.is
    c.loop-line-test.true in
    subst (λ (t : List ℕ). HasWritten {W = g.row.W.Denot} form g.W.Write.contents
    c.write_row.new.writer t)
    (ap (λ (r : List (List ℕ)). before ++ row_text (writer_of form) r) made ∙ more)
    (written before (c.loop-line.invariant text h))

pub returns : goal.returns
returns g c text h =
    let whole = take_all c.loop-line.line-index c.args.lines.now c.loop-line-test.false in
    rw whole at (c.loop-line.invariant text h)
