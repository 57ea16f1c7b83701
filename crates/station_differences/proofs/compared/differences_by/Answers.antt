use Rattle.std.proofs.Common.{◌≡◌, ◌∙◌, Some, map, ap, sym, subst}
use Rattle.std.proofs.lemmas.Result.{IfOk-weaker}
use Rattle.exact_adjustment.specs.Adjustments.{choice_by}
use Rattle.station_differences.specs.ByAdjustment.{AreLinesBy, AreRowsBy}
use Rattle.station_differences.specs.Lines.{compared_of}
use Rattle.station_differences.specs.StatedTargets.{IsEnough}
use Rattle.station_differences.proofs.LineLaws.{rows_by}
use Rattle.station_differences.proofs.StatedLaws.{all_enough}
use Rattle.station_differences.proofs.compared.differences_by.Goals as goal

pub lines_by-requires-clause-enough : goal.lines_by-requires-clause-enough
lines_by-requires-clause-enough c =
    subst IsEnough (sym (c.deref.ensures.value ∙ c.in_ok-stated.ensures))
    (all_enough c.args.stated.now)

pub returns : goal.returns
returns c =
    let choice = choice_by c.args.adjustment.now in
    let targets = c.args.targets.now in
    let stated = c.args.stated.now in
    let lines = c.in_ok-lines.lines.items in
    let by : AreLinesBy choice targets (map Some stated) lines =
    subst (λ all. AreLinesBy choice targets all lines)
    (c.deref.ensures.value ∙ c.in_ok-stated.ensures) c.in_ok-lines.ensures in
    let are : AreRowsBy choice targets stated (compared_of lines) =
    rows_by choice targets stated lines c.denominator.ensures.valid.positive
    c.requires.each_stated by in
    IfOk-weaker c.compared_of.result (λ rows. rows.items ≡ compared_of c.deref-2.result.now)
    (λ rows. AreRowsBy choice targets stated rows.items)
    (λ rows is. subst (λ xs. AreRowsBy choice targets stated xs)
    (sym (is ∙ ap compared_of c.deref-2.ensures.value)) are) c.compared_of.ensures
