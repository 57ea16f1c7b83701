use Rattle.std.proofs.Common.{◌∙◌, ap, sym, FitsSigned, arith, get_or}
use mir.Syntax.{w128}
use Rattle.std.proofs.lemmas.Int.{ints, to_z-of_z}
use Rattle.adjust_kernel.specs.declared.obs.Obs.{Obs}
use Rattle.adjust_kernel.specs.declared.row.Row.{Row}
use Rattle.adjust_kernel.specs.Residuals.{residual}
use Rattle.adjust_kernel.specs.Pairs.{turned_by, choice_stated_by}
use Rattle.adjust_kernel.proofs.ObservationLaws.{get_or-turned_by_rows}
use Rattle.adjust_kernel.proofs.residual.row_residual.Goals as goal

pub returns-clause-value : goal.returns-clause-value
returns-clause-value c = λ d.
    let none : Obs = record { set = 0; target = 0; value = 0 } in
    let fits : FitsSigned w128 c.residual_at.result = omega (arith, ints) in
    to_z-of_z w128 c.residual_at.result fits
    ∙ c.residual_at.ensures.value
    ∙ ap (λ (r : Row). residual (choice_stated_by c.args.sheet.now)
    (turned_by (get_or c.args.obs.now c.args.row none) r.turn)) (c.index-rows-row.is
    ∙ ap (λ rows. get_or rows c.args.row c.index-rows-row.result) c.rows.ensures.value)
    ∙ ap (residual (choice_stated_by c.args.sheet.now))
    (sym (get_or-turned_by_rows c.args.obs.now c.args.sheet.now.rows c.args.row none
    c.index-rows-row.result d c.requires.paired.same_length c.requires.row))
