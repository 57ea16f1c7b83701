use Rattle.std.proofs.Common.{◌+◌, ◌*◌, ◌<◌, arith, length, get_or, ℕ, List, FitsSigned, ap, sym}
use Rattle.std.proofs.Common.{◌∙◌, subst}
use Rattle.std.specs.Int.{w64}
use Rattle.std.proofs.lemmas.Int.{ints, to_z-of_z}
use Rattle.std.proofs.lemmas.List.{get_or_default}
use Rattle.adjust_kernel.specs.declared.row.Row.{Row}
use Rattle.adjust_kernel.specs.Within.{IsWithin}
use Rattle.sheet_means.specs.declared.totals.TheConstants.{LARGEST_UNROLLED}
use Rattle.sheet_means.specs.Parts.{IsMeansRow}
use Rattle.sheet_means.proofs.MeansRowLaws.{row_inside, unrolled_at, unrolled_row, any_row}
use Rattle.sheet_means.proofs.ValueLaws.{place_inside}
use Rattle.sheet_means.proofs.totals.observation_at.Goals as goal

pub bounds-rows-set : goal.bounds-rows-set
bounds-rows-set c =
    let inside = row_inside c.args.station.now c.targets.ensures.valid c.requires.complete
    c.args.rows.now c.requires.rows c.args.set c.args.target c.requires.set c.requires.target in
    subst (λ (l : List (List ℕ)). c.args.set * length l + c.args.target < length c.args.rows.now)
    (sym c.targets.ensures.value) inside

-- A row of the sheet of means with its full turns, two at most.
row_bound : (r : Row) → IsMeansRow r → IsWithin LARGEST_UNROLLED (unrolled_row r)
row_bound r m =
    let v = m.row.value in
    let l = m.turn.low in
    let h = m.turn.high in
    record { low = omega (arith, ints, v, l, h); high = omega (arith, ints, v, l, h) }

pub returns-clause-bound : goal.returns-clause-bound
returns-clause-bound c =
    let row = c.index-rows-set.result in
    let inside = row_inside c.args.station.now c.targets.ensures.valid c.requires.complete
    c.args.rows.now c.requires.rows c.args.set c.args.target c.requires.set c.requires.target in
    let means_row : IsMeansRow row =
    subst IsMeansRow (sym c.index-rows-set.is)
    (c.requires.rows.each (c.args.set * length c.targets.result.now + c.args.target) row
    (subst (λ (l : List (List ℕ)). c.args.set * length l + c.args.target < length c.args.rows.now)
    (sym c.targets.ensures.value) inside)) in
    let fits : FitsSigned w64 c.unrolled.result = record { sfits = c.unrolled.type_inv } in
    subst (IsWithin LARGEST_UNROLLED) (sym (to_z-of_z w64 c.unrolled.result fits
    ∙ c.unrolled.ensures)) (row_bound row means_row)

pub returns-clause-value : goal.returns-clause-value
returns-clause-value c =
    let station = c.args.station.now in
    let valid = c.targets.ensures.valid in
    let rows = c.args.rows.now in
    let row = c.index-rows-set.result in
    let inside = place_inside station valid c.requires.complete c.args.set c.args.target
    c.requires.set c.requires.target in
    let row_in = row_inside station valid c.requires.complete rows c.requires.rows c.args.set
    c.args.target c.requires.set c.requires.target in
    let fits : FitsSigned w64 c.unrolled.result = record { sfits = c.unrolled.type_inv } in
    to_z-of_z w64 c.unrolled.result fits
    ∙ c.unrolled.ensures
    ∙ ap unrolled_row (c.index-rows-set.is
    ∙ ap (λ (l : List (List ℕ)). get_or rows (c.args.set * length l
    + c.args.target) row) c.targets.ensures.value
    ∙ get_or_default rows (c.args.set * length station.targets
    + c.args.target) row any_row row_in)
    ∙ sym (unrolled_at station valid c.requires.complete rows c.requires.rows
    (c.args.set * length station.targets + c.args.target) inside)
