use Rattle.std.proofs.Common.{◌≡◌, ◌∙◌, ◌∷◌, ◌*◌, ◌++◌, ◌<◌, ◌^◌, [], FitsSigned, List, ℕ, ap, arith}
use Rattle.std.proofs.Common.{get_or, refl, rules}
use Rattle.std.proofs.lemmas.List.{get_or-map}
use Rattle.std.specs.Int.{w32}
use Rattle.std.specs.Prelude.{decimal}
use Rattle.adjust_kernel.specs.Matching.{key_of_obs}
use Rattle.csv.specs.Writing.{row_text}
use Rattle.list_rows.specs.RowTexts.{row_of}
use Rattle.row_forms.specs.Forms.{writer_of}
use Rattle.list_rows.specs.RowPieces.{cell_text, gon_text, mgon_text, numbers_text, start_text}
use Rattle.list_rows.proofs.CellLaws.{decimal-plain, gon-plain, mgon-plain, six-pieces}
use Rattle.list_rows.proofs.NumberLaws.{gon-in, mgon-in}
use Rattle.list_rows.proofs.text.push_observation.Goals as goal

pub returns : goal.returns
returns c =
    let station = c.args.station.now in
    let shared = c.args.shared.now in
    let form = shared.form in
    let o = c.args.observation in
    let faces = c.args.differences in
    let key = key_of_obs station.sets station.targets o in
    let some_start = c.index-shared-observation.result in
    let some_target = c.index-shared-observation-2.result in
    let its_target : List ℕ = get_or shared.targets.now o.target some_target in
    let start : get_or shared.starts.now o.set some_start ≡ start_text form station.name key.set =
    ap (λ (xs : List (List ℕ)). get_or xs o.set some_start) c.requires.starts
    ∙ get_or-map (start_text form station.name) station.sets o.set 0 some_start
    c.requires.set_in in
    let target : its_target ≡ cell_text form key.target =
    ap (λ (xs : List (List ℕ)). get_or xs o.target some_target) c.requires.targets
    ∙ get_or-map (cell_text form) station.targets o.target [] some_target c.requires.target_in in
    let set = c.requires.valid.sets.numbers o.set 0 c.requires.set_in in
    let value : o.value < 2 ^ 32 = search rules in
    let gon : 5_000 * o.value < 2 ^ 64 = omega (arith, value) in
    let two_c : FitsSigned w32 faces.two_c = search rules in
    let two_i : FitsSigned w32 faces.two_i = search rules in
    let row = six-pieces form station.name (decimal key.set) key.target
    (gon_text form (5_000 * o.value)) (mgon_text form faces.two_c) (mgon_text form faces.two_i)
    (decimal-plain form key.set (omega (arith, set))) (gon-plain form (5_000 * o.value) gon)
    (mgon-plain form faces.two_c two_c) (mgon-plain form faces.two_i two_i) in
    let numbers : row_text (writer_of form) (station.name ∷ decimal key.set ∷ key.target
    ∷ gon_text form (5_000 * o.value) ∷ mgon_text form faces.two_c
    ∷ mgon_text form faces.two_i ∷ [])
    ≡ row_text (writer_of form) (row_of form station.name (key, faces)) = rw (
      gon-in form (5_000 * o.value) gon,
      mgon-in form faces.two_c two_c,
      mgon-in form faces.two_i two_i,
    ) refl in
    let made = c.put_row-end.ensures.text
    ∙ ap (λ (t : List ℕ). t ++ (its_target ++ numbers_text form o.value faces)) start
    ∙ ap (λ (t : List ℕ). start_text form station.name key.set
    ++ (t ++ numbers_text form o.value faces)) target in
    c.in_ok-extend_from_slice.ensures.items
    ∙ ap (λ (t : List ℕ). c.args.text.now.items ++ t) (made ∙ row ∙ numbers)
