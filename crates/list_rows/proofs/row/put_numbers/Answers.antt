use Rattle.std.proofs.Common.{◌*◌, ◌∙◌, ◌++◌, ◌∷◌, [], ℕ, ℤ, List, ap, rules, take, w32}
use Rattle.std.proofs.lemmas.Int.{to_z-of_z}
use Rattle.csv.specs.Machine.{line_feed}
use Rattle.adjust_kernel.specs.declared.units.TheConstants.{HALF_UNIT}
use Rattle.list_rows.specs.RowPieces.{gon_text, mgon_text}
use Rattle.row_forms.specs.Forms.{separator}
use Rattle.list_rows.proofs.RowLaws.{joined}
use Rattle.list_rows.proofs.row.put_numbers.Goals as goal

pub returns-clause-text : goal.returns-clause-text
returns-clause-text c =
    let form = c.args.form in
    let before : List ℕ = take c.args.at c.args.room.now in
    let gon : List ℕ = take c.put_gon-gon_end.result c.put_gon-gon_end.new.room in
    let first : List ℕ = take c.put-two_c_at.result c.put-two_c_at.new.room in
    let two_c : List ℕ = take c.put_mgon-two_c_end.result c.put_mgon-two_c_end.new.room in
    let second : List ℕ = take c.put-two_i_at.result c.put-two_i_at.new.room in
    let two_i : List ℕ = take c.put_mgon-two_i_end.result c.put_mgon-two_i_end.new.room in
    let all : List ℕ = take c.put.result c.put.new.room in
    let first_put = rw c.separator.ensures at c.put-two_c_at.ensures.text in
    let second_put = rw c.separator.ensures at c.put-two_i_at.ensures.text in
    -- A face difference that is passed is the same number.
    let is_two_c = to_z-of_z w32 c.args.faces.two_c (search rules) in
    let is_two_i = to_z-of_z w32 c.args.faces.two_i (search rules) in
    joined before gon all (gon_text form (HALF_UNIT * c.args.value)) _
    c.put_gon-gon_end.ensures.text
    (joined gon first all (separator form ∷ []) _ first_put
    (joined first two_c all (mgon_text form c.args.faces.two_c) _
    (c.put_mgon-two_c_end.ensures.text ∙ ap (λ (z : ℤ). first ++ mgon_text form z) is_two_c)
    (joined two_c second all (separator form ∷ []) _ second_put
    (joined second two_i all (mgon_text form c.args.faces.two_i) (line_feed ∷ [])
    (c.put_mgon-two_i_end.ensures.text ∙ ap (λ (z : ℤ). second ++ mgon_text form z) is_two_i)
    c.put.ensures.text))))
