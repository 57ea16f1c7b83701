use Rattle.std.proofs.Common.{◌≡◌, ◌∙◌, ◌++◌, ◌∷◌, List, ℕ, [], Option, ap, append_assoc, rules, sym}
use Rattle.std.proofs.lemmas.List.{append-nil}
use Rattle.station_tables.proofs.PartLaws.{held, no_part, none_held, part_more}
use Rattle.station_tables.specs.Parts.{as_line}
use Rattle.station_tables.specs.Said.{said_of}
use Rattle.station_tables.proofs.part.part_of.Goals as goal
use Rattle.station_tables.proofs.part.part_of.Goals.{in-Some+in_ok-extend_from_slice+in_ok-push}
use Rattle.station_tables.proofs.part.part_of.Goals.{in_default}

pub lines-preserved : goal.lines-preserved
lines-preserved c =
    let name = c.args.name in
    let lines = c.args.lines.now in
    let place = c.lines.place in
    let added : c.match-said_of.part.items
    ≡ c.lines.part.items ++ as_line (said_of name (held lines place)) =
    elim c.match-said_of.branch [
      | in-Some+in_ok-extend_from_slice+in_ok-push w ↦
          rw w.part-is (w.in_ok-push.ensures.items
          ∙ ap (λ (t : List ℕ). t ++ (10 ∷ [])) w.in_ok-extend_from_slice.ensures.items
          ∙ append_assoc c.lines.part.items w.in-Some.said.now (10 ∷ [])
          ∙ ap (λ (said : Option (List ℕ)). c.lines.part.items ++ as_line said) w.in-Some.ensures)
      | in_default w ↦
          rw w.part-is (sym (append-nil c.lines.part.items)
          ∙ ap (λ (said : Option (List ℕ)). c.lines.part.items ++ as_line said) w.in_default.ensures)
    ] in
    part_more lines place (search rules) name c.lines.part.items c.match-said_of.part.items _ added
    c.lines.invariant

pub returns : goal.returns
returns c =
    let none = none_held c.args.lines.now c.lines.place (search rules) in
    no_part c.args.name c.lines.part.items _ (rw none at c.lines.invariant)
