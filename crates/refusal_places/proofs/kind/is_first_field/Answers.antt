use Rattle.std.proofs.Common.{rules, ◌≡◌, ◌∙◌, ◌+◌, ◌<◌, ◌≤◌, List, ℕ, ◌∷◌, ap, drop, get_or, length, refl, true}
use Rattle.std.specs.Prelude.{◌==◌}
use Rattle.std.specs.Str.{bytes_eq}
use Rattle.csv.specs.Machine.{step}
use Rattle.csv.specs.declared.parser.Action.TheVariants as act
use Rattle.refusal_places.specs.declared.row.TheConstants.{COMMA}
use Rattle.row_forms.specs.ByteSteps.{config_with, state_of}
use Rattle.refusal_places.proofs.FirstFields.{byte_by_byte, kept}
use Rattle.refusal_places.proofs.kind.is_first_field.Goals as goal
use Rattle.refusal_places.proofs.kind.is_first_field.Goals.{in-Skip, in-Keep+in-len1-up}

pub loop-at-preserved : goal.loop-at-preserved
loop-at-preserved c = elim c.match-step_at.branch [
  | in-Skip w ↦ rw (w.left-is, w.place-is) (search (rules, byte_by_byte))
  | in-Keep+in-len1-up w ↦
      let said : step (config_with COMMA) (state_of c.loop-at.place)
      (get_or c.args.row.now c.loop-at.at 0) ≡ (state_of w.in-Keep.next, act.Copy) =
      rw w.in-Keep.is at c.step_at.ensures in
      rw (w.left-is, w.place-is) (c.loop-at.invariant ∙ kept COMMA (state_of c.loop-at.place)
      (state_of w.in-Keep.next) c.args.row.now c.loop-at.left.now c.loop-at.at (search rules) said
      (search rules) (search rules))
]
