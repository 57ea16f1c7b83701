use Rattle.std.proofs.Common.{◌≡◌, drop}
use Rattle.std.specs.Str.{bytes_eq}
use Rattle.csv.specs.declared.parser.State.TheVariants as st
use Rattle.refusal_places.specs.Kinds.{first_field, is_first_field}
use Rattle.refusal_places.specs.declared.row.TheConstants.{COMMA}
use Rattle.row_forms.specs.ByteSteps.{config_with, state_of}
use Rattle.refusal_places.proofs.kind.is_first_field.Given as goal

abbrev pub invariant-loop-at : goal.invariant-loop-at
invariant-loop-at l = is_first_field l.field l.row
    ≡ bytes_eq (first_field (config_with COMMA) (state_of l.place) (drop l.at l.row)) l.left
