use Rattle.std.proofs.Common.{◌∙◌, ℕ, IfSome, List, None, Option, Some, length, sym}
use Rattle.refusal_places.specs.Lines.{IsWithin}
use Rattle.refusal_places.specs.Places.{IsLineOf}
use Rattle.refusal_places.specs.declared.span.Span.{Span}
use Rattle.refusal_places.proofs.place.place_in.Goals as goal

-- A line of the file is a part of it.
line_fits : (field : List ℕ) (number : ℕ) (span : Option Span) → IsLineOf field number span
    → IfSome span (IsWithin (length field))
line_fits field number (Some span) is = is.within
line_fits field number None is = tt

pub meant_part-meant-requires : goal.meant_part-meant-requires
meant_part-meant-requires c = λ number is.
    let stands = rw is at c.found_in-found.ensures in
    line_fits c.args.field.now number c.found_in-found.result.span stands.1

pub returns-clause-place : goal.returns-clause-place
returns-clause-place c = record {
  named = sym c.named_in.ensures ∙ c.in_ok-named.was;
  stands = c.found_in-found.ensures;
  meant = c.meant_part-meant.ensures;
}
