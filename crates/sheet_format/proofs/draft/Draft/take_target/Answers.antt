use Rattle.std.proofs.Common.{rules}
use Rattle.adjust_kernel.specs.Sheets.{IsDirection}
use Rattle.std.proofs.lemmas.List.Elements.{All-push}
use Rattle.sheet_format.proofs.draft.Draft.take_target.Goals as goal

pub invariant_of-self-2 : goal.invariant_of-self-2
invariant_of-self-2 c =
    let kept = c.self.invariant in
    record {
      header = kept.header;
      directions = rw c.in_ok-push.ensures.items
          (All-push IsDirection _ _ kept.directions c.in_ok-direction.ensures.valid);
      orientations = kept.orientations;
      rows = kept.rows;
      few_directions = search rules;
      few_orientations = kept.few_orientations;
      few_rows = kept.few_rows;
    }
