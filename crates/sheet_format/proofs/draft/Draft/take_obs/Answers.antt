use Rattle.std.proofs.Common.{rules}
use Rattle.adjust_kernel.specs.Sheets.{IsRow}
use Rattle.std.proofs.lemmas.List.Elements.{All-push}
use Rattle.sheet_format.proofs.draft.Draft.take_obs.Goals as goal

pub invariant_of-self-2 : goal.invariant_of-self-2
invariant_of-self-2 c =
    let kept = c.self-2.invariant in
    record {
      header = kept.header;
      directions = kept.directions;
      orientations = kept.orientations;
      rows = rw c.in_ok-push.ensures.items
          (All-push IsRow _ _ kept.rows c.in_ok-row.ensures.valid);
      few_directions = kept.few_directions;
      few_orientations = kept.few_orientations;
      few_rows = search rules;
    }
