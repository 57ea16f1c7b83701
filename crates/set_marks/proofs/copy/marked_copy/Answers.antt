use Rattle.std.proofs.Common.{◌≡◌}
use Rattle.std.specs.Prelude.{IfOk, Ok, Err}
use Rattle.set_marks.specs.Copies.{woven, IsMarkedCopy}
use Rattle.set_marks.proofs.Identity.{made_is_copy}
use Rattle.set_marks.proofs.copy.marked_copy.Goals as goal

pub returns-clause-identity : goal.returns-clause-identity
returns-clause-identity c = elim c.weave.result as
    (λ r. IfOk r (λ copy. copy.items ≡ woven 0 c.args.bytes.now c.args.marks.now)
    → IfOk r (λ copy. IsMarkedCopy c.args.bytes.now copy.items)) [
      | Ok v ↦ λ e. made_is_copy c.args.bytes.now v.items c.args.marks.now
          c.requires.ordered c.requires.begin e
      | Err e ↦ λ h. tt
    ] c.weave.ensures
