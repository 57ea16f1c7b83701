use Rattle.std.proofs.Common.{ap, ◌++◌, drop, length, replicate}
use Rattle.adjust_kernel.proofs.NameLaws.{made}
use Rattle.adjust_kernel.proofs.name.Name.from_valid.Goals as goal

pub invariant_of-result : goal.invariant_of-result
invariant_of-result c = made c.args.bytes.now _
    (ap (λ s. s ++ drop (length c.args.bytes.now) (replicate 16 0)) c.copy_from_slice.ensures.after)
    (c.requires)
