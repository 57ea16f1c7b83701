use Rattle.wide_number.specs.Limbs.{limb_weight}
use Rattle.wide_number.proofs.LimbLaws.{no_borrow}
use Rattle.wide_number.proofs.wide.Wide.subtract.Goals as goal

pub returns : goal.returns
returns c = no_borrow _ _ _ c.subtract.result (limb_weight 13)
    (rw (c.self.view_is, c.by.view_is) at c.subtract.ensures.value) c.subtract.ensures.below
    c.requires
