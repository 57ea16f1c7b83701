use Rattle.wide_number.specs.Limbs.{limb_weight, WIDE_LIMIT}
use Rattle.wide_number.proofs.LimbLaws.{no_carry}
use Rattle.wide_number.proofs.wide.Wide.add_product.Goals as goal

pub returns : goal.returns
unfolding WIDE_LIMIT
returns c = no_carry _ c.add_product.result (limb_weight 13) _
    (rw (c.self.view_is, c.by.view_is) at c.add_product.ensures.value) c.requires
