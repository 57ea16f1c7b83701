use Rattle.gsi_word.proofs.AngleLaws.{angle_known}
use Rattle.gsi_word.proofs.laws.one_angle.Goals as goal

pub returns : goal.returns
returns c = angle_known
