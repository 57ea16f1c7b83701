use Rattle.gsi_word.proofs.NameLaws.{name_known}
use Rattle.gsi_word.proofs.laws.one_name.Goals as goal

pub returns : goal.returns
returns c = name_known
