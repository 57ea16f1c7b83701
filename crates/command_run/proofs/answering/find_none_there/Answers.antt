use Rattle.std.proofs.Common.{◌∙◌, ap, sym}
use Rattle.std.specs.Prelude.{option_map}
use Rattle.command_run.proofs.answering.find_none_there.Goals as goal

-- The path of the new file is one whose file was opened.
pub returns-in-Ok-clause-there : goal.returns-in-Ok-clause-there
returns-in-Ok-clause-there g c = (
  sym c.new_path.ensures ∙ ap (option_map (λ path. path.now)) c.in-Some.is,
  (c.in-Ok._there, c.in-Ok.ensures.opened),
)
