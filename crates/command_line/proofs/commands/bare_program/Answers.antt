use Rattle.std.proofs.Common.{◌∙◌, ap, true}
use Rattle.clap.specs.Simple.{app_of_fields, on_top}
use Rattle.clap.specs.Words.{App}
use Rattle.clap.specs.declared.builder.command.Command.{Command}
use Rattle.clap.specs.declared.builder.command.Command.TheOpen.{Command-F}
use Rattle.command_line.proofs.commands.bare_program.Goals as goal

-- A program with a version, which its commands have too.
abbrev with_version : App → App
with_version = on_top (λ s. record s { has_version = true; propagate_version = true })

pub returns : goal.returns
returns c =
    let versioned =
    ap (λ (f : Command-F Command).
    app_of_fields (record f { propagate_version = true })) c.version.ensures in
    ap app_of_fields c.after_help.ensures
    ∙ (ap app_of_fields c.long_about.ensures ∙ (ap app_of_fields c.about.ensures
    ∙ (ap app_of_fields c.propagate_version.ensures
    ∙ (versioned ∙ ap with_version c.new.ensures.app))))
