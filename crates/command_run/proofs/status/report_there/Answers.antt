use Rattle.std.proofs.Common.{◌≡◌, inl, rules}
use Rattle.command_run.specs.Unopened.{there_line}
use Rattle.command_run.proofs.status.report_there.Goals as goal

pub returns-in-Ok-clause-named : goal.returns-in-Ok-clause-named
returns-in-Ok-clause-named g c =
    let text : c.as_str.result.now ≡ there_line c.args.path.now = search rules in
    inl (c.report.ensures.status, rw (← text) c.report.ensures.line)
