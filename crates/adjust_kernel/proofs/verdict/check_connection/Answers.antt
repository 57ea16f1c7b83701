use Rattle.std.proofs.Common.{length}
use Rattle.adjust_kernel.specs.Connected.{IsDivided}
use Rattle.adjust_kernel.specs.Verdict.{observations}
use Rattle.adjust_kernel.proofs.VerdictLaws.{connection_fault}
use Rattle.adjust_kernel.proofs.verdict.check_connection.Goals as goal

pub returns-clause-fault : goal.returns-clause-fault
returns-clause-fault c =
    let station = c.args.station.now in
    let sheet = c.args.sheet.now in
    let divided : IsDivided (length station.sets) (length station.targets)
    (observations station sheet) =
    rw (← c.sets.ensures.value, ← c.targets.ensures.value, ← c.obs.ensures.value)
    (c.if-is_connected.ensures.divided sheet.rows) in
    connection_fault station sheet c.requires.matches c.requires.targets c.requires.sets divided
