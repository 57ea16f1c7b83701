use Rattle.std.proofs.lemmas.Result.{err_from_is_err_and}
use Rattle.adjust_kernel.proofs.VerdictLaws.{accepted_verdict}
use Rattle.adjust_kernel.proofs.verdict.verdict_of.Goals as goal

pub returns-in_err-check_matches-clause-verdict : goal.returns-in_err-check_matches-clause-verdict
returns-in_err-check_matches-clause-verdict g c =
    let p = err_from_is_err_and c.from_residual.result c.from_residual.ensures.1 in
    rw (p.1, p.2) (c.in_err-check_matches.ensures.fault c.args.limit)

pub returns-in_err-greatest_residual-clause-verdict :
    goal.returns-in_err-greatest_residual-clause-verdict
returns-in_err-greatest_residual-clause-verdict g c =
    let p = err_from_is_err_and c.from_residual-in_err-greatest_residual.result
    c.from_residual-in_err-greatest_residual.ensures.1 in
    rw (p.1, p.2) (c.in_err-greatest_residual.ensures.fault c.args.limit)

pub returns-in_err-check_connection-clause-verdict :
    goal.returns-in_err-check_connection-clause-verdict
returns-in_err-check_connection-clause-verdict g c =
    let p = err_from_is_err_and c.from_residual-in_err-check_connection.result
    c.from_residual-in_err-check_connection.ensures.1 in
    rw (p.1, p.2) (c.in_err-check_connection.ensures.fault c.args.limit)

pub returns-clause-verdict : goal.returns-clause-verdict
returns-clause-verdict g c =
    accepted_verdict c.args.station.now c.args.sheet.now c.args.limit c.acceptance.result
    c.in_ok-check_matches.ensures.ok c.in_ok-greatest_residual.ensures.targets
    c.in_ok-greatest_residual.ensures.sets c.in_ok-check_connection.ensures.ok
    c.in_ok-check_limit.ensures.ok
    c.acceptance.ensures
