use Rattle.std.proofs.Common.{◌≡◌, Some, sym}
use Rattle.clap.specs.Words.{first_value, found_of}
use Rattle.command_line.proofs.LimitLaws.{not-stated}
use Rattle.command_line.proofs.found.limit_of.Goals as goal

pub returns-clause-none : goal.returns-clause-none
returns-clause-none c =
    let given : first_value (found_of c.args.found.now) c.args.option.now
    ≡ Some c.in_ok-get_str.field-0.now = sym c.in_ok-get_str.ensures in
    not-stated (found_of c.args.found.now) c.args.option.now c.in_ok-get_str.field-0.now c.args.unit
    4_294_967_296 c.limit_stated.result given c.limit_stated.ensures.none
