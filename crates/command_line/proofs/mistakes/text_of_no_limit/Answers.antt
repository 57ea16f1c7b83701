use Rattle.std.proofs.Common.{arith, rules}
use Rattle.clap.specs.Words.{found_of}
use Rattle.command_line.specs.LimitOptions.{option_largest, option_name, option_unit}
use Rattle.command_line.proofs.LimitLaws.{far-too-large, too-large}
use Rattle.command_line.proofs.MistakeLaws.{small-largest}
use Rattle.command_line.proofs.mistakes.text_of_no_limit.Goals as goal

pub returns-in-Some-2-clause-mistake : goal.returns-in-Some-2-clause-mistake
returns-in-Some-2-clause-mistake c =
    let stated = rw (c.name-2.ensures, c.unit.ensures) at c.in-Some.ensures.stated in (
      search rules,
      too-large (found_of c.args.found.now) (option_name c.args.option) (option_unit c.args.option)
          c.in-Some.limit (option_largest c.args.option) stated (omega arith),
    )

pub returns-in-None-clause-mistake : goal.returns-in-None-clause-mistake
returns-in-None-clause-mistake c =
    let none = rw (c.name-2.ensures, c.unit.ensures) at c.in-None.ensures.none in (
      search rules,
      far-too-large (found_of c.args.found.now) (option_name c.args.option)
          (option_unit c.args.option) 4_294_967_296 (option_largest c.args.option)
          (small-largest c.args.option) none,
    )
