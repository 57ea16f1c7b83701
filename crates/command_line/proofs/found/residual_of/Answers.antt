use Rattle.std.proofs.Common.{arith, codes, rules}
use Rattle.clap.specs.Words.{found_of}
use Rattle.limit_texts.specs.declared.limit.LimitUnit.TheVariants.{HalfUnit}
use Rattle.command_line.proofs.LimitLaws.{far-too-large, too-large}
use Rattle.command_line.proofs.found.residual_of.Goals as goal

pub returns-in_err-limit-clause-none : goal.returns-in_err-limit-clause-none
returns-in_err-limit-clause-none c =
    rw c.from_residual.ensures (
      search rules,
      far-too-large (found_of c.args.found.now) (codes "residual") HalfUnit 4_294_967_296 2_000
          (omega arith) c.in_err-limit.ensures.none,
    )

pub returns-in_err-new-clause-none : goal.returns-in_err-new-clause-none
returns-in_err-new-clause-none c =
    rw c.from_residual-in_err-new.ensures (
      search rules,
      too-large (found_of c.args.found.now) (codes "residual") HalfUnit c.in_ok-limit.limit 2_000
          c.in_ok-limit.ensures.stated c.in_err-new.ensures.none,
    )
