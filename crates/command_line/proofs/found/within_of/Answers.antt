use Rattle.std.proofs.Common.{arith, codes, rules}
use Rattle.clap.specs.Words.{found_of}
use Rattle.limit_texts.specs.declared.limit.LimitUnit.TheVariants.{Thousandth}
use Rattle.command_line.proofs.LimitLaws.{far-too-large, too-large}
use Rattle.command_line.proofs.found.within_of.Goals as goal

pub returns-in_err-within-clause-none : goal.returns-in_err-within-clause-none
returns-in_err-within-clause-none c =
    rw c.from_residual.ensures (
      search rules,
      far-too-large (found_of c.args.found.now) (codes "within") Thousandth 4_294_967_296 1_000_000
          (omega arith) c.in_err-within.ensures.none,
    )

pub returns-then-within-gt-LARGEST_WITHIN-clause-none :
    goal.returns-then-within-gt-LARGEST_WITHIN-clause-none
returns-then-within-gt-LARGEST_WITHIN-clause-none c = (
  search rules,
  too-large (found_of c.args.found.now) (codes "within") Thousandth c.in_ok-within.within 1_000_000
      c.in_ok-within.ensures.stated c.if-within-gt-LARGEST_WITHIN.true,
)
