use Rattle.std.proofs.Common.{inl, inr, arith, codes, refl, rules}
use Rattle.station_explain.proofs.NamingLaws.{lacks, splits}
use Rattle.station_explain.proofs.naming.without_number.Goals as goal

pub returns-then-is_number : goal.returns-then-is_number
returns-then-is_number c =
    inr (
      c.in-Some.name.now,
      c.in-Some.word.now,
      splits (codes " ") _ _ _ (omega arith) c.in-Some.ensures.cases,
      inl (search rules, refl),
    )

pub returns-else-is_number : goal.returns-else-is_number
returns-else-is_number c =
    inr (
      c.in-Some.name.now,
      c.in-Some.word.now,
      splits (codes " ") _ _ _ (omega arith) c.in-Some.ensures.cases,
      inr (search rules, refl),
    )

pub returns-in-None : goal.returns-in-None
returns-in-None c = inl (lacks (codes " ") _ c.in-None.ensures.cases, refl)
