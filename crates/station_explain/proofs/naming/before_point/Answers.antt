use Rattle.std.proofs.Common.{inl, inr, codes, refl}
use Rattle.station_explain.proofs.NamingLaws.{lacks, splits_first}
use Rattle.station_explain.proofs.naming.before_point.Goals as goal

pub returns-in-Some : goal.returns-in-Some
returns-in-Some c =
    inr (c.in-Some.field-0-1.now, splits_first (codes ".") _ _ _ c.in-Some.ensures.cases)

pub returns-in-None : goal.returns-in-None
returns-in-None c = inl (lacks (codes ".") _ c.in-None.ensures.cases, refl)
