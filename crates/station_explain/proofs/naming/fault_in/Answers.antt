use Rattle.std.proofs.Common.{inl, inr, arith, codes, refl}
use Rattle.station_explain.proofs.NamingLaws.{lacks, splits}
use Rattle.station_explain.proofs.naming.fault_in.Goals as goal

pub returns-in-Some : goal.returns-in-Some
returns-in-Some c =
    inr (c.in-Some.field-0-0.now, splits (codes ": ") _ _ _ (omega arith) c.in-Some.ensures.cases)

pub returns-in-None : goal.returns-in-None
returns-in-None c = inl (lacks (codes ": ") _ c.in-None.ensures.cases, refl)
