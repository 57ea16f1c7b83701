-- The names of faults, as the line of a refusal has them (profile).
use Rattle.std.specs.Prelude.{ℕ, List, codes}
use Rattle.sheet_means.specs.declared.fault.MeansFault.{MeansFault}
use Rattle.sheet_means.specs.declared.fault.MeansFault.TheVariants.{Incomplete, Memory}

-- The name of why there is no sheet of means
abbrev pub means_fault_name : MeansFault → List ℕ
means_fault_name Incomplete = codes "Incomplete"
means_fault_name Memory = codes "out of memory"
