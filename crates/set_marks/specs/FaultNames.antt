-- The names of faults, as the line of a refusal has them (profile).
use Rattle.std.specs.Prelude.{ℕ, List, codes}
use Rattle.gsi_file.specs.FaultNames.{file_fault_name}
use Rattle.station_book.specs.FaultNames.{book_kind_name}
use Rattle.set_marks.specs.declared.fault.MarkKind.{MarkKind}
use Rattle.set_marks.specs.declared.fault.MarkKind.TheVariants as kind
use Rattle.set_marks.specs.declared.fault.MarkFault.{MarkFault}
use Rattle.set_marks.specs.declared.fault.MarkFault.TheVariants.{File, Reading, At, Memory}

-- The name of what keeps a file from being marked.
abbrev pub mark_kind_name : MarkKind → List ℕ
mark_kind_name kind.TwoLines = codes "TwoLines"
mark_kind_name kind.HasCodes = codes "HasCodes"
mark_kind_name kind.HasSetUp = codes "HasSetUp"
mark_kind_name kind.NoSetUp = codes "NoSetUp"
mark_kind_name kind.ReadTwice = codes "ReadTwice"
mark_kind_name kind.TooManyTargets = codes "TooManyTargets"
mark_kind_name kind.FaceMissing = codes "FaceMissing"
mark_kind_name kind.OneTarget = codes "OneTarget"
mark_kind_name kind.Order = codes "Order"
mark_kind_name kind.EndsElsewhere = codes "EndsElsewhere"
mark_kind_name kind.TooManySets = codes "TooManySets"
mark_kind_name kind.OneSet = codes "OneSet"
mark_kind_name kind.FirstFace = codes "FirstFace"
mark_kind_name kind.MayBeShifted = codes "MayBeShifted"
mark_kind_name kind.PairAfter = codes "PairAfter"
mark_kind_name kind.OtherTargets = codes "OtherTargets"
mark_kind_name kind.SightsItself = codes "SightsItself"
mark_kind_name kind.StationTwice = codes "StationTwice"
mark_kind_name kind.TooManyStations = codes "TooManyStations"
mark_kind_name kind.NameTooLong = codes "NameTooLong"
mark_kind_name kind.Empty = codes "Empty"
mark_kind_name kind.NoSets = codes "NoSets"
mark_kind_name kind.NoSuchStation = codes "NoSuchStation"
mark_kind_name kind.ByTargets = codes "ByTargets"
mark_kind_name kind.SetCount = codes "SetCount"
mark_kind_name kind.TargetCount = codes "TargetCount"

-- The name of a fault, or that memory ran out.
abbrev pub mark_fault_name : MarkFault → List ℕ
mark_fault_name (File fault) = file_fault_name fault
mark_fault_name (Reading number kind) = book_kind_name kind
mark_fault_name (At number kind) = mark_kind_name kind
mark_fault_name Memory = codes "out of memory"
