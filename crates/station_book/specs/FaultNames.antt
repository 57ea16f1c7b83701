-- The names of faults, as the line of a refusal has them (profile).
use Rattle.std.specs.Prelude.{ℕ, List, codes}
use Rattle.station_book.specs.declared.fault.BookKind.{BookKind}
use Rattle.station_book.specs.declared.fault.BookKind.TheVariants as kind
use Rattle.station_book.specs.declared.fault.BookFault.{BookFault}
use Rattle.station_book.specs.declared.fault.BookFault.TheVariants.{At, Memory}

-- The name of a fault of a block
abbrev pub book_kind_name : BookKind → List ℕ
book_kind_name kind.EmptySet = codes "EmptySet"
book_kind_name kind.OneFace = codes "OneFace"
book_kind_name (kind.WordTwice index) = codes "WordTwice"
book_kind_name kind.StationName = codes "StationName"
book_kind_name kind.SetOutside = codes "SetOutside"
book_kind_name kind.SetNumber = codes "SetNumber"
book_kind_name kind.StationTwice = codes "StationTwice"
book_kind_name kind.SetTwice = codes "SetTwice"
book_kind_name kind.TooManyStations = codes "TooManyStations"
book_kind_name kind.TooManySets = codes "TooManySets"
book_kind_name kind.NoZenith = codes "NoZenith"
book_kind_name (kind.Hz fault) = codes "Hz"
book_kind_name (kind.Zenith fault) = codes "Zenith"
book_kind_name kind.FaceUnclear = codes "FaceUnclear"
book_kind_name kind.FaceTwice = codes "FaceTwice"
book_kind_name kind.TooManyTargets = codes "TooManyTargets"
book_kind_name kind.TwoC = codes "TwoC"
book_kind_name kind.TwoI = codes "TwoI"

-- The name of a fault of the book, or that memory ran out
abbrev pub book_fault_name : BookFault → List ℕ
book_fault_name (At number fault) = book_kind_name fault
book_fault_name Memory = codes "out of memory"
