-- What leads on from a fault of a station (profile).
use Rattle.std.specs.Prelude.{ℕ, List, codes}
use Rattle.set_marks.specs.declared.fault.MarkKind.{MarkKind}
use Rattle.set_marks.specs.declared.fault.MarkKind.TheVariants as kind

-- What the user of a station with this fault does next. A fault of a block by itself, or of the whole
-- file, is no station's: those come last.
abbrev pub leads_on : MarkKind → List ℕ
leads_on kind.ReadTwice = codes "leave out the reading that does not count"
leads_on kind.FaceMissing =
    codes "leave out a set that was broken off, or the target in it, or rename the target"
leads_on kind.OneTarget = codes "leave this set out, or give its target the right name"
leads_on kind.Order = codes "leave this set out, or put codes in by the field book"
leads_on kind.EndsElsewhere =
    codes "leave this set out if it was broken off, or put codes in by the field book"
leads_on kind.TooManySets = codes "mark copies that have a part each"
leads_on kind.TooManyTargets = codes "mark copies that have a part each"
leads_on kind.TooManyStations = codes "mark copies that have a part each"
leads_on kind.OneSet = codes "leave out the readings before the set"
leads_on kind.FirstFace =
    codes "leave out the readings before the first set, or the checks after the last"
leads_on kind.MayBeShifted = codes "put codes in by the field book"
leads_on kind.PairAfter = codes "leave this pair out, or put codes in by the field book"
leads_on kind.OtherTargets = codes "mark the readings before and after in copies of their own"
leads_on kind.SightsItself =
    codes "put codes in by the field book, or give the target its right name"
leads_on kind.StationTwice =
    codes "state that it is the same set-up (--same-set-up) or another (--again)"
leads_on kind.NameTooLong = codes "give the station a shorter name"
leads_on kind.ByTargets =
    codes "state how many sets were read to the end (--sets), and of one its targets (--targets)"
leads_on kind.SetCount =
    codes "leave out a set that was broken off or read again, or state another number"
leads_on kind.TargetCount =
    codes "give a target that has two names the right one, or state another number"
leads_on kind.TwoLines = codes "see what the fault means by station_check explain"
leads_on kind.HasCodes = codes "see what the fault means by station_check explain"
leads_on kind.HasSetUp = codes "see what the fault means by station_check explain"
leads_on kind.NoSetUp = codes "see what the fault means by station_check explain"
leads_on kind.Empty = codes "see what the fault means by station_check explain"
leads_on kind.NoSets = codes "see what the fault means by station_check explain"
leads_on kind.NoSuchStation = codes "see what the fault means by station_check explain"
