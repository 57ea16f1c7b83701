use Rattle.std.proofs.Common.{length, refl}
use Rattle.std.specs.Prelude.{IsTrue, nat_eq}
use Rattle.std.proofs.lemmas.Option.{slice_get_read}
use Rattle.std.proofs.lemmas.Bool.{eqb-true, eq-eqb}
use Rattle.adjust_kernel.specs.Matching.{numbers_of}
use Rattle.adjust_kernel.proofs.Differences.{agree_exactly, says_at}
use Rattle.adjust_kernel.proofs.matching.is_same_set_at.Goals as goal

pub returns-in-Some-Some : goal.returns-in-Some-Some
returns-in-Some-Some c =
    let sheet = c.args.sheet.now in
    let station = c.args.station.now in
    let place = c.args.place in
    let orientation = c.in-Some-Some.orientation.now in
    let set = c.in-Some-Some.set.now in
    let in_sheet = rw c.orientations.ensures.value at c.in-Some-Some.ensures.lookup in
    let in_station = rw c.sets.ensures.value at c.in-Some-Some.ensures'.lookup in
    agree_exactly (numbers_of sheet) station.sets place orientation.set set
    (says_at (λ o. o.set) sheet.orientations place orientation in_sheet.3.0 in_sheet.1)
    (slice_get_read station.sets (length station.sets) place set refl in_station.3.0 in_station.1)
    {P = IsTrue (nat_eq orientation.set set)}
    (eqb-true orientation.set set) (eq-eqb orientation.set set)
