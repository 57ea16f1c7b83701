use Rattle.std.proofs.Common.{length, refl}
use Rattle.std.specs.Prelude.{IsTrue}
use Rattle.std.proofs.lemmas.Option.{slice_get_read}
use Rattle.adjust_kernel.specs.Matching.{names_of}
use Rattle.adjust_kernel.proofs.Differences.{agree_exactly, says_at}
use Rattle.adjust_kernel.proofs.matching.is_same_target_at.Goals as goal

pub returns-in-Some-Some : goal.returns-in-Some-Some
returns-in-Some-Some c =
    let sheet = c.args.sheet.now in
    let station = c.args.station.now in
    let place = c.args.place in
    let direction = c.in-Some-Some.direction.now in
    let target = c.in-Some-Some.target.now in
    let in_sheet = rw c.directions.ensures.value at c.in-Some-Some.ensures.lookup in
    let in_station = rw c.targets.ensures.value at c.in-Some-Some.ensures'.lookup in
    agree_exactly (names_of sheet) station.targets place direction.name target
    (says_at (λ d. d.name) sheet.directions place direction in_sheet.3.0 in_sheet.1)
    (slice_get_read station.targets (length station.targets) place target refl in_station.3.0
    in_station.1)
    {P = IsTrue c.is_same.result}
    c.is_same.ensures.same.0 c.is_same.ensures.same.1
