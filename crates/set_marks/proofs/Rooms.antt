-- What the code lines of a file say has room.
use Rattle.std.proofs.Common.{◌≡◌, ℕ, suc, ◌+◌, ◌<◌, ◌≤◌, Bool, true, false, ◌&&◌, List, [], ◌∷◌}
use Rattle.std.proofs.Common.{◌++◌, length, Option, Some, None, arith}
use Rattle.std.specs.Prelude.{slice_get, nat_lt}
use Rattle.std.proofs.lemmas.Bool.{ltb-false}
use Rattle.set_marks.specs.declared.mark.Code.TheVariants.{Station, Set, Close}
use Rattle.set_marks.specs.declared.mark.BlockMark.{BlockMark}
use Rattle.set_marks.specs.declared.division.Divided.{Divided}
use Rattle.set_marks.specs.declared.division.Divided.TheVariants.{NoSets, Sets, Flawed}
use Rattle.set_marks.specs.declared.sight.Sight.{Sight}
use Rattle.set_marks.specs.Stations.{Occupation}
use Rattle.set_marks.specs.Divisions.{starts_of, in_span}
use Rattle.set_marks.specs.Judging.{Judged, is_too_long}
use Rattle.set_marks.specs.Marking.{mark_at, set_marks, close_mark, station_marks, is_open_after}
use Rattle.set_marks.specs.Marking.{marks_from}
use Rattle.set_marks.proofs.BareNames.{IsBareName}
use Rattle.set_marks.proofs.CopyLines.{AreRoomy}
use Rattle.set_marks.proofs.Judged.{IsSoundAs, AreSound, names_then}
use Rattle.set_marks.proofs.RowsOfSets.{as_many}

both : (first ms : List BlockMark) → AreRoomy first → AreRoomy ms → AreRoomy (first ++ ms)
both [] ms a b = b
both (m ∷ first) ms a b = (a.0, both first ms a.1 b)

close_here : (o : Option Sight) → AreRoomy (mark_at o Close)
close_here None = tt
close_here (Some r) = (tt, tt)

close_roomy : (in_set : Bool) (rs : List Sight) → AreRoomy (close_mark in_set rs)
close_roomy true rs = close_here (slice_get rs 0)
close_roomy false rs = tt

set_here : (o : Option Sight) (k : ℕ) → k < 100 → AreRoomy (mark_at o (Set k))
set_here None k lt = tt
set_here (Some r) k lt = (lt, tt)

sets_roomy : (k : ℕ) (starts : List ℕ) (rs : List Sight) → k + length starts ≤ 100
    → AreRoomy (set_marks k starts rs)
sets_roomy k [] rs le = tt
sets_roomy k (from ∷ starts) rs le = both (mark_at (slice_get rs from) (Set k))
    (set_marks (suc k) starts rs) (set_here (slice_get rs from) k (omega arith))
    (sets_roomy (suc k) starts rs (omega arith))

station_here : (o : Option Sight) (name : List ℕ) → IsBareName name → is_too_long name o ≡ false
    → AreRoomy (mark_at o (Station name))
station_here None name bare short = tt
station_here (Some r) name bare short = ((ltb-false _ (length name) short, bare.is_name), tt)

station_roomy : (in_set : Bool) (names : List (List ℕ)) (s : Occupation) (d : Divided)
    → IsSoundAs names s d → AreRoomy (station_marks in_set s d)
station_roomy in_set names s NoSets is = close_roomy in_set s.sights
station_roomy in_set names s (Flawed f) is = close_roomy in_set s.sights
station_roomy in_set names s (Sets span) is =
    let rs = s.sights in
    let inner = in_span span rs in
    let count = as_many (length inner) (starts_of inner) inner in
    let few = is.are.few in
    let sets = set_marks 1 (starts_of inner) inner in
    let last = mark_at (slice_get rs span.to) Close in
    both (close_mark (in_set && nat_lt 0 span.from) rs)
    (mark_at (slice_get rs span.from) (Station s.name) ++ (sets ++ last))
    (close_roomy (in_set && nat_lt 0 span.from) rs)
    (both (mark_at (slice_get rs span.from) (Station s.name)) (sets ++ last)
    (station_here (slice_get rs span.from) s.name is.bare is.short)
    (both sets last (sets_roomy 1 (starts_of inner) inner (omega (arith, count, few)))
    (close_here (slice_get rs span.to))))

-- What the code lines of stations say has room.
pub marks_roomy : (in_set : Bool) (names : List (List ℕ)) (js : List Judged) → AreSound names js
    → AreRoomy (marks_from in_set js)
marks_roomy in_set names [] are = tt
marks_roomy in_set names (j ∷ js) are =
    both (station_marks in_set j.station j.division)
    (marks_from (is_open_after in_set j.station j.division) js)
    (station_roomy in_set names j.station j.division are.0)
    (marks_roomy (is_open_after in_set j.station j.division)
    (names_then names j.station j.division) js are.1)
