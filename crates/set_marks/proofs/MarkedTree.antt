-- The field book of marked blocks has what was marked, and no fault of code lines.
use Rattle.std.proofs.Common.{◌≡◌, ℕ, suc, ◌&&◌, not, cond, List, [], ◌∷◌, ◌++◌, filter, map}
use Rattle.std.proofs.Common.{Option, Some, None, refl, sym, ap, subst, ◌∙◌}
use Rattle.std.specs.List.{flat_map}
use Rattle.gsi_word.specs.declared.index.TheConstants.{HORIZONTAL_DIRECTION}
use Rattle.gsi_word.specs.Blocks.{GsiBlock}
use Rattle.station_book.specs.declared.role.Role.TheVariants as role
use Rattle.station_book.specs.Limits.{FaceLimits}
use Rattle.station_book.specs.Blocks.{is_measurement, has_direction, lacks}
use Rattle.station_book.specs.Faults.{first_of, fault_at_end}
use Rattle.book_tree.specs.Tree.{Tree, tree_of, tree_end_faults, HasNone}
use Rattle.set_marks.specs.MarkedBlocks.{MarkedSet, MarkedStation, blocks_of_set, blocks_of_station}
use Rattle.set_marks.specs.MarkedBlocks.{marked_blocks, grown, HaveNoCode, AreMarkedSets, IsOutside}
use Rattle.set_marks.specs.MarkedBlocks.{AreMarkedStations, for_readings, told_of, told_of_sets}
use Rattle.set_marks.specs.MarkedBlocks.{told_of_station}
use Rattle.set_marks.specs.Found.{Found, found_in, HasNoFaultOfCodes}
use Rattle.set_marks.specs.MarkedTree.{reads, in_set, marked_sets, marked_outside, begun}
use Rattle.set_marks.specs.MarkedTree.{marked_stations}
use Rattle.set_marks.proofs.OverTree as over
use Rattle.set_marks.proofs.TreeSteps.{Walk, stay, onward, coded, over_plain, IsReady, IsAt, ready}
use Rattle.set_marks.proofs.TreeSteps.{close_role, one_set, one_station}

-- Over one set after another.
over_sets : (names : List (List ℕ)) (name : List ℕ) (n : ℕ) (t : Tree) (ss : List MarkedSet)
    → AreMarkedSets n ss → IsAt names name n t
    → Walk t (flat_map blocks_of_set ss) (marked_sets t ss) (told_of_sets name n ss)
    × IsReady (names ++ name ∷ []) (marked_sets t ss)
over_sets names name n t [] are at = (stay t, ready names name n t at)
over_sets names name n t (s ∷ ss) are at =
    let one = one_set names name n t s are.0 at in
    let v = in_set t s.code (reads [] s.blocks) in
    let more = over_sets names name (suc n) v ss are.1 one.1 in (
      onward t v (marked_sets v ss) (blocks_of_set s) (flat_map blocks_of_set ss)
          (for_readings (Some (record { station = Some name; set = Some n })) s.blocks)
          (told_of_sets name (suc n) ss) one.0 more.0,
      more.1,
    )

-- Over what stands outside after a station.
over_outside : (names : List (List ℕ)) (t : Tree) (bs : List GsiBlock) → IsOutside bs
    → IsReady names t → Walk t bs (marked_outside t bs) (for_readings None bs)
    × IsReady names (marked_outside t bs)
over_outside names t [] out now = (stay t, now)
over_outside names t (b ∷ bs) out now =
    let u = marked_outside t (b ∷ bs) in
    let e = close_role b out.0 in
    let told : for_readings None (b ∷ bs) ≡ for_readings None bs =
    ap (λ r. map (λ b. None) (cond (is_measurement r && not (lacks HORIZONTAL_DIRECTION b))
    (b ∷ filter has_direction bs) (filter has_direction bs))) e in (
      subst (λ (fs : List (Option Found)). Walk t (b ∷ bs) u fs) (sym told)
          (onward t u u (b ∷ []) bs [] (for_readings None bs)
          (coded t b role.Close e refl now.ends) (over_plain u bs refl out.1)),
      record { ends = (refl, (refl, tt)); only = now.only },
    )

-- Over one station after another.
over_stations : (names : List (List ℕ)) (t : Tree) (ss : List MarkedStation)
    → AreMarkedStations names ss → IsReady names t
    → Walk t (flat_map blocks_of_station ss) (marked_stations t ss) (flat_map told_of_station ss)
    × HasNone (tree_end_faults (marked_stations t ss))
over_stations names t [] are now = (stay t, now.ends)
over_stations names t (s ∷ ss) are now =
    let is = are.0 in
    let u = begun t s.code in
    let v = marked_sets u s.sets in
    let w = marked_outside v s.outside in
    let begins = one_station names s.name t s.code is.opens is.one_word is.is_named is.new now in
    let sets = over_sets names s.name 1 u s.sets is.sets begins.1 in
    let rest = over_outside (names ++ s.name ∷ []) v s.outside is.outside sets.1 in
    let more = over_stations (names ++ s.name ∷ []) w ss are.1 rest.1 in (
      onward t w (marked_stations w ss) (blocks_of_station s) (flat_map blocks_of_station ss)
          (told_of_station s) (flat_map told_of_station ss)
          (onward t u w (s.code ∷ []) (flat_map blocks_of_set s.sets ++ s.outside) []
          (told_of_station s) begins.0
          (onward u v w (flat_map blocks_of_set s.sets) s.outside (told_of_sets s.name 1 s.sets)
          (for_readings None s.outside) sets.0 rest.0)) more.0,
      more.1,
    )

-- Over all blocks of a file.
over_all : (before : List GsiBlock) (ss : List MarkedStation) → HaveNoCode before
    → AreMarkedStations [] ss
    → Walk (tree_of []) (marked_blocks before ss) (marked_stations (tree_of []) ss)
    (told_of before ss) × HasNone (tree_end_faults (marked_stations (tree_of []) ss))
over_all before ss plain are =
    let t = tree_of [] in
    let stations = over_stations [] t ss are
    (record { ends = (refl, (refl, tt)); only = λ name e. refl }) in (
      onward t t (marked_stations t ss) before (flat_map blocks_of_station ss)
          (for_readings None before) (flat_map told_of_station ss)
          (over_plain t before refl plain) stations.0,
      stations.1,
    )

-- The field book of marked blocks has the stations, the sets and the readings that were marked.
pub tree_of_marked : (before : List GsiBlock) (ss : List MarkedStation) → HaveNoCode before
    → AreMarkedStations [] ss
    → tree_of (grown [] (marked_blocks before ss)) ≡ marked_stations (tree_of []) ss
tree_of_marked before ss plain are = over.tree_grown [] (marked_blocks before ss)
    ∙ (over_all before ss plain are).0.ends

-- Each reading of marked blocks is found where it stands.
pub found_as_marked : (before : List GsiBlock) (ss : List MarkedStation)
    → HaveNoCode before → AreMarkedStations [] ss
    → found_in (grown [] (marked_blocks before ss)) ≡ told_of before ss
found_as_marked before ss plain are = over.found_grown [] (marked_blocks before ss)
    ∙ (over_all before ss plain are).0.found

-- No block of them has a fault of codes.
pub none_of_codes : (limits : FaceLimits) (before : List GsiBlock) (ss : List MarkedStation)
    → HaveNoCode before → AreMarkedStations [] ss
    → HasNoFaultOfCodes limits (grown [] (marked_blocks before ss))
none_of_codes limits before ss plain are =
    over.none_of_codes limits [] (marked_blocks before ss) tt (over_all before ss plain are).0.free

-- The end has no fault.
pub none_at_end : (before : List GsiBlock) (ss : List MarkedStation)
    → HaveNoCode before → AreMarkedStations [] ss
    → fault_at_end (grown [] (marked_blocks before ss)) ≡ None
none_at_end before ss plain are = over.fault_of_end (grown [] (marked_blocks before ss))
    ∙ ap (λ (t : Tree). first_of (tree_end_faults t)) (tree_of_marked before ss plain are)
    ∙ over.none_first (tree_end_faults (marked_stations (tree_of []) ss))
    (over_all before ss plain are).1
