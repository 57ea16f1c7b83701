-- The book finds the readings of portions where they are to be found, and no fault of code lines.
use Rattle.std.proofs.Common.{ap, ◌≡◌, ℕ, suc, ◌+◌, ◌<◌, ◌≤◌, Bool, true, false, ◌&&◌, List, []}
use Rattle.std.proofs.Common.{◌∷◌, ◌++◌, length, Option, Some, None, is_some, refl, sym, subst, ◌∙◌}
use Rattle.std.proofs.Common.{arith, All}
use Rattle.std.specs.List.{AllByRecursion}
use Rattle.std.proofs.lemmas.List.Elements.{All-head, All-tail}
use Rattle.gsi_word.specs.Blocks.{GsiBlock}
use Rattle.adjust_kernel.specs.declared.bounds.TheConstants.{MOST_SETS}
use Rattle.station_book.specs.Places.{is_among, is_empty}
use Rattle.station_book.specs.declared.role.Role.TheVariants as role
use Rattle.book_tree.specs.Tree.{Tree, sets_in, tree_end_faults, HasNone, with_set, SetOf, tree_of}
use Rattle.set_marks.specs.declared.mark.Code.TheVariants.{Station, Set, Close}
use Rattle.set_marks.specs.declared.sight.Sight.{Sight}
use Rattle.set_marks.specs.Marks.{code_block}
use Rattle.set_marks.specs.SetsInWords.{ReadsEachOnce}
use Rattle.set_marks.specs.MarkedBlocks.{for_readings, IsMarkedSet}
use Rattle.set_marks.specs.Found.{Found}
use Rattle.set_marks.specs.MarkedFile.{for_each, with_codes}
use Rattle.set_marks.specs.MarkedTree.{reads, in_set, begun}
use Rattle.set_marks.proofs.BareNames.{IsBareName}
use Rattle.set_marks.proofs.ReadingBlocks.{no_codes, sights_from, IsClean, whole_pairs}
use Rattle.set_marks.proofs.ReadingBlocks.{told_of_blocks}
use Rattle.set_marks.proofs.CodeBlocks.{opens_station_as, station_once, station_named}
use Rattle.set_marks.proofs.CodeBlocks.{closes_set_as, opens_set_as, set_once, set_numbered}
use Rattle.set_marks.proofs.Segments.{codes_at, AreUp}
use Rattle.set_marks.proofs.TreeSteps.{Walk, stay, onward, coded, over_plain, IsReady, IsAt, ready}
use Rattle.set_marks.proofs.TreeSteps.{close_role, one_set, one_station}
use Rattle.set_marks.proofs.Portions.{marks_in, sights_in, Portion, told_in, closing, outside}
use Rattle.set_marks.proofs.Portions.{found_at, set_portions, station_portions, IsGroup, AreGroups}
use Rattle.set_marks.proofs.Portions.{blocks_in, Site, open_by, open_after, portions_from, AreSites}
use Rattle.set_marks.proofs.Portions.{names_with}
use Rattle.set_marks.proofs.CopiedPortions.{copied}

-- A set in the blocks of its readings.
set_is : (wide : Bool) (k n : ℕ) (group : List GsiBlock) (set : List Sight) → k < 40
    → ReadsEachOnce set → sights_from n group ≡ set → AllByRecursion IsClean group
    → IsMarkedSet (suc k) (record { code = code_block wide (Set (suc k)); blocks = group })
set_is wide k n group set lt once e clean = record {
  opens = opens_set_as wide (suc k);
  one_word = set_once wide (suc k);
  numbered = set_numbered wide k lt;
  uncoded = no_codes group clean;
  whole = whole_pairs n group clean (subst ReadsEachOnce (sym e) once);
}

-- What is told of the blocks of readings.
told_is : (f : Option Found) (n : ℕ) (group : List GsiBlock) (rs : List Sight)
    → sights_from n group ≡ rs → for_readings f group ≡ for_each f rs
told_is f n group rs e = told_of_blocks f n group ∙ ap (λ (xs : List Sight). for_each f xs) e

-- The book goes on from this tree over these portions, and a set that is open at the end may end.
record Goes (t : Tree) (ps : List Portion) (groups : List (List GsiBlock)) : Type 0 where
  pub later : Tree
  pub walk : Walk t (blocks_in ps groups) later (told_in ps)
  pub ends : HasNone (tree_end_faults later)

nowhere : (t : Tree) (groups : List (List GsiBlock)) → HasNone (tree_end_faults t)
    → Goes t [] groups
nowhere t groups ends = record { later = t; walk = stay t; ends = ends }

-- over a portion and then the others
goes_on : (t u : Tree) (p : Portion) (ps : List Portion) (g : List GsiBlock)
    (groups : List (List GsiBlock))
    → Walk t (codes_at p.sights p.codes ++ g) u (for_each p.found p.sights) → Goes u ps groups
    → Goes t (p ∷ ps) (g ∷ groups)
goes_on t u p ps g groups one more = record {
  later = more.later;
  walk = onward t u more.later (codes_at p.sights p.codes ++ g) (blocks_in ps groups)
      (for_each p.found p.sights) (told_in ps) one more.walk;
  ends = more.ends;
}

-- the tree after readings in no set
abbrev left : Tree → List Sight → Tree
left t [] = t
left t (r ∷ rs) = record t { ended = sets_in t; current = None }

none_open : (o : Option SetOf) → is_some o ≡ false → o ≡ None
none_open None e = refl
none_open (Some s) e = cc

-- Readings in no set are found nowhere.
over_outside : (in_set : Bool) (rs : List Sight) (t : Tree) (g : List GsiBlock)
    → is_some t.current ≡ in_set → HasNone (tree_end_faults t) → IsGroup (outside in_set rs) g
    → Walk t (codes_at rs (closing in_set) ++ g) (left t rs) (for_each None rs)
over_outside in_set [] t g now ends is =
    subst (λ (xs : List GsiBlock). Walk t xs t []) (sym (is.none refl)) (stay t)
over_outside true (r ∷ rs) t g now ends is =
    let u = left t (r ∷ rs) in
    let plain = over_plain u g refl (no_codes g is.clean) in
    subst (λ fs. Walk t (code_block r.wide Close ∷ g) u fs)
    (told_is None is.number g (r ∷ rs) is.here)
    (onward t u u (code_block r.wide Close ∷ []) g [] (for_readings None g)
    (coded t (code_block r.wide Close) role.Close
    (close_role (code_block r.wide Close) (closes_set_as r.wide)) refl ends) plain)
over_outside false (r ∷ rs) t g now ends is =
    let e = none_open t.current now in
    let same : t ≡ left t (r ∷ rs) =
    (λ i. record t { current = e i })
    ∙ sym (λ i. record t { ended = with_set (e i) t.ended; current = None }) in
    subst (λ fs. Walk t g (left t (r ∷ rs)) fs) (told_is None is.number g (r ∷ rs) is.here)
    (subst (λ (u : Tree). Walk t g u (for_readings None g)) same
    (over_plain t g e (no_codes g is.clean)))

ready_left : (names : List (List ℕ)) (t : Tree) (rs : List Sight) → IsReady names t
    → IsReady names (left t rs)
ready_left names t [] now = now
ready_left names t (r ∷ rs) now = record { ends = (refl, (refl, tt)); only = now.only }

open_left : (in_set : Bool) (t : Tree) (rs : List Sight) → is_some t.current ≡ in_set
    → is_some (left t rs).current ≡ (in_set && is_empty rs)
open_left true t [] now = now
open_left false t [] now = now
open_left true t (r ∷ rs) now = refl
open_left false t (r ∷ rs) now = refl

-- The readings of a set are found in it.
over_set : (names : List (List ℕ)) (name : List ℕ) (k : ℕ) (r : Sight) (others : List Sight)
    (t : Tree) (g : List GsiBlock) → k < 40 → ReadsEachOnce (r ∷ others)
    → (is : (n : ℕ) × (sights_from n g ≡ r ∷ others)) → AllByRecursion IsClean g
    → IsAt names name (suc k) t
    → Walk t (code_block r.wide (Set (suc k)) ∷ g)
    (in_set t (code_block r.wide (Set (suc k))) (reads [] g))
    (for_each (found_at name (suc k)) (r ∷ others))
    × IsAt names name (suc (suc k)) (in_set t (code_block r.wide (Set (suc k))) (reads [] g))
over_set names name k r others t g lt once is clean at =
    let code = code_block r.wide (Set (suc k)) in
    let one = one_set names name (suc k) t (record { code = code; blocks = g })
    (set_is r.wide k is.0 g (r ∷ others) lt once is.1 clean) at in (
      subst (λ fs. Walk t (code ∷ g) (in_set t code (reads [] g)) fs)
          (told_is (found_at name (suc k)) is.0 g (r ∷ others) is.1) one.0,
      one.1,
    )

-- What comes after the sets of a station.
abbrev GoesAfter : List (List ℕ) → List Portion → Type 0
GoesAfter names ps = (u : Tree) (groups : List (List GsiBlock)) → is_some u.current ≡ true
    → IsReady names u → AreGroups ps groups → Goes u ps groups

over_sets : (names : List (List ℕ)) (name : List ℕ) (k : ℕ) (sets : List (List Sight))
    (more : List Portion) (t : Tree) (groups : List (List GsiBlock)) → k + length sets ≤ 40
    → All ReadsEachOnce sets → is_some t.current ≡ true → IsAt names name (suc k) t
    → AreGroups (set_portions name (suc k) sets more) groups
    → GoesAfter (names ++ name ∷ []) more → Goes t (set_portions name (suc k) sets more) groups
over_sets names name k [] more t groups few each now at are after =
    after t groups now (ready names name (suc k) t at) are
over_sets names name k (set ∷ sets) more t [] few each now at are after = absurd are
over_sets names name k ([] ∷ sets) more t (g ∷ groups) few each now at are after =
    absurd (let m = (All-head ReadsEachOnce [] sets each).many in omega arith)
over_sets names name k ((r ∷ others) ∷ sets) more t (g ∷ groups) few each now at are after =
    let code = code_block r.wide (Set (suc k)) in
    let u = in_set t code (reads [] g) in
    let one = over_set names name k r others t g (omega arith)
    (All-head ReadsEachOnce (r ∷ others) sets each) (are.0.number, are.0.here) are.0.clean at in
    goes_on t u
    (record { codes = Set (suc k) ∷ []; sights = r ∷ others; found = found_at name (suc k) })
    (set_portions name (suc (suc k)) sets more) g groups one.0
    (over_sets names name (suc k) sets more u groups (omega arith)
    (All-tail ReadsEachOnce (r ∷ others) sets each) refl one.1 are.1 after)

-- A station: its readings are found in its sets.
over_station : (names : List (List ℕ)) (name : List ℕ) (sets : List (List Sight))
    (more : List Portion) (t : Tree) (groups : List (List GsiBlock)) → 1 ≤ length sets
    → length sets ≤ 40 → All ReadsEachOnce sets → IsBareName name → is_among names name ≡ false
    → IsReady names t → AreGroups (station_portions name sets more) groups
    → GoesAfter (names ++ name ∷ []) more → Goes t (station_portions name sets more) groups
over_station names name [] more t groups some few each bare new now are after = absurd (omega arith)
over_station names name (set ∷ sets) more t [] some few each bare new now are after = absurd are
over_station names name ([] ∷ sets) more t (g ∷ groups) some few each bare new now are after =
    absurd (let m = (All-head ReadsEachOnce [] sets each).many in omega arith)
over_station names name ((r ∷ others) ∷ sets) more t (g ∷ groups) some few each bare new now are
    after =
    let ten = code_block r.wide (Station name) in
    let code = code_block r.wide (Set 1) in
    let begins = one_station names name t ten (opens_station_as r.wide name)
    (station_once r.wide name) (station_named r.wide name bare) new now in
    let v = begun t ten in
    let u = in_set v code (reads [] g) in
    let one = over_set names name 0 r others v g (omega arith)
    (All-head ReadsEachOnce (r ∷ others) sets each) (are.0.number, are.0.here) are.0.clean
    begins.1 in
    goes_on t u (record {
      codes = Station name ∷ Set 1 ∷ [];
      sights = r ∷ others;
      found = found_at name 1;
    }) (set_portions name 2 sets more) g groups
    (onward t v u (ten ∷ []) (code ∷ g) [] (for_each (found_at name 1) (r ∷ others)) begins.0 one.0)
    (over_sets names name 1 sets more u groups (omega arith)
    (All-tail ReadsEachOnce (r ∷ others) sets each) refl one.1 are.1 after)

-- What comes after these readings in no set.
over_left : (names : List (List ℕ)) (in_set after : Bool) (rs : List Sight) (ps : List Portion)
    (t : Tree) (groups : List (List GsiBlock)) → is_some t.current ≡ in_set → IsReady names t
    → (in_set && is_empty rs) ≡ after → AreGroups (outside in_set rs ∷ ps) groups
    → ((u : Tree) (more : List (List GsiBlock)) → is_some u.current ≡ after → IsReady names u
    → AreGroups ps more → Goes u ps more) → Goes t (outside in_set rs ∷ ps) groups
over_left names in_set after rs ps t [] now ready e are go = absurd are
over_left names in_set after rs ps t (g ∷ groups) now ready e are go =
    goes_on t (left t rs) (outside in_set rs) ps g groups
    (over_outside in_set rs t g now ready.ends are.0)
    (go (left t rs) groups (open_left in_set t rs now ∙ e) (ready_left names t rs ready) are.1)

-- Over the stations of a file.
over_sites : (names : List (List ℕ)) (in_set : Bool) (ss : List Site) (t : Tree)
    (groups : List (List GsiBlock)) → AreSites names ss → is_some t.current ≡ in_set
    → IsReady names t → AreGroups (portions_from in_set ss) groups
    → Goes t (portions_from in_set ss) groups
over_sites names in_set [] t groups sites now ready are = nowhere t groups ready.ends
over_sites names in_set (s ∷ ss) t groups sites now ready are =
    over_left names in_set (in_set && is_empty s.before) s.before
    (station_portions s.name s.sets (outside (open_by in_set s.before s.sets) s.after
    ∷ portions_from (open_after in_set s) ss)) t groups now ready refl are
    (by s.sets sites.0.few sites.0.each sites.0.bare sites.0.new sites.1
    (λ more after u gs all. over_sites more after ss u gs all)) where
      by : (sets : List (List Sight)) → length sets ≤ MOST_SETS → All ReadsEachOnce sets
          → (is_empty sets ≡ false → IsBareName s.name)
          → (is_empty sets ≡ false → is_among names s.name ≡ false)
          → AreSites (names_with names s.name sets) ss
          → ((more : List (List ℕ)) (after : Bool) (u : Tree) (gs : List (List GsiBlock))
          → AreSites more ss → is_some u.current ≡ after → IsReady more u
          → AreGroups (portions_from after ss) gs → Goes u (portions_from after ss) gs)
          → (u : Tree) (gs : List (List GsiBlock))
          → is_some u.current ≡ (in_set && is_empty s.before) → IsReady names u
          → AreGroups (station_portions s.name sets (outside (open_by in_set s.before sets) s.after
          ∷ portions_from (open_by in_set s.before sets && is_empty s.after) ss)) gs
          → Goes u (station_portions s.name sets (outside (open_by in_set s.before sets) s.after
          ∷ portions_from (open_by in_set s.before sets && is_empty s.after) ss)) gs
      by [] few each bare new all again u gs now' ready' are' =
          let shut = in_set && is_empty s.before in
          let after = shut && is_empty s.after in
          over_left names shut after s.after (portions_from after ss) u gs now' ready' refl are'
          (λ v hs. again names after v hs all)
      by (set ∷ sets) few each bare new all again u gs now' ready' are' =
          let after = true && is_empty s.after in
          let more = names ++ s.name ∷ [] in
          over_station names s.name (set ∷ sets)
          (outside true s.after ∷ portions_from after ss) u gs (omega arith) few each (bare refl)
          (new refl) ready' are'
          (λ v hs now'' ready'' are''.
          over_left more true after s.after (portions_from after ss) v hs now'' ready'' refl are''
          (λ w ks. again more after w ks all))

-- The book goes over blocks with the code lines of portions, finds their readings where they are
-- to be found, and finds no fault of code lines.
pub record AreFound (ps : List Portion) (bs : List GsiBlock) : Type 0 where
  pub later : Tree
  pub walk : Walk (tree_of []) (with_codes (marks_in ps) 1 bs) later (told_in ps)
  pub ends : HasNone (tree_end_faults later)
  pub up : AreUp 1 (marks_in ps)

-- So it does over blocks without a code whose readings are those of stations, whatever rule of sets
-- divides them.
pub sites_found : (ss : List Site) (bs : List GsiBlock) → AllByRecursion IsClean bs
    → sights_from 1 bs ≡ sights_in (portions_from false ss) → AreSites [] ss
    → AreFound (portions_from false ss) bs
sites_found ss bs clean e sites =
    let ps = portions_from false ss in
    let c = copied 1 bs [] ps clean e in
    let t = tree_of [] in
    let goes = over_sites [] false ss t c.groups sites refl
    (record { ends = (refl, (refl, tt)); only = λ name e. refl }) c.are in
    let walk = onward t t goes.later c.first (blocks_in ps c.groups) (for_readings None c.first)
    (told_in ps) (over_plain t c.first refl (no_codes c.first c.clean)) goes.walk in
    record {
      later = goes.later;
      walk = subst (λ (xs : List GsiBlock). Walk t xs goes.later (told_in ps)) (sym c.blocks)
          (subst (λ (fs : List (Option Found)).
          Walk t (c.first ++ blocks_in ps c.groups) goes.later (fs ++ told_in ps))
          (told_is None 1 c.first [] c.here) walk);
      ends = goes.ends;
      up = c.up;
    }
