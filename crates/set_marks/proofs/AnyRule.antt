-- Whatever rule divides the readings of a file into stations and sets: marked so, the book finds
-- them so, and no fault of code lines.
use Rattle.std.proofs.Common.{◌≡◌, ℕ, suc, Bool, false, List, [], ◌∷◌, ◌++◌, Option, None, refl}
use Rattle.std.proofs.Common.{sym, ap, ◌∙◌, append_assoc}
use Rattle.std.specs.List.{AllByRecursion, flat_map}
use Rattle.gsi_word.specs.Blocks.{GsiBlock}
use Rattle.station_book.specs.Limits.{FaceLimits}
use Rattle.station_book.specs.Faults.{first_of, fault_at_end}
use Rattle.book_tree.specs.Tree.{Tree, tree_end_faults}
use Rattle.set_marks.specs.declared.sight.Sight.{Sight}
use Rattle.set_marks.specs.SetsInWords.{one_after_another}
use Rattle.set_marks.specs.MarkedBlocks.{grown}
use Rattle.set_marks.specs.Found.{Found, found_in, HasNoFaultOfCodes}
use Rattle.set_marks.specs.MarkedFile.{with_codes, for_each, in_sets}
use Rattle.set_marks.proofs.ReadingBlocks.{sights_from, IsClean}
use Rattle.set_marks.proofs.Segments.{AreUp}
use Rattle.set_marks.proofs.OverTree as over
use Rattle.set_marks.proofs.Portions.{Portion, Site, AreSites, portions_from, marks_in, sights_in}
use Rattle.set_marks.proofs.Portions.{told_in, set_portions, station_portions, outside, open_by}
use Rattle.set_marks.proofs.Portions.{open_after, found_at}
use Rattle.set_marks.proofs.PortionTree.{sites_found}

-- the readings of a station in their order
abbrev pub in_order : Site → List Sight
in_order s = s.before ++ (one_after_another s.sets ++ s.after)

-- where they are to be found: those of its sets there, all others in no set
abbrev pub found_of_site : Site → List (Option Found)
found_of_site s = for_each None s.before ++ (in_sets s.name 1 s.sets ++ for_each None s.after)

-- The readings of sets and then of other portions are in this order.
sets_read : (name : List ℕ) (n : ℕ) (sets : List (List Sight)) (more : List Portion)
    → sights_in (set_portions name n sets more) ≡ one_after_another sets ++ sights_in more
sets_read name n [] more = refl
sets_read name n (set ∷ sets) more =
    ap (λ (rs : List Sight). set ++ rs) (sets_read name (suc n) sets more)
    ∙ sym (append_assoc set (one_after_another sets) (sights_in more))

station_read : (name : List ℕ) (sets : List (List Sight)) (more : List Portion)
    → sights_in (station_portions name sets more) ≡ one_after_another sets ++ sights_in more
station_read name [] more = refl
station_read name (set ∷ sets) more = sets_read name 1 (set ∷ sets) more

-- They are to be found there.
sets_told : (name : List ℕ) (n : ℕ) (sets : List (List Sight)) (more : List Portion)
    → told_in (set_portions name n sets more) ≡ in_sets name n sets ++ told_in more
sets_told name n [] more = refl
sets_told name n (set ∷ sets) more =
    ap (λ fs. for_each (found_at name n) set ++ fs) (sets_told name (suc n) sets more)
    ∙ sym (append_assoc (for_each (found_at name n) set) (in_sets name (suc n) sets) (told_in more))

station_told : (name : List ℕ) (sets : List (List Sight)) (more : List Portion)
    → told_in (station_portions name sets more) ≡ in_sets name 1 sets ++ told_in more
station_told name [] more = refl
station_told name (set ∷ sets) more = sets_told name 1 (set ∷ sets) more

regroup : {X : Type 0} (a b c d : List X) → a ++ (b ++ (c ++ d)) ≡ (a ++ (b ++ c)) ++ d
regroup a b c d = simp append_assoc

-- The readings of the portions of stations are those of the stations.
all_in_order : (in_set : Bool) (ss : List Site)
    → sights_in (portions_from in_set ss) ≡ flat_map in_order ss
all_in_order in_set [] = refl
all_in_order in_set (s ∷ ss) =
    let more = portions_from (open_after in_set s) ss in
    ap (λ (rs : List Sight). s.before ++ rs) (station_read s.name s.sets
    (outside (open_by in_set s.before s.sets) s.after ∷ more)
    ∙ ap (λ (rs : List Sight). one_after_another s.sets ++ (s.after ++ rs))
    (all_in_order (open_after in_set s) ss))
    ∙ regroup s.before (one_after_another s.sets) s.after (flat_map in_order ss)

-- So is where they are to be found.
all_told : (in_set : Bool) (ss : List Site)
    → told_in (portions_from in_set ss) ≡ flat_map found_of_site ss
all_told in_set [] = refl
all_told in_set (s ∷ ss) =
    let more = portions_from (open_after in_set s) ss in
    ap (λ (fs : List (Option Found)). for_each None s.before ++ fs) (station_told s.name s.sets
    (outside (open_by in_set s.before s.sets) s.after ∷ more)
    ∙ ap (λ (fs : List (Option Found)). in_sets s.name 1 s.sets ++ (for_each None s.after ++ fs))
    (all_told (open_after in_set s) ss))
    ∙ regroup (for_each None s.before) (in_sets s.name 1 s.sets) (for_each None s.after)
    (flat_map found_of_site ss)

-- What the book finds in blocks that are marked so; and each code line stands no later than the
-- next.
pub record IsFoundAsMarked (ss : List Site) (bs : List GsiBlock) : Type 0 where
  pub found : found_in (grown [] (with_codes (marks_in (portions_from false ss)) 1 bs))
      ≡ flat_map found_of_site ss
  pub faults : (limits : FaceLimits)
      → HasNoFaultOfCodes limits (grown [] (with_codes (marks_in (portions_from false ss)) 1 bs))
  pub end : fault_at_end (grown [] (with_codes (marks_in (portions_from false ss)) 1 bs)) ≡ None
  pub up : AreUp 1 (marks_in (portions_from false ss))

-- It is so of blocks without a code whose readings, in their order, are those of stations with
-- different names, 40 sets at most, and each target of a set once in each face.
pub any_rule : (ss : List Site) (bs : List GsiBlock) → AllByRecursion IsClean bs
    → sights_from 1 bs ≡ flat_map in_order ss → AreSites [] ss → IsFoundAsMarked ss bs
any_rule ss bs clean e sites =
    let f = sites_found ss bs clean (e ∙ sym (all_in_order false ss)) sites in
    let blocks = with_codes (marks_in (portions_from false ss)) 1 bs in
    record {
      found = over.found_grown [] blocks ∙ f.walk.found ∙ all_told false ss;
      faults = λ limits. over.none_of_codes limits [] blocks tt f.walk.free;
      end = over.fault_of_end (grown [] blocks)
          ∙ ap (λ (t : Tree). first_of (tree_end_faults t))
          (over.tree_grown [] blocks ∙ f.walk.ends)
          ∙ over.none_first (tree_end_faults f.later) f.ends;
      up = f.up;
    }
