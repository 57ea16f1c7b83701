-- The readings of a set each target of which is read once in each face.
use Rattle.std.proofs.Common.{◌≡◌, ℕ, suc, ◌+◌, ◌<◌, Bool, true, false, ◌&&◌, ◌||◌, not, List, []}
use Rattle.std.proofs.Common.{◌∷◌, length, filter, refl, sym, ap, ◌∙◌, inl, inr, arith}
use Rattle.std.specs.List.{list_any, AllByRecursion}
use Rattle.std.specs.Str.{bytes_eq}
use Rattle.std.proofs.lemmas.Bool.{cases_Bool, and_from, and_left, or_left, or_from}
use Rattle.std.proofs.lemmas.Bool.{false_from_ne_true}
use Rattle.std.proofs.lemmas.Slice.Eq.{bytes_eq-Decides}
use Rattle.gsi_word.specs.Blocks.{GsiBlock}
use Rattle.station_book.specs.declared.face.Face.{Face}
use Rattle.station_book.specs.declared.face.Face.TheVariants.{One, Two}
use Rattle.station_book.specs.declared.fault.BookKind.TheVariants.{EmptySet, OneFace}
use Rattle.station_book.specs.Blocks.{has_direction, target, is_of_face, other_face}
use Rattle.station_book.specs.Places.{is_empty}
use Rattle.station_book.specs.Faults.{face, when}
use Rattle.station_book.proofs.lists.Elements.{any_to, contains_in, all_from}
use Rattle.book_tree.specs.Tree.{Tree, has_reading, has_other_face, tree_end_faults, HasNone}
use Rattle.set_marks.specs.MarkedBlocks.{reads_target, HasWholePairs}
use Rattle.set_marks.specs.MarkedTree.{in_set}

-- whether a block is of this target and this face
abbrev pub is_it : List ℕ → Face → GsiBlock → Bool
is_it name f b = bytes_eq (target b) name && is_of_face f b

-- In all blocks the target of this one is read once in each face.
abbrev pub IsOnce : List GsiBlock → GsiBlock → Type 0
IsOnce all c = (f : Face) → length (filter (reads_target (target c) f) all) ≡ 1

-- what is known of a reading that may come
pub record MayCome (all : List GsiBlock) (c : GsiBlock) : Type 0 where
  pub faced : has_direction c ≡ true → (is_of_face One c || is_of_face Two c) ≡ true
  pub once : has_direction c ≡ true → IsOnce all c

-- These are the readings of the first of all blocks, and those the blocks after them.
pub record AreFirst (all rs bs : List GsiBlock) : Type 0 where
  pub sum : (name : List ℕ) (f : Face)
      → length (filter (is_it name f) rs) + length (filter (reads_target name f) bs)
      ≡ length (filter (reads_target name f) all)
  pub to_come : AllByRecursion (MayCome all) bs
  pub read : AllByRecursion (IsOnce all) rs

some_kept : (p : GsiBlock → Bool) (bs : List GsiBlock) → list_any p bs ≡ true
    → 0 < length (filter p bs)
some_kept p [] e = cc
some_kept p (b ∷ bs) e = elim (cases_Bool (p b)) [
  | inl h ↦ rw h (omega arith)
  | inr h ↦ rw h (some_kept p bs (rw h at e))
]

kept_some : (p : GsiBlock → Bool) (bs : List GsiBlock) → 0 < length (filter p bs)
    → list_any p bs ≡ true
kept_some p [] e = absurd (omega arith)
kept_some p (b ∷ bs) e = elim (cases_Bool (p b)) [
  | inl h ↦ rw h refl
  | inr h ↦ rw h (kept_some p bs (rw h at e))
]

pub none_read : (all : List GsiBlock) → HasWholePairs all → AreFirst all [] all
none_read all whole = record {
  sum = λ name f. omega arith;
  to_come = all_from (MayCome all) all (λ c inside. record {
    faced = whole.faced c (contains_in c all inside);
    once = λ sees f. whole.pairs c f (contains_in c all inside) sees;
  });
  read = tt;
}

-- A block that is no reading changes nothing.
pub none_more : (all rs : List GsiBlock) (b : GsiBlock) (bs : List GsiBlock)
    → has_direction b ≡ false → AreFirst all rs (b ∷ bs) → AreFirst all rs bs
none_more all rs b bs sees h = record {
  sum = λ name f.
      let none : length (filter (reads_target name f) (b ∷ bs))
      ≡ length (filter (reads_target name f) bs) =
      rw (and_left (has_direction b) (is_it name f b) sees) refl in
      let s = h.sum name f in omega (arith, none, s);
  to_come = h.to_come.1;
  read = h.read;
}

-- A reading is one more.
pub one_more : (all rs : List GsiBlock) (b : GsiBlock) (bs : List GsiBlock)
    → has_direction b ≡ true → AreFirst all rs (b ∷ bs) → AreFirst all (b ∷ rs) bs
one_more all rs b bs sees h = record {
  sum = λ name f.
      let s = h.sum name f in elim (cases_Bool (is_it name f b)) [
        | inl e ↦
            let l : length (filter (is_it name f) (b ∷ rs))
            ≡ suc (length (filter (is_it name f) rs)) = rw e refl in
            let m : length (filter (reads_target name f) (b ∷ bs))
            ≡ suc (length (filter (reads_target name f) bs)) =
            rw (and_from (has_direction b) (is_it name f b) sees e) refl in
            omega (arith, l, m, s)
        | inr e ↦
            let l : length (filter (is_it name f) (b ∷ rs))
            ≡ length (filter (is_it name f) rs) = rw e refl in
            let m : length (filter (reads_target name f) (b ∷ bs))
            ≡ length (filter (reads_target name f) bs) =
            rw (ap (λ v. has_direction b && v) e ∙ never (has_direction b)) refl in
            omega (arith, l, m, s)
      ];
  to_come = h.to_come.1;
  read = (h.to_come.0.once sees, h.read);
} where
  never : (t : Bool) → (t && false) ≡ false
  never true = refl
  never false = refl

in_face : (b : GsiBlock) → (is_of_face One b || is_of_face Two b) ≡ true
    → is_of_face (face b) b ≡ true
in_face b e = elim (cases_Bool (is_of_face Two b)) [
  | inl two ↦ rw two two
  | inr two ↦ rw two (by (is_of_face One b) (ap (λ v. is_of_face One b || v) (sym two) ∙ e))
] where
  by : (x : Bool) → (x || false) ≡ true → x ≡ true
  by true e = refl
  by false e = e

-- No reading is the second of its target and face.
pub not_taken : (all rs : List GsiBlock) (b : GsiBlock) (bs : List GsiBlock)
    → has_direction b ≡ true → AreFirst all rs (b ∷ bs) → has_reading b rs ≡ false
not_taken all rs b bs sees h = false_from_ne_true (has_reading b rs) (λ t.
    let p = reads_target (target b) (face b) in
    let here : p b ≡ true = and_from (has_direction b) (is_it (target b) (face b) b) sees
    (and_from (bytes_eq (target b) (target b)) (is_of_face (face b) b)
    ((bytes_eq-Decides (target b) (target b)).1 refl) (in_face b (h.to_come.0.faced sees))) in
    let before = some_kept (is_it (target b) (face b)) rs t in
    let again = some_kept p (b ∷ bs) (or_left (p b) (list_any p bs) here) in
    let one = h.to_come.0.once sees (face b) in
    let s = h.sum (target b) (face b) in
    absurd (omega (arith, before, again, one, s)))

has_both : (all rs cs : List GsiBlock) → AreFirst all rs [] → AllByRecursion (IsOnce all) cs
    → list_any (λ b. not (has_other_face b rs)) cs ≡ false
has_both all rs [] h each = refl
has_both all rs (c ∷ cs) h each =
    let f = other_face (face c) in
    let one = each.0 f in
    let s = h.sum (target c) f in
    let there : has_other_face c rs ≡ true =
    kept_some (is_it (target c) f) rs (omega (arith, one, s)) in
    or_from _ _ (ap not there) (has_both all rs cs h each.1)

not_empty : (all rs : List GsiBlock) → HasWholePairs all → AreFirst all rs [] → is_empty rs ≡ false
not_empty all [] whole h =
    let (c, among, sees) = any_to has_direction all whole.some in
    let one = whole.pairs c One (contains_in c all among) sees in
    let s = h.sum (target c) One in
    absurd (omega (arith, one, s))
not_empty all (r ∷ rs) whole h = refl

-- After all blocks the set may end.
pub may_end : (t : Tree) (code : GsiBlock) (all rs : List GsiBlock) → HasWholePairs all
    → AreFirst all rs [] → HasNone (tree_end_faults (in_set t code rs))
may_end t code all rs whole h = (
  ap (λ v. when v EmptySet) (not_empty all rs whole h),
  (ap (λ v. when v OneFace) (has_both all rs rs h h.read), tt),
)
