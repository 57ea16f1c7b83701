-- The blocks of the copy of a file whose readings are those of portions.
use Rattle.std.proofs.Common.{◌≡◌, ℕ, suc, ◌≤◌, true, List, [], ◌∷◌, ◌++◌, map, refl, sym, ap}
use Rattle.std.proofs.Common.{subst, ◌∙◌, inl, inr, arith, append_assoc}
use Rattle.std.specs.Prelude.{◌==◌}
use Rattle.std.specs.List.{AllByRecursion}
use Rattle.std.proofs.lemmas.Bool.{cases_Bool, eq-eqb}
use Rattle.gsi_word.specs.Blocks.{GsiBlock}
use Rattle.station_book.specs.Blocks.{has_direction, target, is_of_face, angles}
use Rattle.station_book.specs.declared.face.Face.TheVariants.{Two}
use Rattle.set_marks.specs.declared.mark.Code.{Code}
use Rattle.set_marks.specs.declared.mark.BlockMark.{BlockMark}
use Rattle.set_marks.specs.declared.sight.Sight.{Sight}
use Rattle.set_marks.specs.Marks.{code_block}
use Rattle.set_marks.specs.MarkedFile.{codes_before, with_codes}
use Rattle.set_marks.proofs.ReadingBlocks.{sights_from, IsClean}
use Rattle.set_marks.proofs.Segments.{marks_at, codes_at, AreUp, up_later, AreFrom, none_before}
use Rattle.set_marks.proofs.Segments.{earlier_codes}
use Rattle.set_marks.proofs.Portions.{Portion, marks_in, sights_in, AreGroups, blocks_in}

up_first : (n : ℕ) (first ms : List BlockMark)
    → AllByRecursion (λ (m : BlockMark). m.block ≡ n) first → AreUp n ms → AreUp n (first ++ ms)
up_first n [] ms are up = up
up_first n (m ∷ first) ms are up = (
  (let e = are.0 in omega arith),
  subst (λ (k : ℕ). AreUp k (first ++ ms)) (sym are.0) (up_first n first ms are.1 up),
)

marks_block : (r : Sight) (codes : List Code)
    → AllByRecursion (λ (m : BlockMark). m.block ≡ r.block) (marks_at (r ∷ []) codes)
marks_block r [] = tt
marks_block r (c ∷ codes) = (refl, marks_block r codes)

codes_here : (r : Sight) (codes : List Code) (ms : List BlockMark) → codes_before ms r.block ≡ []
    → codes_before (marks_at (r ∷ []) codes ++ ms) r.block ≡ map (λ c. code_block r.wide c) codes
codes_here r [] ms e = e
codes_here r (c ∷ codes) ms e = rw (eq-eqb r.block r.block refl)
    (ap (λ xs. code_block r.wide c ∷ xs) (codes_here r codes ms e))

-- these readings are in blocks of this number or later ones
abbrev AreLater : ℕ → List Sight → Type 0
AreLater n rs = AllByRecursion (λ (r : Sight). n ≤ r.block) rs

are_later : (n k : ℕ) (bs : List GsiBlock) → n ≤ k → AreLater n (sights_from k bs)
are_later n k [] le = tt
are_later n k (b ∷ bs) le =
    let more = are_later n (suc k) bs (omega arith) in elim (cases_Bool (has_direction b)) [
      | inl h ↦ rw h (le, more)
      | inr h ↦ rw h more
    ]

later_both : (n : ℕ) (rs ss : List Sight) → AreLater n (rs ++ ss) → AreLater n rs × AreLater n ss
later_both n [] ss all = (tt, all)
later_both n (r ∷ rs) ss all =
    let both = later_both n rs ss all.1 in ((all.0, both.0), both.1)

from_first : (n : ℕ) (rs : List Sight) (codes : List Code) (ms : List BlockMark) → AreLater n rs
    → AreFrom n ms → AreFrom n (marks_at rs codes ++ ms)
from_first n [] codes ms all from = from
from_first n (r ∷ rs) [] ms all from = from
from_first n (r ∷ rs) (c ∷ codes) ms all from = (all.0, from_first n (r ∷ rs) codes ms all from)

from_portions : (n : ℕ) (ps : List Portion) → AreLater n (sights_in ps) → AreFrom n (marks_in ps)
from_portions n [] all = tt
from_portions n (p ∷ ps) all =
    let both = later_both n p.sights (sights_in ps) all in
    from_first n p.sights p.codes (marks_in ps) both.0 (from_portions n ps both.1)

-- The copy of blocks whose readings are these, before which no code line comes, and those of
-- portions.
pub record Copied (rs : List Sight) (ps : List Portion) (n : ℕ) (bs : List GsiBlock) : Type 0 where
  pub first : List GsiBlock
  pub groups : List (List GsiBlock)
  pub here : sights_from n first ≡ rs
  pub clean : AllByRecursion IsClean first
  pub are : AreGroups ps groups
  pub blocks : with_codes (marks_in ps) n bs ≡ first ++ blocks_in ps groups
  pub up : AreUp n (marks_in ps)

-- portions without readings have no blocks
record NoBlocks (ps : List Portion) : Type 0 where
  pub groups : List (List GsiBlock)
  pub are : AreGroups ps groups
  pub blocks : blocks_in ps groups ≡ []
  pub marks : marks_in ps ≡ []

no_blocks : (ps : List Portion) → sights_in ps ≡ [] → NoBlocks ps
no_blocks [] e = record { groups = []; are = tt; blocks = refl; marks = refl }
no_blocks (p ∷ ps) e =
    let none : p.sights ≡ [] = first p.sights e in
    let more = no_blocks ps (ap (λ (xs : List Sight). xs ++ sights_in ps) (sym none) ∙ e) in
    record {
      groups = [] ∷ more.groups;
      are = (record { number = 0; here = sym none; clean = tt; none = λ e. refl }, more.are);
      blocks = (λ i. (codes_at (none i) p.codes ++ []) ++ more.blocks i);
      marks = (λ i. marks_at (none i) p.codes ++ more.marks i);
    } where
      first : (rs : List Sight) → rs ++ sights_in ps ≡ [] → rs ≡ []
      first [] e = refl
      first (r ∷ rs) e = cc

-- the reading in the block of this number
abbrev seen : ℕ → GsiBlock → Sight
seen n b = record {
  block = n;
  wide = b.width == 16;
  target = target b;
  second = is_of_face Two b;
  angles = angles b;
}

later : (n : ℕ) (bs : List GsiBlock) (rs : List Sight) (ps : List Portion)
    → sights_from (suc n) bs ≡ rs ++ sights_in ps → AreFrom (suc n) (marks_in ps)
later n bs rs ps e = from_portions (suc n) ps (later_both (suc n) rs (sights_in ps)
    (subst (AreLater (suc n)) e (are_later (suc n) (suc n) bs (omega arith)))).1

module _ (n : ℕ) (b : GsiBlock) (bs : List GsiBlock) (sees : has_direction b ≡ true)
    (is : IsClean b)
    (go : (rs : List Sight) (ps : List Portion) → sights_from (suc n) bs ≡ rs ++ sights_in ps
    → Copied rs ps (suc n) bs)
  where
    -- A reading of the portion that has begun.
    goes_on : (r : Sight) (rs : List Sight) (ps : List Portion)
        → seen n b ∷ sights_from (suc n) bs ≡ r ∷ (rs ++ sights_in ps)
        → Copied (r ∷ rs) ps n (b ∷ bs)
    goes_on r rs ps e =
        let g : seen n b ≡ r = cc in
        let t : sights_from (suc n) bs ≡ rs ++ sights_in ps = cc in
        let c = go rs ps t in
        let none = none_before n (suc n) (marks_in ps) (omega arith) (later n bs rs ps t) in
        record {
          first = b ∷ c.first;
          groups = c.groups;
          here = rw sees (λ i. g i ∷ c.here i);
          clean = (is, c.clean);
          are = c.are;
          blocks = (λ i. none i ++ (b ∷ c.blocks i));
          up = up_later n (suc n) (marks_in ps) (omega arith) c.up;
        }

    -- The first reading of a portion.
    begins : (p : Portion) (ps : List Portion) (r : Sight) (rs : List Sight) → p.sights ≡ r ∷ rs
        → seen n b ∷ sights_from (suc n) bs ≡ r ∷ (rs ++ sights_in ps)
        → Copied [] (p ∷ ps) n (b ∷ bs)
    begins p ps r rs q e =
        let g : seen n b ≡ r = cc in
        let t : sights_from (suc n) bs ≡ rs ++ sights_in ps = cc in
        let c = go rs ps t in
        let at : n ≡ r.block = ap (λ (x : Sight). x.block) g in
        let mine = marks_at (r ∷ []) p.codes in
        let marks : marks_in (p ∷ ps) ≡ mine ++ marks_in ps =
        ap (λ (xs : List Sight). marks_at xs p.codes ++ marks_in ps) q in
        let codes : codes_before (mine ++ marks_in ps) n ≡ map (λ c. code_block r.wide c) p.codes =
        ap (λ (k : ℕ). codes_before (mine ++ marks_in ps) k) at
        ∙ codes_here r p.codes (marks_in ps) (ap (λ (k : ℕ). codes_before (marks_in ps) k) (sym at)
        ∙ none_before n (suc n) (marks_in ps) (omega arith) (later n bs rs ps t)) in
        let beyond : with_codes (mine ++ marks_in ps) (suc n) bs
        ≡ c.first ++ blocks_in ps c.groups =
        earlier_codes r.block (suc n) mine (marks_in ps) bs (omega (arith, at))
        (marks_block r p.codes)
        ∙ c.blocks in
        record {
          first = [];
          groups = (b ∷ c.first) ∷ c.groups;
          here = refl;
          clean = tt;
          are = (
            record {
              number = n;
              here = rw sees (λ i. g i ∷ c.here i) ∙ sym q;
              clean = (is, c.clean);
              none = λ f. let never : r ∷ rs ≡ [] = sym q ∙ f in cc;
            },
            c.are,
          );
          blocks = ap (λ (ms : List BlockMark). with_codes ms n (b ∷ bs)) marks
              ∙ (λ i. codes i ++ (b ∷ beyond i))
              ∙ sym (append_assoc (map (λ c. code_block r.wide c) p.codes) (b ∷ c.first)
              (blocks_in ps c.groups))
              ∙ ap (λ (xs : List Sight). (codes_at xs p.codes ++ (b ∷ c.first))
              ++ blocks_in ps c.groups) (sym q);
          up = subst (λ (ms : List BlockMark). AreUp n ms) (sym marks)
              (subst (λ (k : ℕ). AreUp k (mine ++ marks_in ps)) (sym at)
              (up_first r.block mine (marks_in ps) (marks_block r p.codes)
              (up_later r.block (suc n) (marks_in ps) (omega (arith, at)) c.up)));
        }

    -- A portion without readings has no blocks.
    passes : (p : Portion) (ps : List Portion) → p.sights ≡ [] → Copied [] ps n (b ∷ bs)
        → Copied [] (p ∷ ps) n (b ∷ bs)
    passes p ps q c = record {
      first = c.first;
      groups = [] ∷ c.groups;
      here = c.here;
      clean = c.clean;
      are = (record { number = 0; here = sym q; clean = tt; none = λ e. refl }, c.are);
      blocks = ap (λ (xs : List Sight).
          with_codes (marks_at xs p.codes ++ marks_in ps) n (b ∷ bs)) q
          ∙ c.blocks
          ∙ ap (λ (xs : List Sight).
          c.first ++ ((codes_at xs p.codes ++ []) ++ blocks_in ps c.groups))
          (sym q);
      up = subst (λ (xs : List Sight). AreUp n (marks_at xs p.codes ++ marks_in ps)) (sym q) c.up;
    }

    at_reading : (rs : List Sight) (ps : List Portion)
        → seen n b ∷ sights_from (suc n) bs ≡ rs ++ sights_in ps → Copied rs ps n (b ∷ bs)
    at_reading (r ∷ rs) ps e = goes_on r rs ps e
    at_reading [] [] e = cc
    at_reading [] (p ∷ ps) e = by p.sights refl e (at_reading [] ps) where
      by : (ss : List Sight) → p.sights ≡ ss
          → seen n b ∷ sights_from (suc n) bs ≡ ss ++ sights_in ps
          → (seen n b ∷ sights_from (suc n) bs ≡ sights_in ps → Copied [] ps n (b ∷ bs))
          → Copied [] (p ∷ ps) n (b ∷ bs)
      by [] q f again = passes p ps q (again f)
      by (r ∷ rs) q f again = begins p ps r rs q f

pub copied : (n : ℕ) (bs : List GsiBlock) (rs : List Sight) (ps : List Portion)
    → AllByRecursion IsClean bs → sights_from n bs ≡ rs ++ sights_in ps → Copied rs ps n bs
copied n [] (r ∷ rs) ps clean e = cc
copied n [] [] ps clean e =
    let none = no_blocks ps (sym e) in
    record {
      first = [];
      groups = none.groups;
      here = refl;
      clean = tt;
      are = none.are;
      blocks = sym none.blocks;
      up = subst (λ (ms : List BlockMark). AreUp n ms) (sym none.marks) tt;
    }
copied n (b ∷ bs) rs ps clean e = elim (cases_Bool (has_direction b)) [
  | inl h ↦ at_reading n b bs h clean.0 (λ qs qps. copied (suc n) bs qs qps clean.1) rs ps
      (rw h at e)
  | inr h ↦
      let c = copied (suc n) bs rs ps clean.1 (rw h at e) in
      let none = none_before n (suc n) (marks_in ps) (omega arith)
      (later n bs rs ps (rw h at e)) in
      record {
        first = b ∷ c.first;
        groups = c.groups;
        here = rw h c.here;
        clean = (clean.0, c.clean);
        are = c.are;
        blocks = (λ i. none i ++ (b ∷ c.blocks i));
        up = up_later n (suc n) (marks_in ps) (omega arith) c.up;
      }
]
