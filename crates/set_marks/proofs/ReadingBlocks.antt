-- The readings among blocks, in the file's order.
use Rattle.std.proofs.Common.{◌≡◌, ℕ, suc, ◌+◌, ◌<◌, Bool, true, false, ◌&&◌, ◌||◌, not, cond, List}
use Rattle.std.proofs.Common.{[], ◌∷◌, ◌++◌, length, filter, reverse, refl, sym, ap, subst, ◌∙◌}
use Rattle.std.proofs.Common.{inl, inr, arith, append_assoc}
use Rattle.std.specs.Prelude.{◌==◌, Option}
use Rattle.std.specs.List.{AllByRecursion, list_any}
use Rattle.std.specs.Str.{bytes_eq}
use Rattle.std.proofs.lemmas.Bool.{cases_Bool, or_cases, false≢true}
use Rattle.std.proofs.lemmas.List.{append-nil, reverse-append, length-reverse}
use Rattle.gsi_word.specs.Blocks.{GsiBlock}
use Rattle.station_book.specs.declared.face.Face.{Face}
use Rattle.station_book.specs.declared.face.Face.TheVariants.{One, Two}
use Rattle.station_book.specs.Blocks.{is_opening, has_direction, target, is_of_face, angles}
use Rattle.station_book.specs.Places.{History}
use Rattle.station_book.specs.Faults.{face}
use Rattle.station_book.proofs.lists.Elements.{In, in_contains, contains_in, all_in}
use Rattle.station_book.proofs.readings.FaceReadings.{face_of}
use Rattle.set_marks.specs.declared.sight.Sight.{Sight}
use Rattle.set_marks.specs.Stations.{sight_in, sights_of}
use Rattle.set_marks.specs.Divisions.{is_same_face}
use Rattle.set_marks.specs.SetsInWords.{readings_in, ReadsEachOnce}
use Rattle.set_marks.specs.MarkedBlocks.{reads_target, HasWholePairs, HaveNoCode, for_readings}
use Rattle.set_marks.specs.Found.{Found}
use Rattle.set_marks.specs.MarkedFile.{for_each}

-- the readings among blocks, of which the first has this number
abbrev pub sights_from : ℕ → List GsiBlock → List Sight
sights_from n [] = []
sights_from n (b ∷ bs) = sight_in n b ++ sights_from (suc n) bs

-- The readings of some blocks and then of others.
pub sights_append : (n : ℕ) (bs cs : List GsiBlock)
    → sights_from n (bs ++ cs) ≡ sights_from n bs ++ sights_from (n + length bs) cs
sights_append n [] cs = ap (λ (k : ℕ). sights_from k cs) (omega arith)
sights_append n (b ∷ bs) cs =
    ap (λ rs. sight_in n b ++ rs) (sights_append (suc n) bs cs
    ∙ ap (λ (k : ℕ). sights_from (suc n) bs ++ sights_from k cs) (omega arith))
    ∙ sym (append_assoc (sight_in n b) (sights_from (suc n) bs)
    (sights_from (n + suc (length bs)) cs))

-- The readings of a file are those of its blocks in order.
pub sights_in_order : (h : History) → sights_of h ≡ sights_from 1 (reverse h)
sights_in_order [] = refl
sights_in_order (b ∷ past) =
    ap (λ rs. rs ++ sight_in (length past + 1) b) (sights_in_order past)
    ∙ ap (λ rs. sights_from 1 (reverse past) ++ rs) (sym (append-nil (sight_in (length past + 1) b))
    ∙ ap (λ (k : ℕ). sight_in k b ++ [])
    (let l = length-reverse past in omega (arith, l)))
    ∙ sym (sights_append 1 (reverse past) (b ∷ []))
    ∙ ap (λ (bs : List GsiBlock). sights_from 1 bs) (sym (reverse-append (b ∷ []) past))

-- A block without a code, which has a face where it is a reading.
pub record IsClean (b : GsiBlock) : Type 0 where
  pub plain : is_opening b ≡ false
  pub faced : has_direction b ≡ true → (is_of_face One b || is_of_face Two b) ≡ true

-- such blocks have no code
pub no_codes : (bs : List GsiBlock) → AllByRecursion IsClean bs → HaveNoCode bs
no_codes [] clean = tt
no_codes (b ∷ bs) clean = (clean.0.plain, no_codes bs clean.1)

-- whether the face is face II
abbrev is_two : Face → Bool
is_two One = false
is_two Two = true

one_of_two : (b : GsiBlock) → (is_of_face One b || is_of_face Two b) ≡ true
    → is_of_face One b ≡ not (is_of_face Two b)
one_of_two b e = elim (cases_Bool (is_of_face One b)) [
  | inl h ↦
      let f : face b ≡ One = face_of One b h in
      elim (cases_Bool (is_of_face Two b)) [
        | inl t ↦ let g : Two ≡ One = sym (face_of Two b t) ∙ f in cc
        | inr t ↦ rw (h, t) refl
      ]
  | inr h ↦ elim (or_cases (is_of_face One b) (is_of_face Two b) e) [
    | inl t ↦ absurd (false≢true (sym h ∙ t))
    | inr t ↦ rw (h, t) refl
  ]
]

same_face : (f : Face) (b : GsiBlock) → (is_of_face One b || is_of_face Two b) ≡ true
    → is_of_face f b ≡ is_same_face (is_two f) (is_of_face Two b)
same_face One b e = one_of_two b e
same_face Two b e = refl

-- The readings of a target and face are as many among blocks as among their readings.
same_count : (name : List ℕ) (f : Face) (n : ℕ) (bs : List GsiBlock) → AllByRecursion IsClean bs
    → length (filter (reads_target name f) bs)
    ≡ length (readings_in name (is_two f) (sights_from n bs))
same_count name f n [] clean = refl
same_count name f n (b ∷ bs) clean = elim (cases_Bool (has_direction b)) [
  | inr h ↦ rw h (same_count name f (suc n) bs clean.1)
  | inl h ↦ rw (h, same_face f b (clean.0.faced h))
      (counted (bytes_eq (target b) name && is_same_face (is_two f) (is_of_face Two b))
      (same_count name f (suc n) bs clean.1))
] where
  counted : (t : Bool) → length (filter (reads_target name f) bs)
      ≡ length (readings_in name (is_two f) (sights_from (suc n) bs))
      → length (cond t (b ∷ filter (reads_target name f) bs) (filter (reads_target name f) bs))
      ≡ length (cond t (record {
        block = n;
        wide = b.width == 16;
        target = target b;
        second = is_of_face Two b;
        angles = angles b;
      } ∷ readings_in name (is_two f) (sights_from (suc n) bs))
      (readings_in name (is_two f) (sights_from (suc n) bs)))
  counted true e = ap (λ (k : ℕ). suc k) e
  counted false e = e

-- a reading of this target
record Seen (name : List ℕ) (rs : List Sight) : Type 0 where
  pub sight : Sight
  pub among : In sight rs
  pub of : sight.target ≡ name

seen_later : (name : List ℕ) (first rs : List Sight) → Seen name rs → Seen name (first ++ rs)
seen_later name [] rs s = s
seen_later name (r ∷ first) rs s = let t = seen_later name first rs s in
    record { sight = t.sight; among = inr t.among; of = t.of }

seen : (b : GsiBlock) (n : ℕ) (bs : List GsiBlock) → In b bs → has_direction b ≡ true
    → Seen (target b) (sights_from n bs)
seen b n [] among sees = absurd among
seen b n (c ∷ bs) (inl e) sees =
    let r : Sight = record {
      block = n;
      wide = c.width == 16;
      target = target c;
      second = is_of_face Two c;
      angles = angles c;
    } in
    let one : sight_in n c ≡ r ∷ [] = rw (ap has_direction (sym e) ∙ sees) refl in
    subst (λ (rs : List Sight). Seen (target b) (rs ++ sights_from (suc n) bs)) (sym one)
    (record { sight = r; among = inl refl; of = ap target (sym e) })
seen b n (c ∷ bs) (inr later) sees =
    seen_later (target b) (sight_in n c) (sights_from (suc n) bs) (seen b (suc n) bs later sees)

some_block : (n : ℕ) (bs : List GsiBlock) → 0 < length (sights_from n bs)
    → list_any has_direction bs ≡ true
some_block n [] lt = absurd (omega arith)
some_block n (b ∷ bs) lt = elim (cases_Bool (has_direction b)) [
  | inl h ↦ rw h refl
  | inr h ↦ rw h (some_block (suc n) bs (rw h at lt))
]

-- Blocks whose readings read each of their targets once in each face hold whole pairs.
pub whole_pairs : (n : ℕ) (bs : List GsiBlock) → AllByRecursion IsClean bs
    → ReadsEachOnce (sights_from n bs) → HasWholePairs bs
whole_pairs n bs clean reads = record {
  some = some_block n bs (let m = reads.many in omega arith);
  faced = λ b inside sees. (all_in IsClean b bs clean (in_contains b bs inside)).faced sees;
  pairs = λ b f inside sees.
      let s = seen b n bs (in_contains b bs inside) sees in
      ap (λ (name : List ℕ). length (filter (reads_target name f) bs)) (sym s.of)
      ∙ same_count s.sight.target f n bs clean
      ∙ reads.once s.sight (is_two f) (contains_in s.sight (sights_from n bs) s.among);
}

-- What is told of each reading of blocks is told of each of their readings.
pub told_of_blocks : (f : Option Found) (n : ℕ) (bs : List GsiBlock)
    → for_readings f bs ≡ for_each f (sights_from n bs)
told_of_blocks f n [] = refl
told_of_blocks f n (b ∷ bs) = elim (cases_Bool (has_direction b)) [
  | inl h ↦ rw h (ap (λ fs. f ∷ fs) (told_of_blocks f (suc n) bs))
  | inr h ↦ rw h (told_of_blocks f (suc n) bs)
]
