-- Loads of lines as most readings are written: what their bytes are, place by place.
use Rattle.std.proofs.Common.{◌≡◌, ◌∙◌, ℕ, zero, suc, ◌+◌, ◌<◌, ◌≤◌, ◌⊎◌, inl, inr, true, List, []}
use Rattle.std.proofs.Common.{◌∷◌, length, get_or, take, drop, All, refl, sym, ap, subst, arith}
use Rattle.std.proofs.Common.{Bool}
use Rattle.std.specs.Prelude.{codes, nat_le, ◌&&◌}
use Rattle.std.specs.Int.{is_in_range}
use Rattle.std.specs.List.{list_all}
use Rattle.std.proofs.lemmas.Bool.{and_parts, and_from, leb-true, le-leb, eqb-true, or_cases}
use Rattle.std.proofs.lemmas.List.{get_or-take, get_or-drop, length-drop, length-take, drop-drop}
use Rattle.std.proofs.lemmas.List.Elements.{All-nil, All-cons, All-from_get_or}
use Rattle.gsi_word.specs.Words.{IsLineByte}
use Rattle.gsi_word.specs.PlainLines.{are_within, load, is_later, is_plain_length, is_direction}
use Rattle.gsi_word.specs.PlainLines.{is_zenith, is_content, is_wide_second, is_wide_direction}
use Rattle.gsi_word.specs.PlainLines.{is_wide_zenith, is_wide_angle}
use Rattle.gsi_word.proofs.PrintableLaws.{all_of_both}

-- The byte at a place lies within the bounds of the place.
pub within_at : (lowest highest bytes : List ℕ) → are_within lowest highest bytes ≡ true → (k : ℕ)
    → k < length lowest → k < length highest → k < length bytes
    → (get_or lowest k 0 ≤ get_or bytes k 0) × (get_or bytes k 0 ≤ get_or highest k 0)
within_at [] highest bytes e k a b c = absurd (omega arith)
within_at (l ∷ lowest) [] bytes e k a b c = absurd (omega arith)
within_at (l ∷ lowest) (h ∷ highest) [] e k a b c = absurd (omega arith)
within_at (l ∷ lowest) (h ∷ highest) (x ∷ bytes) e zero a b c =
    let p = and_parts _ _ (and_parts _ _ e).0 in (leb-true _ _ p.0, leb-true _ _ p.1)
within_at (l ∷ lowest) (h ∷ highest) (x ∷ bytes) e (suc k) a b c =
    within_at lowest highest bytes (and_parts _ _ e).1 k (omega arith) (omega arith) (omega arith)

-- Bytes between printable bounds are printable.
pub within_printable : (lowest highest bytes : List ℕ) → are_within lowest highest bytes ≡ true
    → length bytes ≤ length lowest → length bytes ≤ length highest
    → list_all (λ b. nat_le 32 b) lowest ≡ true → list_all (λ b. nat_le b 126) highest ≡ true
    → All IsLineByte bytes
within_printable lowest highest [] e a b low high = All-nil IsLineByte
within_printable [] highest (x ∷ bytes) e a b low high = absurd (omega arith)
within_printable (l ∷ lowest) [] (x ∷ bytes) e a b low high = absurd (omega arith)
within_printable (l ∷ lowest) (h ∷ highest) (x ∷ bytes) e a b low high =
    let both = and_parts (is_in_range l h x) (are_within lowest highest bytes) e in
    let here = and_parts (nat_le l x) (nat_le x h) both.0 in
    let least = and_parts (nat_le 32 l) (list_all (λ b. nat_le 32 b) lowest) low in
    let most = and_parts (nat_le h 126) (list_all (λ b. nat_le b 126) highest) high in
    let from : 32 ≤ x = omega (arith, leb-true l x here.0, leb-true 32 l least.0) in
    let to : x ≤ 126 = omega (arith, leb-true x h here.1, leb-true h 126 most.0) in
    All-cons IsLineByte x bytes (from, to) (within_printable lowest highest bytes both.1
    (omega (arith, a)) (omega (arith, b)) least.1 most.1)

-- The bytes from a place on, one by one.
pub byte_from : (line : List ℕ) (at k n : ℕ) → n ≡ at + k
    → get_or (drop at line) k 0 ≡ get_or line n 0
byte_from line at k n e = get_or-drop at line k 0 ∙ ap (λ i. get_or line i 0) (omega (arith, e))

-- The bounds of a byte of the load at a place.
abbrev pub IsAt : List ℕ → List ℕ → List ℕ → ℕ → ℕ → Type 0
IsAt lowest highest line at k = (get_or lowest k 0 ≤ get_or line (at + k) 0)
    × (get_or line (at + k) 0 ≤ get_or highest k 0)

pub load_at : (lowest highest line : List ℕ) (at : ℕ) → length lowest ≡ 16 → length highest ≡ 16
    → at + 16 ≤ length line → are_within lowest highest (load at line) ≡ true
    → (k : ℕ) → k < 16 → IsAt lowest highest line at k
load_at lowest highest line at l h room e k lt =
    let p = within_at lowest highest (load at line) e k (omega (arith, l, lt))
    (omega (arith, h, lt))
    (omega (arith, lt, room, length-take 16 (drop at line), length-drop at line)) in
    subst (λ (b : ℕ). (get_or lowest k 0 ≤ b) × (b ≤ get_or highest k 0))
    (get_or-take 16 (drop at line) k 0 lt ∙ byte_from line at k (at + k) refl) p

abbrev pub At : List ℕ → ℕ → ℕ → ℕ → Type 0
At line n low high = (low ≤ get_or line n 0) × (get_or line n 0 ≤ high)

pub moved : (line : List ℕ) (n m low high : ℕ) → n ≡ m → At line n low high → At line m low high
moved line n m low high e h = subst (λ (i : ℕ). At line i low high) e h

-- So many bytes, or one more, a blank.
abbrev pub HasSize : ℕ → List ℕ → Type 0
HasSize n line = (length line ≡ n) ⊎ ((length line ≡ n + 1) × (get_or line n 0 ≡ 32))

pub size_of : (n : ℕ) (line : List ℕ) → is_plain_length n line ≡ true → HasSize n line
size_of n line e = elim (or_cases _ _ e) [
  | inl short ↦ inl (eqb-true _ _ short)
  | inr long ↦ let both = and_parts _ _ long in inr (eqb-true _ _ both.0, eqb-true _ _ both.1)
]

pub at_least : (n : ℕ) (line : List ℕ) → HasSize n line → (n ≤ length line) × (length line ≤ n + 1)
at_least n line size = elim size [
  | inl e ↦ (omega (arith, e), omega (arith, e))
  | inr e ↦ let l = e.0 in (omega (arith, l), omega (arith, l))
]

pub last_ends : (n : ℕ) (line : List ℕ) → HasSize n line
    → (length line ≡ n) ⊎ (get_or line n 0 ≡ 32)
last_ends n line size = elim size [ inl e ↦ inl e | inr e ↦ inr e.1 ]

pub last_blank : (n : ℕ) (line : List ℕ) → HasSize n line → All IsLineByte (drop n line)
last_blank n line size = All-from_get_or IsLineByte (drop n line) 0 (λ k lt. elim size [
  | inl e ↦ absurd (omega (arith, lt, e, length-drop n line))
  | inr e ↦ let l = e.0 in
      let none : n ≡ n + k = omega (arith, lt, l, length-drop n line) in
      let blank : get_or (drop n line) k 0 ≡ 32 = byte_from line n k n none ∙ e.1 in
      subst IsLineByte (sym blank) (omega arith, omega arith)
])

-- Bytes are printable where those of a load are, and those from a place in it or after it on.
pub loaded : (lowest highest bytes : List ℕ) (from : ℕ) → from ≤ 16 → length lowest ≡ 16
    → length highest ≡ 16 → list_all (λ b. nat_le 32 b) lowest ≡ true
    → list_all (λ b. nat_le b 126) highest ≡ true → are_within lowest highest (take 16 bytes) ≡ true
    → All IsLineByte (drop from bytes) → All IsLineByte bytes
loaded lowest highest bytes from le l h low high e rest =
    let short = length-take 16 bytes in
    all_of_both bytes 16 from le
    (within_printable lowest highest (take 16 bytes) e (omega (arith, l, short))
    (omega (arith, h, short)) low high) rest

pub later_printable : (line : List ℕ) (at next : ℕ) → next ≡ at + 16
    → is_later (load at line) ≡ true
    → All IsLineByte (drop next line) → All IsLineByte (drop at line)
later_printable line at next n e rest =
    loaded (codes " 20!!!!+        ") (codes " 39~~~~+~~~~~~~~") (drop at line) 16 (omega arith)
    refl refl refl refl e
    (subst (All IsLineByte) (ap (λ (i : ℕ). drop i line) (omega (arith, n))
    ∙ sym (drop-drop 16 at line)) rest)

-- Bounds lie within other bounds, place by place.
abbrev pub lie_within : List ℕ → List ℕ → List ℕ → List ℕ → Bool
lie_within [] h l' h' = true
lie_within (a ∷ l) [] l' h' = true
lie_within (a ∷ l) (b ∷ h) [] h' = true
lie_within (a ∷ l) (b ∷ h) (c ∷ l') [] = true
lie_within (a ∷ l) (b ∷ h) (c ∷ l') (d ∷ h') = (nat_le c a && nat_le b d) && lie_within l h l' h'

-- Bytes within the narrower bounds are within the wider ones.
pub wider : (l h l' h' bytes : List ℕ) → length l ≡ length l' → length h ≡ length h'
    → length l ≡ length h → lie_within l h l' h' ≡ true → are_within l h bytes ≡ true
    → are_within l' h' bytes ≡ true
wider [] h [] h' bytes x y z inside e = refl
wider [] h (c ∷ l') h' bytes x y z inside e = absurd (omega (arith, x))
wider (a ∷ l) [] l' h' bytes x y z inside e = absurd (omega (arith, z))
wider (a ∷ l) (b ∷ h) [] h' bytes x y z inside e = absurd (omega (arith, x))
wider (a ∷ l) (b ∷ h) (c ∷ l') [] bytes x y z inside e = absurd (omega (arith, y))
wider (a ∷ l) (b ∷ h) (c ∷ l') (d ∷ h') [] x y z inside e = refl
wider (a ∷ l) (b ∷ h) (c ∷ l') (d ∷ h') (n ∷ bytes) x y z inside e =
    let both = and_parts (nat_le c a && nat_le b d) (lie_within l h l' h') inside in
    let sides = and_parts (nat_le c a) (nat_le b d) both.0 in
    let all = and_parts (is_in_range a b n) (are_within l h bytes) e in
    let here = and_parts (nat_le a n) (nat_le n b) all.0 in
    let from : c ≤ n = omega (arith, leb-true c a sides.0, leb-true a n here.0) in
    let to : n ≤ d = omega (arith, leb-true n b here.1, leb-true b d sides.1) in
    and_from (nat_le c n && nat_le n d) (are_within l' h' bytes)
    (and_from (nat_le c n) (nat_le n d) (le-leb c n from) (le-leb n d to))
    (wider l h l' h' bytes (omega (arith, x)) (omega (arith, y)) (omega (arith, z)) both.1 all.1)

pub direction_is_later : (bytes : List ℕ) → is_direction bytes ≡ true → is_later bytes ≡ true
direction_is_later bytes e = wider (codes " 21!!.2+00000000") (codes " 21~~32+39999999")
    (codes " 20!!!!+        ") (codes " 39~~~~+~~~~~~~~") bytes refl refl refl refl e

pub zenith_is_later : (bytes : List ℕ) → is_zenith bytes ≡ true → is_later bytes ≡ true
zenith_is_later bytes e = wider (codes " 22!!.2+00000000") (codes " 22~~32+39999999")
    (codes " 20!!!!+        ") (codes " 39~~~~+~~~~~~~~") bytes refl refl refl refl e

pub wide_direction_is_second : (bytes : List ℕ) → is_wide_direction bytes ≡ true
    → is_wide_second bytes ≡ true
wide_direction_is_second bytes e = wider (codes "         21!!.2+") (codes "~~~~~~~~ 21~~32+")
    (codes "         20!!!!+") (codes "~~~~~~~~ 39~~~~+") bytes refl refl refl refl e

pub wide_zenith_is_later : (bytes : List ℕ) → is_wide_zenith bytes ≡ true → is_later bytes ≡ true
wide_zenith_is_later bytes e = wider (codes " 22!!.2+00000000") (codes " 22~~32+00000000")
    (codes " 20!!!!+        ") (codes " 39~~~~+~~~~~~~~") bytes refl refl refl refl e

pub wide_angle_is_content : (bytes : List ℕ) → is_wide_angle bytes ≡ true
    → is_content bytes ≡ true
wide_angle_is_content bytes e = wider (codes "0000000000000000") (codes "0000000039999999")
    (codes "                ") (codes "~~~~~~~~~~~~~~~~") bytes refl refl refl refl e
