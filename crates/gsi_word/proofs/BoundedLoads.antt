-- A load of bytes, and the lanes at which one is outside of its bounds.
use Rattle.std.proofs.Common.{◌≡◌, ◌∙◌, ℕ, zero, suc, ◌+◌, ◌*◌, ◌%◌, ◌^◌, Bool, true, false, cond}
use Rattle.std.proofs.Common.{not, List, [], ◌∷◌, map, length, bit_or, refl, sym, ap, arith, inl}
use Rattle.std.proofs.Common.{inr}
use Rattle.std.specs.Prelude.{nat_le, nat_lt, nat_eq, ◌&&◌}
use Rattle.std.proofs.lemmas.Bool.{cases_lt, lt-ltb, le-ltb, le-leb, lt-leb, ne_eqb}
use Rattle.std.proofs.lemmas.List.{length-map}
use Rattle.std.proofs.lemmas.Simd.{length-zip2, mask_l-mod}
use lib.Lanes.{zip2, mask_l, top}
use Rattle.gsi_word.specs.PlainLines.{are_within}

-- The lane of a byte: its highest bit is set where one of two tests holds.
abbrev pub lanes : List ℕ → List ℕ → List ℕ → List ℕ
lanes lowest highest load = zip2 (λ a b. bit_or a b)
    (zip2 (λ (a b : ℕ). cond (nat_lt a b) 255 0) load lowest)
    (zip2 (λ (a b : ℕ). cond (nat_lt a b) 255 0) highest load)

double : (m : ℕ) → nat_eq (0 + 2 * m) 0 ≡ nat_eq m 0
double zero = refl
double (suc m) = ne_eqb (0 + 2 * suc m) 0 (λ e. absurd (omega (arith, e)))
    ∙ sym (ne_eqb (suc m) 0 (λ e. absurd (omega (arith, e))))

odd : (m : ℕ) → nat_eq (1 + 2 * m) 0 ≡ false
odd m = ne_eqb (1 + 2 * m) 0 (λ e. absurd (omega (arith, e)))

-- No lane is set where the first isn't, and none after it.
one_lane : (below above : Bool) (m : ℕ)
    → nat_eq (cond (top 7 (bit_or (cond below 255 0) (cond above 255 0))) 1 0 + 2 * m) 0
    ≡ ((not below && not above) && nat_eq m 0)
one_lane true true m = odd m
one_lane true false m = odd m
one_lane false true m = odd m
one_lane false false m = double m

test_of_le : (a b : ℕ) → not (nat_lt b a) ≡ nat_le a b
test_of_le a b = elim (cases_lt b a) [
  | inl lt ↦ ap not (lt-ltb b a lt) ∙ sym (lt-leb a b lt)
  | inr le ↦ ap not (le-ltb b a le) ∙ sym (le-leb a b le)
]

no_lane : (lowest highest load : List ℕ) → length lowest ≡ length load
    → length highest ≡ length load → nat_eq (mask_l (map (top 7) (lanes lowest highest load))) 0
    ≡ are_within lowest highest load
no_lane [] highest [] l h = refl
no_lane [] highest (x ∷ load) l h = absurd (omega (arith, l))
no_lane (a ∷ lowest) highest [] l h = absurd (omega (arith, l))
no_lane (a ∷ lowest) [] (x ∷ load) l h = absurd (omega (arith, h))
no_lane (a ∷ lowest) (b ∷ highest) (x ∷ load) l h =
    one_lane (nat_lt x a) (nat_lt b x) (mask_l (map (top 7) (lanes lowest highest load)))
    ∙ ap (λ (t : Bool). (t && not (nat_lt b x))
    && nat_eq (mask_l (map (top 7) (lanes lowest highest load))) 0) (test_of_le a x)
    ∙ ap (λ (t : Bool). (nat_le a x && t)
    && nat_eq (mask_l (map (top 7) (lanes lowest highest load))) 0) (test_of_le x b)
    ∙ ap (λ (t : Bool). (nat_le a x && nat_le x b) && t)
    (no_lane lowest highest load (omega (arith, l)) (omega (arith, h)))

length_lanes : (lowest highest load : List ℕ) → length lowest ≡ length load
    → length highest ≡ length load → length (lanes lowest highest load) ≡ length load
length_lanes lowest highest load l h =
    let test = λ (a b : ℕ). cond (nat_lt a b) 255 0 in
    let below = length-zip2 test load lowest (sym l) in
    let above = length-zip2 test highest load h in
    length-zip2 (λ a b. bit_or a b) (zip2 test load lowest) (zip2 test highest load)
    (below ∙ sym (above ∙ h)) ∙ below

-- The mask is 0 exactly where each byte of the load is within its bounds.
pub none_outside : (lowest highest load : List ℕ) → length load ≡ 16 → length lowest ≡ 16
    → length highest ≡ 16 → nat_eq (mask_l (map (top 7) (lanes lowest highest load)) % 2 ^ 64) 0
    ≡ are_within lowest highest load
none_outside lowest highest load n l h =
    let lo = l ∙ sym n in
    let hi = h ∙ sym n in
    ap (λ (m : ℕ). nat_eq m 0) (mask_l-mod (map (top 7) (lanes lowest highest load)) 64 (omega (
      arith,
      length-map (lanes lowest highest load) (top 7),
      length_lanes lowest highest load lo hi,
      n,
    ))) ∙ no_lane lowest highest load lo hi
