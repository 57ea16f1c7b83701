-- A canonical decimal is the text of its number.
use Rattle.std.proofs.Common.{◌≡◌, ℕ, zero, suc, ◌+◌, ◌*◌, ◌/◌, ◌%◌, ◌^◌, ◌<◌, ◌≤◌, Bool, true}
use Rattle.std.proofs.Common.{false, ◌==◌, List, [], ◌∷◌, ◌++◌, length, take, get_or, refl, ap, sym}
use Rattle.std.proofs.Common.{subst, ◌∙◌, arith, add-one, inl, inr, ℤ, pos, neg_ℤ, FitsSigned}
use Rattle.std.specs.Char.{digit_value, is_ascii_digit}
use Rattle.std.specs.Fmt.{decimal, signed_decimal}
use Rattle.std.specs.Int.{w128}
use Rattle.std.specs.List.{list_all}
use Rattle.std.specs.Str.Parse.{digits_value, signed_digits_value}
use Rattle.std.proofs.lemmas.Bool.{and_parts, cases_Bool, eqb-true, true≢false}
use Rattle.std.proofs.lemmas.Bool.Decides.{nat_tests}
use Rattle.std.proofs.lemmas.Fmt.{decimal_digit, decimal_step_wide}
use Rattle.std.proofs.lemmas.Int.Digits.{digits_value_more}
use Rattle.std.proofs.lemmas.List.{nil_from_length, take_all, take_more}
use Rattle.std.proofs.lemmas.List.Folds.{list_all_at}
use Rattle.std.proofs.lemmas.Str.Parse.{digits_value-take-le}
use Rattle.sheet_format.specs.Numbers.{is_canonical, is_positive}
use Rattle.sheet_format.proofs.CanonicalDecimals.{positive-digits, positive-first}
use Rattle.sheet_format.proofs.WrittenNumbers.{positive-value}

digit-is : (c : ℕ) → is_ascii_digit c ≡ true → (digit_value c + 48 ≡ c) × (digit_value c < 10)
digit-is c e = grind (arith, nat_tests)

digit-at : (ds : List ℕ) (i : ℕ) → list_all is_ascii_digit ds ≡ true → i < length ds
    → is_ascii_digit (get_or ds i 0) ≡ true
digit-at ds i e h = elim (cases_Bool (is_ascii_digit (get_or ds i 0))) [
  | inl good ↦ good
  | inr bad ↦ absurd (true≢false (sym e ∙ list_all_at is_ascii_digit ds i 0 h bad))
]

-- One more digit.
next-written : (v d : ℕ) (front : List ℕ) (c : ℕ) → decimal v ≡ front → 0 < v → d + 48 ≡ c → d < 10
    → v * 10 + d < 10 ^ 64 → (decimal (v * 10 + d) ≡ front ++ (c ∷ [])) × (0 < v * 10 + d)
next-written v d front c text above digit low small =
    let front_of : (v * 10 + d) / 10 ≡ v = omega arith in
    let last_of : 48 + (v * 10 + d) % 10 ≡ c = omega arith in (
      rw (decimal_step_wide (v * 10 + d) (omega arith) small, front_of, last_of, text) refl,
      omega arith,
    )

moved : (x y : ℕ) (a b : List ℕ) → x ≡ y → a ≡ b → (decimal y ≡ b) × (0 < y) → (decimal x ≡ a)
    × (0 < x)
moved x y a b e f h = rw (e, f) h

-- The front of the digits.
front-written : (ds : List ℕ) (n : ℕ) → list_all is_ascii_digit ds ≡ true → 49 ≤ get_or ds 0 0
    → digits_value 10 ds < 10 ^ 64 → suc n ≤ length ds
    → (decimal (digits_value 10 (take (suc n) ds)) ≡ take (suc n) ds)
    × (0 < digits_value 10 (take (suc n) ds))
front-written [] n e first small h = absurd (omega (arith, h))
front-written (c ∷ cs) zero e first small h =
    let d = digit-is c (and_parts _ _ e).0 in
    let one : 0 * 10 + digit_value c ≡ digit_value c = omega arith in
    let same : 48 + digit_value c ≡ c = omega (arith, d.0) in
    rw one (
      decimal_digit (digit_value c) d.1
          ∙ ap (λ (x : ℕ). x ∷ []) same,
      omega (arith, d.0, first),
    )
front-written (c ∷ cs) (suc k) e first small h =
    let ds = c ∷ cs in
    let (text, above) = front-written (c ∷ cs) k e first small (omega (arith, h)) in
    let d = digit-is (get_or ds (suc k) 0) (digit-at ds (suc k) e (omega (arith, h))) in
    let value : digits_value 10 (take (suc (suc k)) ds) ≡ digits_value 10 (take (suc k) ds) * 10
    + digit_value (get_or ds (suc k) 0) =
    rw add-one at (digits_value_more 10 ds (suc k) (omega (arith, h))) in
    let cells : take (suc (suc k)) ds ≡ take (suc k) ds ++ (get_or ds (suc k) 0 ∷ []) =
    rw add-one at (take_more ds (suc k) 0 (omega (arith, h))) in
    let below = digits_value-take-le 10 ds (suc (suc k)) (omega arith) in
    moved _ _ _ _ value cells (next-written (digits_value 10 (take (suc k) ds))
    (digit_value (get_or ds (suc k) 0)) (take (suc k) ds) (get_or ds (suc k) 0) text above d.0
    d.1 (omega (arith, value, below, small)))

-- A digit 1 to 9 and any digits are the text of their number, which is above 0.
positive-written : (ds : List ℕ) → is_positive ds ≡ true → digits_value 10 ds < 10 ^ 64
    → (decimal (digits_value 10 ds) ≡ ds) × (0 < digits_value 10 ds)
positive-written [] e small = cc e
positive-written (c ∷ cs) e small =
    let whole = front-written (c ∷ cs) (length cs) (positive-digits (c ∷ cs) e)
    (positive-first (c ∷ cs) e).0 small (omega arith) in
    let all : take (suc (length cs)) (c ∷ cs) ≡ c ∷ cs =
    take_all (suc (length cs)) (c ∷ cs) (omega arith) in
    subst (λ (ds : List ℕ). (decimal (digits_value 10 ds) ≡ ds) × (0 < digits_value 10 ds)) all
    whole

minus-written : (n : ℕ) (ds : List ℕ) → (decimal n ≡ ds) × (0 < n)
    → signed_decimal (neg_ℤ (pos n)) ≡ 45 ∷ ds
minus-written zero ds h = absurd (omega (arith, h.1))
minus-written (suc m) ds h = ap (λ (t : List ℕ). 45 ∷ t) h.0

minus-small : (n : ℕ) → FitsSigned w128 (neg_ℤ (pos n)) → n < 10 ^ 64
minus-small zero f = omega arith
minus-small (suc m) f = omega (arith, f.sfits)

form-from : (c : ℕ) (cs : List ℕ) (zero_first minus : Bool) → (c == 48) ≡ zero_first
    → (c == 45) ≡ minus → is_canonical (c ∷ cs) ≡ true
    → FitsSigned w128 (signed_digits_value 10 (c ∷ cs))
    → signed_decimal (signed_digits_value 10 (c ∷ cs)) ≡ c ∷ cs
form-from c cs true minus z m e f =
    let none : length cs ≡ 0 = grind (arith, nat_tests) in
    let is48 : c ≡ 48 = eqb-true c 48 z in
    let nil : cs ≡ [] = nil_from_length cs none in
    rw (is48, nil) (decimal_digit 0 (omega arith))
form-from c cs false true z m e f =
    let is45 : c ≡ 45 = eqb-true c 45 m in
    let p : is_positive cs ≡ true = rw (z, m) at e in
    let g : FitsSigned w128 (neg_ℤ (pos (digits_value 10 cs))) = rw is45 at f in
    rw is45 (minus-written (digits_value 10 cs) cs
    (positive-written cs p (minus-small (digits_value 10 cs) g)))
form-from c cs false false z m e f =
    let p : is_positive (c ∷ cs) ≡ true = rw (z, m) at e in
    let value = positive-value (c ∷ cs) p in
    let g : FitsSigned w128 (pos (digits_value 10 (c ∷ cs))) =
    subst (λ (v : ℤ). FitsSigned w128 v) value f in
    ap signed_decimal value ∙ (positive-written (c ∷ cs) p (omega (arith, g.sfits))).0

-- A number's one form is what is written of its value.
pub form-written : (bs : List ℕ) → is_canonical bs ≡ true
    → FitsSigned w128 (signed_digits_value 10 bs) → signed_decimal (signed_digits_value 10 bs) ≡ bs
form-written [] e f = cc e
form-written (c ∷ cs) e f = form-from c cs (c == 48) (c == 45) refl refl e f
