-- A direction that is written plainly is read as what it writes, and has nothing loose.
use Rattle.std.proofs.Common.{◌≡◌, ◌∙◌, ℕ, suc, ◌+◌, ◌-◌, ◌*◌, ◌≤◌, ◌==◌, Bool, true, false, List}
use Rattle.std.proofs.Common.{[], ◌∷◌, ◌++◌, length, get_or, refl, ap, sym, arith, ℤ, inl, inr}
use Rattle.std.specs.Prelude.{not, nat_le}
use Rattle.std.specs.Char.{is_ascii_digit, is_ascii_whitespace}
use Rattle.std.specs.Int.{IsInRange}
use Rattle.std.specs.List.{list_all, list_any, position_or_len, suffix_len}
use Rattle.std.proofs.Math.Seq.{drop-append_seam, take-append_seam}
use Rattle.std.proofs.lemmas.Bool.{and_parts, cases_lt, le-leb, le-ltb, lt-ltb, ne_eqb}
use Rattle.std.proofs.lemmas.Bool.Decides.{nat_tests}
use Rattle.std.proofs.lemmas.List.{drop_all, take_all}
use Rattle.std.proofs.lemmas.List.Folds.{list_all-append}
use Rattle.std.proofs.lemmas.List.Sums.{AllPass-from_list_all, prefix_len-le-length}
use Rattle.std.proofs.lemmas.List.Sums.{suffix_len-take_no}
use Rattle.direction_table.specs.FieldForms.{without_blanks, without_blanks_before}
use Rattle.direction_table.specs.Directions.{direction_value, is_direction, is_on_circle}
use Rattle.direction_table.specs.DecimalNumbers.{after_first, is_mark, mark_of}
use Rattle.direction_table.specs.Gons.{is_letter, is_negative, size_value, unsigned}
use Rattle.direction_table.specs.PlainTables.{IsPlainDirection, after_point, plain_sign}
use Rattle.direction_table.specs.PlainTables.{plain_size}
use Rattle.direction_table.proofs.Sizes.{Parts, decimals-is, whole-is}
use Rattle.direction_table.specs.declared.unit.AngleUnit.TheVariants.{Gon}

-- What no digit is: a mark, a sign.
pub digit-range : (c : ℕ) → is_ascii_digit c ≡ true → IsInRange 48 57 c
digit-range c e = grind (arith, nat_tests)

no-mark : (c : ℕ) → is_ascii_digit c ≡ true → is_mark c ≡ false
no-mark c e = grind (arith, nat_tests)

no-sign : (c : ℕ) → is_ascii_digit c ≡ true → ((c == 45) ≡ false) × ((c == 43) ≡ false)
no-sign c e = grind (arith, nat_tests)

-- The place of the mark of a number is what stands before it.
mark-is : (bytes : List ℕ) → mark_of bytes ≡ position_or_len (λ b. is_mark b) bytes
mark-is bytes = elim (cases_lt (position_or_len (λ b. is_mark b) bytes) (length bytes)) [
  | inl inside ↦ rw (lt-ltb _ _ inside) refl
  | inr past ↦
      let within = prefix_len-le-length (λ b. not (is_mark b)) bytes in
      rw (le-ltb _ _ past) (omega (arith, past, within))
]

at-mark : (front decimals : List ℕ) → list_all is_ascii_digit front ≡ true
    → position_or_len (λ b. is_mark b) (front ++ after_point decimals) ≡ length front
at-mark [] [] e = refl
at-mark [] (d ∷ ds) e = refl
at-mark (c ∷ cs) decimals e =
    let p = and_parts _ _ e in
    rw (no-mark c p.0, at-mark cs decimals p.1) (omega arith)

-- No letter is in digits with a point or without.
no-letter : (c : ℕ) → is_ascii_digit c ≡ true → is_letter c ≡ false
no-letter c e = grind (arith, nat_tests)

no-letters : (digits : List ℕ) → list_all is_ascii_digit digits ≡ true
    → list_any (λ b. is_letter b) digits ≡ false
no-letters [] e = refl
no-letters (c ∷ cs) e =
    let p = and_parts _ _ e in
    rw (no-letter c p.0) (no-letters cs p.1)

no-exponent : (front decimals : List ℕ) → list_all is_ascii_digit front ≡ true
    → list_all is_ascii_digit decimals ≡ true
    → list_any (λ b. is_letter b) (front ++ after_point decimals) ≡ false
no-exponent [] [] e f = refl
no-exponent [] (d ∷ ds) e f = no-letters (d ∷ ds) f
no-exponent (c ∷ cs) decimals e f =
    let p = and_parts _ _ e in
    rw (no-letter c p.0) (no-exponent cs decimals p.1 f)

after-is : (decimals : List ℕ) → decimals ≡ after_first (after_point decimals)
after-is [] = refl
after-is (d ∷ ds) = refl

-- What stands without the sign, and the sign.
signed-text : (negative : Bool) (front tail : List ℕ) → list_all is_ascii_digit front ≡ true
    → 1 ≤ length front → (unsigned (plain_sign negative ++ (front ++ tail)) ≡ front ++ tail)
    × (is_negative (plain_sign negative ++ (front ++ tail)) ≡ negative)
signed-text true front tail e some = (refl, refl)
signed-text false [] tail e some = absurd (omega (arith, some))
signed-text false (c ∷ cs) tail e some =
    let none = no-sign c (and_parts _ _ e).0 in
    rw (none.0, none.1) (refl, refl)

module _ (field : List ℕ) (direction : ℤ) (p : IsPlainDirection field direction) where
  abbrev bare : List ℕ
  bare = p.whole ++ after_point p.decimals

  mine : Parts bare p.whole (after_point p.decimals) p.decimals (length p.whole)
  mine = record {
    mark = sym (mark-is bare ∙ at-mark p.whole p.decimals p.whole_digits);
    before = sym (take-append_seam p.whole (after_point p.decimals));
    after = sym (drop-append_seam p.whole (after_point p.decimals));
    rest = after-is p.decimals;
  }

  is-unsigned : unsigned field ≡ bare
  is-unsigned = ap unsigned p.spelled
      ∙ (signed-text p.negative p.whole (after_point p.decimals) p.whole_digits p.some).0

  sign-is : is_negative field ≡ p.negative
  sign-is = ap is_negative p.spelled
      ∙ (signed-text p.negative p.whole (after_point p.decimals) p.whole_digits p.some).1

  size-is : size_value (unsigned field) ≡ plain_size p.whole p.decimals
  size-is = rw (
    is-unsigned,
    no-exponent p.whole p.decimals p.whole_digits p.decimal_digits,
    whole-is bare _ _ _ _ mine,
    decimals-is bare _ _ _ _ mine,
    take_all 9 p.decimals p.few,
  ) (omega arith)

  -- It has the form of a direction.
  pub plain-form : is_direction Gon field ≡ true
  plain-form = rw (
    is-unsigned,
    no-exponent p.whole p.decimals p.whole_digits p.decimal_digits,
    whole-is bare _ _ _ _ mine,
    decimals-is bare _ _ _ _ mine,
    le-leb 1 (length p.whole + length p.decimals) (omega (arith, p.some)),
    le-leb (length p.whole) 3 p.short,
    p.whole_digits,
    take_all 9 p.decimals p.few,
    drop_all 9 p.decimals p.few,
    p.decimal_digits,
  ) refl

  -- It is on the circle.
  pub plain-range : is_on_circle Gon field ≡ true
  plain-range = rw size-is (le-leb (81 * plain_size p.whole p.decimals) 32400000000000
      (omega (arith, p.below)))

  -- It is read as what it writes.
  pub plain-value : direction_value Gon field ≡ direction
  plain-value = rw (
    sign-is,
    size-is,
    ne_eqb (81 * plain_size p.whole p.decimals) 32400000000000
        (λ q. absurd (omega (arith, p.below, q))),
  ) (sym p.value)

-- Bytes from the minus on are no white space.
abbrev pub is_dark : ℕ → Bool
is_dark c = nat_le 45 c

dark-digits : (digits : List ℕ) → list_all is_ascii_digit digits ≡ true
    → list_all is_dark digits ≡ true
dark-digits [] e = refl
dark-digits (c ∷ cs) e =
    let p = and_parts _ _ e in
    let r = digit-range c p.0 in
    rw (le-leb 45 c (omega (arith, r))) (dark-digits cs p.1)

dark-after : (decimals : List ℕ) → list_all is_ascii_digit decimals ≡ true
    → list_all is_dark (after_point decimals) ≡ true
dark-after [] e = refl
dark-after (d ∷ ds) e = dark-digits (d ∷ ds) e

dark-sign : (negative : Bool) → list_all is_dark (plain_sign negative) ≡ true
dark-sign true = refl
dark-sign false = refl

dark : (field : List ℕ) (direction : ℤ) → IsPlainDirection field direction
    → list_all is_dark field ≡ true
dark field direction p = rw (
  p.spelled,
  list_all-append is_dark (plain_sign p.negative) (p.whole ++ after_point p.decimals),
  list_all-append is_dark p.whole (after_point p.decimals),
  dark-sign p.negative,
  dark-digits p.whole p.whole_digits,
) (dark-after p.decimals p.decimal_digits)

dark-space : (c : ℕ) → is_dark c ≡ true → is_ascii_whitespace c ≡ false
dark-space c e = grind (arith, nat_tests)

-- So there is none around it.
no-blanks-before : (field : List ℕ) → list_all is_dark field ≡ true
    → without_blanks_before field ≡ field
no-blanks-before [] e = refl
no-blanks-before (c ∷ cs) e = rw (dark-space c (and_parts _ _ e).0) refl

no-suffix : (field : List ℕ) → list_all is_dark field ≡ true
    → suffix_len is_ascii_whitespace field ≡ 0
no-suffix [] e = refl
no-suffix (c ∷ cs) e =
    let field = c ∷ cs in
    let size : length field ≡ suc (length cs) = refl in
    let last = AllPass-from_list_all is_dark field e (length field - 1) 0 (omega (arith, size)) in
    ap (suffix_len is_ascii_whitespace) (sym (take_all (length field) field (omega arith)))
    ∙ suffix_len-take_no is_ascii_whitespace field (length field) 0 (omega (arith, size))
    (omega arith) (dark-space (get_or field (length field - 1) 0) last)

pub no-blanks : (field : List ℕ) (direction : ℤ) → IsPlainDirection field direction
    → without_blanks field ≡ field
no-blanks field direction p =
    let d = dark field direction p in
    rw (no-blanks-before field d, no-suffix field d) (take_all _ field (omega arith))
