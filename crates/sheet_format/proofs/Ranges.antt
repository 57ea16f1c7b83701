-- Numbers in their ranges: what the tests say of a field, and that the text of a number in its
-- range passes them.
use Rattle.std.proofs.Common.{◌≡◌, ℕ, ◌<◌, ◌≤◌, ◌^◌, Bool, true, false, T, List, ◌≤ℤ◌, ℤ, pos}
use Rattle.std.proofs.Common.{negsuc, neg_ℤ, FitsSigned, int_le, refl, arith}
use Rattle.std.specs.Fmt.{decimal, signed_decimal}
use Rattle.std.specs.Int.{w128}
use Rattle.std.specs.Int.Signed.{le_z_yes}
use Rattle.std.proofs.lemmas.Bool.{and_from, and_parts, leb-true, le-leb}
use Rattle.std.proofs.lemmas.Float.{T_from_true}
use Rattle.std.proofs.lemmas.Int.{ints}
use Rattle.adjust_kernel.specs.Within.{IsWithin}
use Rattle.adjust_kernel.specs.declared.bounds.TheConstants.{LARGEST_ANGLE, LARGEST_DENOMINATOR}
use Rattle.adjust_kernel.specs.declared.bounds.TheConstants.{LARGEST_TURN}
use Rattle.sheet_format.specs.Numbers.{is_at_most, is_canonical, is_within, natural_of, value_of}
use Rattle.sheet_format.specs.Versions.{largest_angle, largest_denominator}
use Rattle.sheet_format.specs.declared.version.Version.{Version}
use Rattle.sheet_format.specs.declared.version.Version.TheVariants.{One, Two}
use Rattle.sheet_format.proofs.CanonicalDecimals.{between-fits}
use Rattle.sheet_format.proofs.OneForm.{form-written}
use Rattle.sheet_format.proofs.WrittenNumbers.{written}

true_from_T : (b : Bool) → T b → b ≡ true
true_from_T true t = refl
true_from_T false t = absurd t

-- The order of two numbers, as a test and as a fact.
order-found : (a b : ℤ) → int_le a b ≡ true → a ≤ℤ b
order-found a b e = le_z_yes (T_from_true (int_le a b) e)

order-test : (a b : ℤ) → a ≤ℤ b → int_le a b ≡ true
order-test a b h = true_from_T (int_le a b) h.le

-- A number that passes the test of a bound is within it.
pub within-found : (most z : ℤ) → is_at_most most z ≡ true → IsWithin most z
within-found most z e =
    let p = and_parts _ _ e in
    record { low = order-found (neg_ℤ most) z p.0; high = order-found z most p.1 }

-- A number within a bound passes its test.
pub within-test : (most z : ℤ) → IsWithin most z → is_at_most most z ≡ true
within-test most z h = and_from _ _ (order-test (neg_ℤ most) z h.low) (order-test z most h.high)

-- A bound whose numbers have 128 bits.
pub record Fits128 (most : ℤ) : Type 0 where
  pub low : FitsSigned w128 (neg_ℤ most)
  pub high : FitsSigned w128 most

-- The largest angle of a version has 128 bits, either way.
pub angle-fits : (v : Version) → Fits128 (largest_angle v)
angle-fits One = record {
  low = record { sfits = omega arith };
  high = record { sfits = omega arith };
}
angle-fits Two = record {
  low = record { sfits = omega arith };
  high = record { sfits = omega arith };
}

-- So has the largest full turn.
pub turn-fits : Fits128 LARGEST_TURN
turn-fits = record { low = record { sfits = omega arith }; high = record { sfits = omega arith } }

-- A canonical field in a range is the text of its number.
pub number-text : (most : ℤ) (bs : List ℕ) → Fits128 most → is_canonical bs ≡ true
    → is_at_most most (value_of bs) ≡ true → signed_decimal (value_of bs) ≡ bs
number-text most bs f e w =
    let p = and_parts _ _ w in
    form-written bs e (between-fits (neg_ℤ most) most (value_of bs) f.low f.high p.0 p.1)

-- The number of such a field, where it is not below 0.
pub record IsNatural (low high : ℕ) (bs : List ℕ) (n : ℕ) : Type 0 where
  pub text : decimal n ≡ bs
  pub least : low ≤ n
  pub most : n ≤ high

natural-from : (low high : ℕ) (bs : List ℕ) (z : ℤ) → high < 2 ^ 127 → signed_decimal z ≡ bs
    → is_within (pos low) (pos high) z ≡ true → IsNatural low high bs (natural_of z)
natural-from low high bs (pos n) small text w =
    let p = and_parts _ _ w in
    record { text = text; least = leb-true _ _ p.0; most = leb-true _ _ p.1 }
natural-from low high bs (negsuc n) small text w = cc w

-- A canonical field between two numbers that are not below 0 is the text of its number.
pub natural-text : (low high : ℕ) (bs : List ℕ) → low < 2 ^ 127 → high < 2 ^ 127
    → is_canonical bs ≡ true → is_within (pos low) (pos high) (value_of bs) ≡ true
    → IsNatural low high bs (natural_of (value_of bs))
natural-text low high bs small big e w =
    let p = and_parts _ _ w in
    let fits = between-fits (pos low) (pos high) (value_of bs)
    (record { sfits = omega (arith, small) }) (record { sfits = omega (arith, big) }) p.0 p.1 in
    natural-from low high bs (value_of bs) big (form-written bs e fits) w

-- The text of a number in a range is canonical, and its number is that one.
pub record ReadsAs (bs : List ℕ) (z : ℤ) : Type 0 where
  pub form : is_canonical bs ≡ true
  pub value : value_of bs ≡ z

-- The text of a number within a bound is read as that number.
pub number-again : (most z : ℤ) → Fits128 most → is_at_most most z ≡ true
    → ReadsAs (signed_decimal z) z
number-again most z f w =
    let p = and_parts _ _ w in
    let h = written z (between-fits (neg_ℤ most) most z f.low f.high p.0 p.1) in
    record { form = h.0; value = h.1 }

-- So is the text of a number that is not below 0.
pub natural-again : (n : ℕ) → n < 2 ^ 127 → ReadsAs (decimal n) (pos n)
natural-again n small =
    let h = written (pos n) (record { sfits = omega (arith, small) }) in
    record { form = h.0; value = h.1 }

-- A number between two others passes the test of lying between them.
pub natural-within : (low high n : ℕ) → low ≤ n → n ≤ high
    → is_within (pos low) (pos high) (pos n) ≡ true
natural-within low high n a b = and_from _ _ (le-leb _ _ a) (le-leb _ _ b)

-- A denominator that a version allows is one that some sheet may have.
pub denominator-below : (v : Version) (n : ℕ) → n ≤ largest_denominator v → n ≤ LARGEST_DENOMINATOR
denominator-below One n h = omega (arith, h)
denominator-below Two n h = h

-- An angle within the range of a version is within that of any sheet.
pub angle-below : (v : Version) (z : ℤ) → IsWithin (largest_angle v) z → IsWithin LARGEST_ANGLE z
angle-below One z h = record {
  low = omega (arith, ints, h.low);
  high = omega (arith, ints, h.high);
}
angle-below Two z h = h
