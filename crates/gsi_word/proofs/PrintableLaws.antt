-- Bytes that may stand in a line: the fact and its test.
use Rattle.std.proofs.Common.{◌≡◌, ◌∙◌, sym, subst, refl, ℕ, suc, ◌+◌, ◌≤◌, Bool, true, false, cond}
use Rattle.std.proofs.Common.{not, List, [], ◌∷◌, length, take, drop, take-take, All, Option, Some}
use Rattle.std.proofs.Common.{None, arith}
use Rattle.std.specs.Prelude.{nat_lt, position}
use Rattle.std.specs.List.{list_all, position_or_len}
use Rattle.std.proofs.lemmas.Bool.{false≢true, leb-true, le-leb, ltb-false, and_parts, and_from}
use Rattle.std.proofs.lemmas.List.{take-append-drop}
use Rattle.std.proofs.lemmas.List.Elements.{All-nil, All-cons, All-append, All-take, All-weaker}
use Rattle.std.proofs.lemmas.List.Sums.{AllPass-from_list_all, list_all-from_AllPass}
use Rattle.gsi_word.specs.Words.{IsLineByte}
use Rattle.gsi_word.specs.Layout.{is_printable}

-- A byte that passes the test may stand in a line.
pub printable : (b : ℕ) → is_printable b ≡ true → IsLineByte b
printable b h = let p = and_parts _ _ h in (leb-true _ _ p.0, leb-true _ _ p.1)

true_test : (b : ℕ) → IsLineByte b → is_printable b ≡ true
true_test b h = and_from _ _ (le-leb _ _ h.0) (le-leb _ _ h.1)

-- Bytes that all pass the test may all stand in a line.
pub printable_from_test : (bytes : List ℕ) → list_all is_printable bytes ≡ true
    → All IsLineByte bytes
printable_from_test bytes h = All-weaker (λ b. is_printable b ≡ true) IsLineByte printable bytes
    (AllPass-from_list_all is_printable bytes h)

-- Bytes that may all stand in a line all pass the test.
pub test_from_printable : (bytes : List ℕ) → All IsLineByte bytes
    → list_all is_printable bytes ≡ true
test_from_printable bytes h = list_all-from_AllPass is_printable bytes
    (All-weaker IsLineByte (λ b. is_printable b ≡ true) true_test bytes h)

-- A byte that fails the test may not stand in a line.
pub no_printable : (b : ℕ) → is_printable b ≡ false → ¬ IsLineByte b
no_printable b e h = false≢true (sym e ∙ true_test b h)

-- Where the first n bytes are printable, and those from a place among them or right after, all are.
pub all_of_both : (bytes : List ℕ) (n from : ℕ) → from ≤ n → All IsLineByte (take n bytes)
    → All IsLineByte (drop from bytes) → All IsLineByte bytes
all_of_both bytes n from le front rest =
    let before = subst (All IsLineByte) (take-take from n bytes le)
    (All-take IsLineByte from (take n bytes) front) in
    subst (All IsLineByte) (take-append-drop from bytes)
    (All-append IsLineByte (take from bytes) (drop from bytes) before rest)

-- Whether a byte may not stand in a line.
abbrev pub is_stray : ℕ → Bool
is_stray b = not (is_printable b)

none_past : (bytes : List ℕ) → length bytes ≤ position_or_len is_stray bytes → All IsLineByte bytes
none_past [] le = All-nil IsLineByte
none_past (b ∷ bytes) le = by (is_printable b) refl le (none_past bytes)
  where
    by : (t : Bool) → is_printable b ≡ t → suc (length bytes)
        ≤ cond (not (not t)) (1 + position_or_len is_stray bytes) 0
        → (length bytes ≤ position_or_len is_stray bytes → All IsLineByte bytes)
        → All IsLineByte (b ∷ bytes)
    by true e past later = All-cons IsLineByte b bytes (printable b e)
        (later (omega (arith, past)))
    by false e past later = absurd (omega (arith, past))

not_within : (n m : ℕ) → cond (nat_lt n m) (Some n) None ≡ None → m ≤ n
not_within n m e = by (nat_lt n m) refl e
  where
    by : (t : Bool) → nat_lt n m ≡ t → cond t (Some n) None ≡ None → m ≤ n
    by true within none = absurd (some_none n none)
      where
        some_none : (k : ℕ) → ◌≡◌ {A = Option ℕ} (Some k) None → ⊥
        some_none k e = cc
    by false past none = ltb-false _ _ past

-- Without a first byte that may not stand in a line, all may.
pub no_stray : (bytes : List ℕ) → position is_stray bytes ≡ None → All IsLineByte bytes
no_stray bytes e = none_past bytes (not_within (position_or_len is_stray bytes) (length bytes) e)
