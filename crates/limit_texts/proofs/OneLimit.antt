-- A text states one limit at most.
use Rattle.std.proofs.Common.{◌≡◌, ◌∙◌, ℕ, ◌*◌, ◌<◌, List, [], ◌∷◌, ◌++◌, Bool, true, false, arith}
use Rattle.std.proofs.Common.{ap, codes, cond, drop, inl, inr, pos, refl, sym}
use Rattle.std.specs.Prelude.{◌/◌}
use Rattle.std.specs.Str.Parse.{AllDigits, IsNumeral, without_leading_sign}
use Rattle.std.proofs.lemmas.List.{append_cancel_right}
use Rattle.limit_texts.specs.Limits.{StatesLimit, StatesMgon, StatesUnits, thousandths_in}
use Rattle.limit_texts.specs.Limits.{thousandths_value}
use Rattle.limit_texts.specs.declared.limit.LimitUnit.{LimitUnit}
use Rattle.limit_texts.specs.declared.limit.LimitUnit.TheVariants.{Hundredth, HalfUnit, Thousandth}
use Rattle.limit_texts.proofs.Quotients.{is-quotient, stated-thousandths}

-- What ends in `mgon` isn't all digits.
no-digits : (number : List ℕ) → AllDigits 10 (number ++ codes "mgon") → ⊥
no-digits [] h = omega (arith, h.0)
no-digits (c ∷ cs) h = no-digits cs h.1

-- Nor is it where a sign before it is left out.
no-signed : (minus plus : Bool) (c : ℕ) (rest : List ℕ) → (AllDigits 10 rest → ⊥)
    → AllDigits 10 (cond minus rest (drop (cond plus 1 0) (c ∷ rest))) → ⊥
no-signed true plus c rest never h = never h
no-signed false true c rest never h = never h
no-signed false false c rest never h = never h.1

no-numeral : (number : List ℕ) → IsNumeral 10 (without_leading_sign (number ++ codes "mgon")) → ⊥
no-numeral [] h = omega (arith, h.1.0)
no-numeral (c ∷ cs) h = no-signed _ _ c (cs ++ codes "mgon") (no-digits cs) h.1

-- No text states a limit in both forms.
never-both : (unit : ℕ) (text : List ℕ) (a b : ℕ) → StatesMgon unit text a → StatesUnits text b → ⊥
never-both unit text a b s u =
    no-numeral s.number (rw s.text_is at u.digits)

is-some : (unit : LimitUnit) → 0 < thousandths_in unit
is-some Hundredth = omega arith
is-some HalfUnit = omega arith
is-some Thousandth = omega arith

one-mgon : (unit : ℕ) (text : List ℕ) (a b : ℕ) → 0 < unit → StatesMgon unit text a
    → StatesMgon unit text b → a ≡ b
one-mgon unit text a b some s t =
    let t-of-s = stated-thousandths unit text s.number (thousandths_value s.number) b s.text_is refl
    t in
    sym (is-quotient unit (thousandths_value s.number) a some s.value)
    ∙ is-quotient unit (thousandths_value s.number) b some t-of-s

one-unit : (text : List ℕ) (a b : ℕ) → StatesUnits text a → StatesUnits text b → a ≡ b
one-unit text a b s t = let same : pos a ≡ pos b = sym s.value ∙ t.value in cc

-- A text states one limit at most.
pub one-limit : (unit : LimitUnit) (text : List ℕ) (a b : ℕ) → StatesLimit unit text a
    → StatesLimit unit text b → a ≡ b
one-limit unit text a b s t =
    elim s [
      | inl s ↦ elim t [
        | inl t ↦ one-mgon (thousandths_in unit) text a b (is-some unit) s t
        | inr u ↦ absurd (never-both (thousandths_in unit) text a b s u)
      ]
      | inr u ↦ elim t [
        | inl t ↦ absurd (never-both (thousandths_in unit) text b a t u)
        | inr v ↦ one-unit text a b u v
      ]
    ]
