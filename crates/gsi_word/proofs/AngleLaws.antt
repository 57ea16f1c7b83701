-- The tests of an angle, one after another, find the angle of a word exactly where it has one.
use Rattle.std.proofs.Common.{◌≡◌, ℕ, ◌≤◌, Bool, true, false, not, leb, List, Option, Some, None}
use Rattle.std.proofs.Common.{Result, Ok, Err, ◌↔◌, refl, sym, ap, ◌∙◌}
use Rattle.std.specs.Prelude.{if◌then◌else◌, slice_index}
use Rattle.std.specs.Char.{is_ascii_digit}
use Rattle.std.specs.List.{list_all, AllPass}
use Rattle.std.proofs.lemmas.Bool.{leb-true, le-leb}
use Rattle.std.proofs.lemmas.List.Sums.{AllPass-from_list_all, list_all-from_AllPass}
use Rattle.gsi_word.specs.Words.{GsiWord}
use Rattle.gsi_word.specs.Angles.{decimal_value, decimal_number, is_gon, is_input_mode}
use Rattle.gsi_word.specs.declared.angle.TheConstants.{LAST_UNIT}
use Rattle.gsi_word.specs.Angles.{angle_within_turn, angle_of, IsAngle}
use Rattle.gsi_word.specs.declared.angle.AngleFault.{AngleFault}
use Rattle.gsi_word.specs.declared.angle.AngleFault.TheVariants.{Unit as WrongUnit, InputMode, Sign}
use Rattle.gsi_word.specs.declared.angle.AngleFault.TheVariants.{Digits, Range}

err_ok : (fault : AngleFault) (n : ℕ) → ◌≡◌ {A = Result ℕ AngleFault} (Err fault) (Ok n) → ⊥
err_ok fault n e = cc

none_some : (n : ℕ) → ◌≡◌ {A = Option ℕ} None (Some n) → ⊥
none_some n e = cc

-- The three tests before the number.
abbrev chain : Bool → Bool → Bool → Result ℕ AngleFault → Result ℕ AngleFault
chain gon mode negative number = if not gon then Err WrongUnit
    else (if not mode then Err InputMode else (if negative then Err Sign else number))

record Passed (gon mode negative : Bool) (number : Result ℕ AngleFault) (n : ℕ) : Type 0 where
  pub gon_passed : gon ≡ true
  pub mode_passed : mode ≡ true
  pub sign_passed : negative ≡ false
  pub number_is : number ≡ Ok n

passed : (gon mode negative : Bool) (number : Result ℕ AngleFault) (n : ℕ)
    → chain gon mode negative number ≡ Ok n → Passed gon mode negative number n
passed false mode negative number n e = absurd (err_ok WrongUnit n e)
passed true false negative number n e = absurd (err_ok InputMode n e)
passed true true true number n e = absurd (err_ok Sign n e)
passed true true false number n e = record {
  gon_passed = refl;
  mode_passed = refl;
  sign_passed = refl;
  number_is = e;
}

same_number : (m n : ℕ) → ◌≡◌ {A = Result ℕ AngleFault} (Ok m) (Ok n) → m ≡ n
same_number m n e = cc

within_cases : (m n : ℕ) (t : Bool) → leb m LAST_UNIT ≡ t → (if t then Ok m else Err Range) ≡ Ok n
    → (m ≡ n) × (n ≤ LAST_UNIT)
within_cases m n true test e = let same : m ≡ n = same_number m n e in
    (same, leb-true _ _ (ap (λ (k : ℕ). leb k LAST_UNIT) (sym same) ∙ test))
within_cases m n false test e = absurd (err_ok Range n e)

within : (d : Option ℕ) (n : ℕ) → angle_within_turn d ≡ Ok n → (d ≡ Some n) × (n ≤ LAST_UNIT)
within None n e = absurd (err_ok Digits n e)
within (Some m) n e = let p = within_cases m n (leb m LAST_UNIT) refl e in (ap Some p.0, p.1)

same_some : (m n : ℕ) → ◌≡◌ {A = Option ℕ} (Some m) (Some n) → m ≡ n
same_some m n e = cc

digits_cases : (bytes : List ℕ) (n : ℕ) (t : Bool) → list_all is_ascii_digit bytes ≡ t
    → (if t then Some (decimal_value bytes) else None) ≡ Some n → AllPass is_ascii_digit bytes
    × (n ≡ decimal_value bytes)
digits_cases bytes n true test e = (
  AllPass-from_list_all is_ascii_digit bytes test,
  sym (same_some _ n e),
)
digits_cases bytes n false test e = absurd (none_some n e)

angle_found : (w : GsiWord) (units : ℕ) → angle_of w ≡ Ok units → IsAngle w units
angle_found w units e =
    let p = passed (is_gon (slice_index w.info 3)) (is_input_mode (slice_index w.info 2)) w.negative
    (angle_within_turn (decimal_number w.content)) units e in
    let q = within (decimal_number w.content) units p.number_is in
    let r = digits_cases w.content units (list_all is_ascii_digit w.content) refl q.0 in
    record {
      gon = p.gon_passed;
      input_mode = p.mode_passed;
      sign = p.sign_passed;
      digits = r.0;
      value = r.1;
      within_turn = q.1;
    }

angle_is : (w : GsiWord) (units : ℕ) → IsAngle w units → angle_of w ≡ Ok units
angle_is w units h =
    let digits : list_all is_ascii_digit w.content ≡ true =
    list_all-from_AllPass is_ascii_digit w.content h.digits in
    let number : decimal_number w.content ≡ Some units =
    ap (λ (t : Bool). if t then Some (decimal_value w.content) else None) digits
    ∙ ap Some (sym h.value) in
    let turn : angle_within_turn (Some units) ≡ Ok units =
    ap (λ (t : Bool). if t then Ok units else Err Range) (le-leb _ _ h.within_turn) in
    ap (λ (t : Bool). chain t (is_input_mode (slice_index w.info 2)) w.negative
    (angle_within_turn (decimal_number w.content))) h.gon
    ∙ ap (λ (t : Bool). chain true t w.negative (angle_within_turn (decimal_number w.content)))
    h.input_mode
    ∙ ap (λ (t : Bool). chain true true t (angle_within_turn (decimal_number w.content))) h.sign
    ∙ ap angle_within_turn number ∙ turn

-- The tests of an angle give so many units exactly where the word is an angle of so many units.
pub angle_known : (w : GsiWord) (units : ℕ) → (angle_of w ≡ Ok units) ↔ IsAngle w units
angle_known w units = (angle_found w units, angle_is w units)
