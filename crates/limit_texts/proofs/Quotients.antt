-- A number of mgon as a whole number of units.
use Rattle.std.proofs.Common.{◌≡◌, ◌∙◌, ℕ, ◌*◌, ◌<◌, List, ◌++◌, ap, arith, codes, sym}
use Rattle.std.specs.Prelude.{◌/◌, ◌%◌}
use Rattle.std.proofs.Math.Nat.{mul-div_cancel, mul-mod_left}
use Rattle.std.proofs.lemmas.List.{append_cancel_right}
use Rattle.std.proofs.lemmas.Nat.{div-add-mod'}
use Rattle.limit_texts.specs.Limits.{StatesMgon, thousandths_value}

-- The number before `mgon` is one.
pub same-number : (unit : ℕ) (text number : List ℕ) (limit : ℕ) → text ≡ number ++ codes "mgon"
    → (s : StatesMgon unit text limit) → number ≡ s.number
same-number unit text number limit is s =
    append_cancel_right number s.number (codes "mgon") (sym is ∙ s.text_is)

-- So are the thousandths that it writes.
pub stated-thousandths : (unit : ℕ) (text number : List ℕ) (thousandths limit : ℕ)
    → text ≡ number ++ codes "mgon" → thousandths ≡ thousandths_value number
    → StatesMgon unit text limit → thousandths ≡ limit * unit
stated-thousandths unit text number thousandths limit is value s =
    value ∙ ap thousandths_value (same-number unit text number limit is s) ∙ s.value

-- A whole number of units leaves nothing over.
pub nothing-over : (unit thousandths limit : ℕ) → thousandths ≡ limit * unit
    → thousandths % unit ≡ 0
nothing-over unit thousandths limit is = ap (λ n. n % unit) is ∙ mul-mod_left limit unit

-- It is the quotient.
pub is-quotient : (unit thousandths limit : ℕ) → 0 < unit → thousandths ≡ limit * unit
    → thousandths / unit ≡ limit
is-quotient unit thousandths limit some is = ap (λ n. n / unit) is ∙ mul-div_cancel limit some

-- Where nothing is left over, the quotient of units is all.
pub whole-quotient : (unit thousandths : ℕ) → thousandths % unit ≡ 0
    → thousandths ≡ thousandths / unit * unit
whole-quotient unit thousandths none = omega (arith, div-add-mod' thousandths unit, none)
