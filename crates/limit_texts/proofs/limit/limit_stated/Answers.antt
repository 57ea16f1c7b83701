use Rattle.std.proofs.Common.{◌≡◌, ◌≤◌, ℕ, List, IfNone, Option, None, Some, inl, inr, subst}
use Rattle.limit_texts.specs.Limits.{StatesLimit, StatesMgon, StatesUnits, thousandths_in}
use Rattle.limit_texts.specs.declared.limit.LimitUnit.{LimitUnit}
use Rattle.limit_texts.proofs.limit.limit_stated.Goals as goal

-- A text that states no limit in units and none in mgon states none.
neither : (unit : LimitUnit) (per : ℕ) (text : List ℕ) (r : Option ℕ) → per ≡ thousandths_in unit
    → ((limit : ℕ) → StatesUnits text limit → 4294967296 ≤ limit)
    → IfNone r ((limit : ℕ) → StatesMgon per text limit → 4294967296 ≤ limit)
    → IfNone r ((limit : ℕ) → StatesLimit unit text limit → 4294967296 ≤ limit)
neither unit per text (Some limit) is no-units no-mgon = tt
neither unit per text None is no-units no-mgon =
    let of-unit = subst (λ (n : ℕ). (limit : ℕ) → StatesMgon n text limit → 4294967296 ≤ limit) is
    no-mgon in
    λ limit states. elim states [
      | inl s ↦ of-unit limit s
      | inr s ↦ no-units limit s
    ]

pub returns-in-None-clause-none : goal.returns-in-None-clause-none
returns-in-None-clause-none c =
    neither c.args.unit c.thousandths.result c.args.text.now c.mgon_stated.result
    c.thousandths.ensures.value c.in-None.ensures.none
    (rw c.as_bytes.ensures.value at c.mgon_stated.ensures.none)
