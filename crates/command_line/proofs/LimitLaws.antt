-- What an option states as a limit is one number, or none that may be stated.
use Rattle.std.proofs.Common.{◌≡◌, ◌∙◌, ◌≤◌, ◌<◌, ℕ, List, IfNone, Option, None, Some, arith, codes}
use Rattle.std.proofs.Common.{subst, sym}
use Rattle.clap.specs.declared.parser.matches.Found.{Found}
use Rattle.limit_texts.proofs.OneLimit.{one-limit}
use Rattle.limit_texts.specs.Limits.{StatesLimit}
use Rattle.limit_texts.specs.declared.limit.LimitUnit.{LimitUnit}
use Rattle.limit_texts.specs.declared.limit.LimitUnit.TheVariants.{Hundredth}
use Rattle.station_book.specs.declared.limits.TheConstants.{LARGEST_LIMIT}
use Rattle.command_line.specs.Stated.{IsGiven, LimitIsStated, NoLimitIsStated}
use Rattle.command_line.specs.Stated.{StatesNoLimits}

-- An option has one first value.
same-text : (found : Found) (id text other : List ℕ) → IsGiven found id text
    → IsGiven found id other → text ≡ other
same-text found id text other is that =
    let both : Some text ≡ Some other = sym is ∙ that in cc

-- Where its text states no small limit, neither does the option.
pub not-stated : (found : Found) (id text : List ℕ) (unit : LimitUnit) (bound : ℕ) (r : Option ℕ)
    → IsGiven found id text
    → IfNone r ((limit : ℕ) → StatesLimit unit text limit → bound ≤ limit)
    → IfNone r ((limit : ℕ) → LimitIsStated found id unit limit → bound ≤ limit)
not-stated found id text unit bound (Some limit) given none = tt
not-stated found id text unit bound None given none =
    λ limit s.
    none limit (subst (λ (t : List ℕ). StatesLimit unit t limit)
    (same-text found id s.text text s.given given) s.states)

-- An option states one limit at most.
pub one-stated : (found : Found) (id : List ℕ) (unit : LimitUnit) (a b : ℕ)
    → LimitIsStated found id unit a → LimitIsStated found id unit b → a ≡ b
one-stated found id unit a b s t =
    one-limit unit s.text a b s.states
    (subst (λ (text : List ℕ). StatesLimit unit text b)
    (same-text found id t.text s.text t.given s.given) t.states)

-- A limit that is above the largest is none that may be stated.
pub too-large : (found : Found) (id : List ℕ) (unit : LimitUnit) (limit largest : ℕ)
    → LimitIsStated found id unit limit → largest < limit → NoLimitIsStated found id unit largest
too-large found id unit limit largest stated large =
    λ other s small.
    let same = one-stated found id unit limit other stated s in omega (arith, same, large, small)

-- Nor is one that is beyond all bounds.
pub far-too-large : (found : Found) (id : List ℕ) (unit : LimitUnit) (bound largest : ℕ)
    → largest < bound → ((limit : ℕ) → LimitIsStated found id unit limit → bound ≤ limit)
    → NoLimitIsStated found id unit largest
far-too-large found id unit bound largest large none =
    λ limit s small. let far = none limit s in omega (arith, far, large, small)

-- Two limits of face differences that are no limits together are none that may be stated.
pub no-limits : {A : Type 0} → (found : Found) (two_c two_i : ℕ) (r : Option A)
    → LimitIsStated found (codes "two-c") Hundredth two_c
    → LimitIsStated found (codes "two-i") Hundredth two_i
    → IfNone r ((two_c ≤ LARGEST_LIMIT) × (two_i ≤ LARGEST_LIMIT) → ⊥)
    → IfNone r (StatesNoLimits found)
no-limits found two_c two_i (Some limits) c i none = tt
no-limits found two_c two_i None c i none =
    λ limits states are.
    let same_c = one-stated found (codes "two-c") Hundredth two_c limits.two_c c states.two_c in
    let same_i = one-stated found (codes "two-i") Hundredth two_i limits.two_i i states.two_i in
    none (omega (arith, same_c, are.two_c), omega (arith, same_i, are.two_i))
