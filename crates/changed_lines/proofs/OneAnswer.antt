-- Changes can all be made, or there is a first that can't.
use Rattle.std.proofs.Common.{ℕ, List, [], ◌∷◌, Option, Some, None, inl, inr, arith}
use Rattle.changed_lines.specs.declared.change.Change.{Change}
use Rattle.changed_lines.specs.declared.change.Edit.{Edit}
use Rattle.changed_lines.specs.declared.change.Edit.TheVariants.{Out, Rename}
use Rattle.changed_lines.specs.declared.fault.ChangeFault.{ChangeFault}
use Rattle.changed_lines.specs.declared.fault.ChangeFault.TheVariants.{LineOrder, NoSuchLine}
use Rattle.changed_lines.specs.declared.fault.ChangeFault.TheVariants.{NameTooLong, ZeroBefore}
use Rattle.changed_lines.specs.declared.fault.ChangeFault.TheVariants.{NoPoint, Memory}
use Rattle.changed_lines.specs.Answers.{MayBe, MayNotBe, IsMadeAt, IsFaultAt, AreMade}
use Rattle.changed_lines.specs.Answers.{IsFirstFault, line_at}

not_here : (number : ℕ) (edit : Edit) (line : List ℕ) (fault : ChangeFault) → MayBe edit line
    → MayNotBe number edit line fault → ⊥
not_here number Out line fault may not = not
not_here number (Rename name) line (NameTooLong n) may not =
    let fits = may.0 in
    let long = not.1 in omega (arith, fits, long)
not_here number (Rename name) line (ZeroBefore n) may not = not.2 may.1
not_here number (Rename name) line (NoPoint n) may not = not.3 may.2
not_here number (Rename name) line (LineOrder n) may not = not
not_here number (Rename name) line (NoSuchLine n) may not = not
not_here number (Rename name) line Memory may not = not

not_at : (line : Option (List ℕ)) (c : Change) (fault : ChangeFault) → IsMadeAt line c.edit
    → IsFaultAt line c fault → ⊥
not_at None c fault made is = made
not_at (Some line) c fault made is = not_here c.line c.edit line fault made is

pub not_both : (lines : List (List ℕ)) (before : ℕ) (cs : List Change) (fault : ChangeFault)
    → AreMade lines before cs → IsFirstFault lines before cs fault → ⊥
not_both lines before [] fault made is = is
not_both lines before (c ∷ cs) fault made is = elim is [
  | inl o ↦
      let low = o.0 in
      let high = made.0 in omega (arith, low, high)
  | inr r ↦ elim r [
    | inl f ↦ not_at (line_at lines c.line) c fault made.1 f.1
    | inr m ↦ not_both lines c.line cs fault made.2 m.2
  ]
]
