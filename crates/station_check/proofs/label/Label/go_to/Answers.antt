use Rattle.std.proofs.Common.{rules, ℕ, ◌≡◌, ◌+◌, ◌++◌, ◌∷◌, [], ap, ◌∙◌, arith}
use Rattle.std.specs.Prelude.{decimal}
use Rattle.station_check.proofs.LabelLaws.{next_label, label_long, label_short}
use Rattle.station_check.proofs.label.Label.go_to.Goals as goal

pub overflow_sub-last : goal.overflow_sub-last
overflow_sub-last c =
    let l = c.self.inside in
    label_long l.bytes l.len l.number (search rules)
    (omega (arith, c.self.invariant.0, c.self.invariant.1)) c.self.invariant.2

pub invariant_of-self : goal.invariant_of-self
invariant_of-self c =
    let l = c.self.inside in
    let next : l.number + 1 ≡ c.args.number = omega arith in (
      c.self.invariant.0,
      search rules,
      next_label l.bytes l.len l.number (search rules)
          (omega (arith, c.self.invariant.0, c.self.invariant.1)) c.self.invariant.2 (search rules)
          ∙ ap (λ (n : ℕ). decimal n ++ 32 ∷ []) next,
    )

pub returns-then-self-last-lt57-clause-text : goal.returns-then-self-last-lt57-clause-text
returns-then-self-last-lt57-clause-text c =
    let l = c.self.inside in
    let next : l.number + 1 ≡ c.args.number = omega arith in
    next_label l.bytes l.len l.number (search rules)
    (omega (arith, c.self.invariant.0, c.self.invariant.1)) c.self.invariant.2 (search rules)
    ∙ ap (λ (n : ℕ). decimal n ++ 32 ∷ []) next

pub returns-then-self-last-lt57-clause-short : goal.returns-then-self-last-lt57-clause-short
returns-then-self-last-lt57-clause-short c =
    let l = c.self.inside in
    let next : l.number + 1 ≡ c.args.number = omega arith in
    label_short _ c.args.number (search rules)
    (next_label l.bytes l.len l.number (search rules)
    (omega (arith, c.self.invariant.0, c.self.invariant.1)) c.self.invariant.2 (search rules)
    ∙ ap (λ (n : ℕ). decimal n ++ 32 ∷ []) next)
