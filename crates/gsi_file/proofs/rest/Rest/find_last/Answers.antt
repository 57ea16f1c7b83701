use Rattle.std.proofs.Common.{◌≤◌, ◌<◌, ◌-◌, ◌∙◌, Bool, List, ℕ, length, take, sym, ap, subst}
use Rattle.std.proofs.Common.{arith}
use Rattle.std.proofs.lemmas.List.{take_all}
use Rattle.gsi_file.specs.declared.bounds.TheConstants.{LONGEST_FILE}
use Rattle.gsi_file.specs.Parts.{HasNoEnd}
use Rattle.gsi_file.specs.FileAnswers.{answers_within}
use Rattle.gsi_file.proofs.FirstBytes.{answers_failed}
use Rattle.gsi_file.proofs.MemoryParts.{broken, same_left, blank_passed}
use Rattle.gsi_file.proofs.rest.Rest.find_last.Goals as goal
use Rattle.gsi_file.proofs.rest.Rest.find_last.Goals.{
  then-self-gt-LONGEST_LINE-via-then-self-gt-LONGEST_LINE,
}
use Rattle.gsi_file.proofs.rest.Rest.find_last.Goals.{
  then-self-gt-LONGEST_LINE-via-else-self-gt-LONGEST_LINE+then-self-left,
}

pub returns-then-self-gt-LONGEST_LINE : goal.returns-then-self-gt-LONGEST_LINE
returns-then-self-gt-LONGEST_LINE c =
    let self = c.args.self.now in
    let left = LONGEST_FILE - self.place in
    let rest = self.bytes.now in
    let n = length rest in
    let plain : HasNoEnd (take n rest) = subst (λ (l : List ℕ). HasNoEnd l)
    (sym (take_all n rest (omega arith))) c.requires in
    let more : (1024 < left → 1024 < n) × (left ≤ 1024 → left < n) =
    elim c.then-self-gt-LONGEST_LINE.branch [
      | then-self-gt-LONGEST_LINE-via-then-self-gt-LONGEST_LINE w ↦
          let lt = w.if-self-gt-LONGEST_LINE.true in
          (λ long. omega (arith, lt, long), λ short. omega (arith, lt, short))
      | then-self-gt-LONGEST_LINE-via-else-self-gt-LONGEST_LINE+then-self-left w ↦
          let lt = w.if-self-left.true in
          (λ long. omega (arith, lt, long), λ short. omega (arith, lt, short))
    ] in (
      same_left self,
      broken left n rest self.fails c.broken_limit.result plain (omega arith)
          (λ short. let lt = more.1 short in omega (arith, lt)) more.0 more.1
          c.broken_limit.ensures.file c.broken_limit.ensures.line,
    )

pub returns-then-self : goal.returns-then-self
returns-then-self c =
    let self = c.args.self.now in
    let left = LONGEST_FILE - self.place in (
      same_left self,
      ap (λ (fails : Bool). answers_within left self.bytes.now fails) c.if-self.true
          ∙ answers_failed left self.bytes.now c.requires c.if-self-gt-LONGEST_LINE.false
          c.if-self-left.false,
    )

pub returns-else-is_line : goal.returns-else-is_line
returns-else-is_line c =
    let self = c.args.self.now in
    let passed = c.pass_last-part.ensures in (
      blank_passed self self c.pass_last-part.new.self c.pass_last-part.result (same_left self)
          passed.passes (sym c.is_line.ensures ∙ c.if-is_line.false),
      (passed.answers, passed.places),
    )
