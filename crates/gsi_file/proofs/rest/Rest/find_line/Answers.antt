use Rattle.std.proofs.Common.{◌≤◌, ◌<◌, ◌-◌, ◌∙◌, sym, arith}
use Rattle.gsi_file.specs.declared.bounds.TheConstants.{LONGEST_FILE}
use Rattle.gsi_file.proofs.MemoryParts.{broken, passes_after, blank_passed, finds_after}
use Rattle.gsi_file.proofs.rest.Rest.find_line.Goals as goal
use Rattle.gsi_file.proofs.rest.Rest.find_line.Goals.{
  then-end-gt-LONGEST_LINE-via-then-end-gt-LONGEST_LINE,
}
use Rattle.gsi_file.proofs.rest.Rest.find_line.Goals.{
  then-end-gt-LONGEST_LINE-via-else-end-gt-LONGEST_LINE+then-end-left,
}

pub returns-then-end-gt-LONGEST_LINE : goal.returns-then-end-gt-LONGEST_LINE
returns-then-end-gt-LONGEST_LINE c =
    let self = c.parts.self in
    let left = LONGEST_FILE - self.place in
    let n = c.in-Some.end.place in
    let first = c.in-Some.ensures.end.0 in
    let inside = first.inside in
    let low : left ≤ 1024 → left ≤ n = λ short. elim c.then-end-gt-LONGEST_LINE.branch [
      | then-end-gt-LONGEST_LINE-via-then-end-gt-LONGEST_LINE w ↦
          let lt = w.if-end-gt-LONGEST_LINE.true in omega (arith, lt, short)
      | then-end-gt-LONGEST_LINE-via-else-end-gt-LONGEST_LINE+then-end-left w ↦
          let le = w.if-end-left.true in omega (arith, le, short)
    ] in
    let high : 1024 < left → 1024 < n = λ long. elim c.then-end-gt-LONGEST_LINE.branch [
      | then-end-gt-LONGEST_LINE-via-then-end-gt-LONGEST_LINE w ↦
          let lt = w.if-end-gt-LONGEST_LINE.true in omega (arith, lt, long)
      | then-end-gt-LONGEST_LINE-via-else-end-gt-LONGEST_LINE+then-end-left w ↦
          let le = w.if-end-left.true in omega (arith, le, long)
    ] in (
      c.parts.invariant,
      broken left n self.bytes.now self.fails c.broken_limit.result first.before
          (omega (arith, inside)) low high
          (λ short. let le = low short in omega (arith, le, inside)) c.broken_limit.ensures.file
          c.broken_limit.ensures.line,
    )

pub returns-then-is_line : goal.returns-then-is_line
returns-then-is_line c = (
  sym c.is_line.ensures ∙ c.if-is_line.true,
  passes_after c.args.self.now c.parts.self c.pass_part-part.new.self c.pass_part-part.result
      c.parts.invariant c.pass_part-part.ensures.passes,
)

pub parts-preserved : goal.parts-preserved
parts-preserved c =
    blank_passed _ c.parts.self c.pass_part-part.new.self c.pass_part-part.result
    c.parts.invariant c.pass_part-part.ensures.passes (sym c.is_line.ensures ∙ c.if-is_line.false)

pub returns : goal.returns
returns c = finds_after c.args.self.now c.parts.self c.find_last.new.self c.find_last.result
    c.parts.invariant c.find_last.ensures
