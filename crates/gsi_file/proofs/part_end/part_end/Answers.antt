use Rattle.std.proofs.Common.{take, subst, List, ℕ, arith}
use Rattle.std.proofs.lemmas.List.{take_all}
use Rattle.gsi_file.specs.Parts.{HasNoEnd}
use Rattle.gsi_file.proofs.PlainParts.{has_no_end}
use Rattle.gsi_file.proofs.part_end.part_end.Goals as goal

pub returns-in-Some-clause-end : goal.returns-in-Some-clause-end
returns-in-Some-clause-end c =
    let plain = c.in-Some.ensures.1.1 in (
      record {
        inside = c.in-Some.ensures.0;
        before = has_no_end (take c.in-Some.place c.args.bytes.now) plain;
        ends = c.in-Some.ensures.1.0;
      },
      plain,
    )

pub returns-then-end-bytes-clause-none : goal.returns-then-end-bytes-clause-none
returns-then-end-bytes-clause-none c =
    let bytes = c.args.bytes.now in
    let whole = c.if-end-bytes.true in
    subst (λ (l : List ℕ). HasNoEnd l)
    (take_all c.line_end-end.result.place bytes (omega (arith, whole)))
    c.line_end-end.ensures.plain
