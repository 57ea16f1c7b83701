use Rattle.std.proofs.Common.{◌∙◌, inl, inr}
use Rattle.direction_table.proofs.OneAnswer.{never-both, one-fault, one-table}
use Rattle.direction_table.proofs.RowsTaken.{lifted-cases, lifted-is}
use Rattle.direction_table.proofs.reading.read_table.Goals as goal

pub returns-in_err-table-clause-stands : goal.returns-in_err-table-clause-stands
returns-in_err-table-clause-stands c directions text =
    lifted-cases c.from_residual.result _ _ _ c.from_residual.ensures
    (λ k is. elim c.in_err-table.ensures.fault [
      | inl fault ↦
          absurd (never-both c.args.form c.args.targets.now c.args.bytes.now directions
          c.in_err-table.field-0.0 text fault)
      | inr memory ↦ is ∙ memory
    ])

pub returns-in_err-table-clause-refused : goal.returns-in_err-table-clause-refused
returns-in_err-table-clause-refused c fault is =
    lifted-is c.from_residual.result _ fault _ c.from_residual.ensures
    (elim c.in_err-table.ensures.fault [
      | inl own ↦ inl (one-fault c.args.form c.args.targets.now c.args.bytes.now
          c.in_err-table.field-0.0 fault own is)
      | inr memory ↦ inr memory
    ])

pub returns-clause-stands : goal.returns-clause-stands
returns-clause-stands c directions text =
    one-table c.args.form c.args.targets.now c.args.bytes.now c.in_ok-table.table.directions.items
    directions
    c.in_ok-table.ensures.table text

pub returns-clause-refused : goal.returns-clause-refused
returns-clause-refused c fault is =
    absurd (never-both c.args.form c.args.targets.now c.args.bytes.now
    c.in_ok-table.table.directions.items
    fault c.in_ok-table.ensures.table is)
