use Rattle.std.proofs.Common.{inl, inr, refl, rules}
use Rattle.clap.specs.Words.{found_of}
use Rattle.command_line.proofs.RowLaws.{rows-stated}
use Rattle.command_line.proofs.subcommands.reporting_request.Goals as goal

pub returns-in-Lines-Some-default-default-default-default-clause-asked :
    goal.returns-in-Lines-Some-default-default-default-default-clause-asked
returns-in-Lines-Some-default-default-default-default-clause-asked c = (
  search rules,
  (search rules, search rules),
  (refl, search rules, search rules, search rules, search rules, search rules, search rules),
  search rules,
)

pub returns-in-Lines-None-None-false-default-default-clause-asked :
    goal.returns-in-Lines-None-None-false-default-default-clause-asked
returns-in-Lines-None-None-false-default-default-clause-asked c = (
  search rules,
  search rules,
  (
    refl,
    record {
      no_table = search rules;
      no_within = search rules;
      in_gon = search rules;
      no_columns = search rules;
    },
    search rules,
    search rules,
    search rules,
  ),
  search rules,
)

pub returns-in-Rows-None-None-false-default-false-clause-asked :
    goal.returns-in-Rows-None-None-false-default-false-clause-asked
returns-in-Rows-None-None-false-default-false-clause-asked c = (
  search rules,
  search rules,
  (
    refl,
    record {
      no_table = search rules;
      no_within = search rules;
      in_gon = search rules;
      no_columns = search rules;
    },
    search rules,
    search rules,
    search rules,
  ),
  search rules,
)

pub returns-in-Lines-None-None-true-default-default-clause-none :
    goal.returns-in-Lines-None-None-true-default-default-clause-none
returns-in-Lines-None-None-true-default-default-clause-none c =
    inr (inr (inr (inl (search rules, inr (search rules)))))

pub returns-in-Rows-None-None-true-default-default-clause-none :
    goal.returns-in-Rows-None-None-true-default-default-clause-none
returns-in-Rows-None-None-true-default-default-clause-none c =
    let rows = rows-stated (found_of c.args.found.now) _ _ c.in-Rows-None-None-true-default-default.is-0 c.in_ok-listed.ensures.stated in
    inr (inr (inr (inr (inl (rows, inr (inr (inl (search rules))))))))

pub returns-in_default-clause-none : goal.returns-in_default-clause-none
returns-in_default-clause-none c = inl (inl (search rules, c.in_default.ensures.none))

pub returns-in_err-within-clause-none : goal.returns-in_err-within-clause-none
returns-in_err-within-clause-none c =
    rw c.from_residual.ensures (inr (inl c.in_err-within.ensures.none))

pub returns-in-Lines-None-Some-default-default-default-clause-none :
    goal.returns-in-Lines-None-Some-default-default-default-clause-none
returns-in-Lines-None-Some-default-default-default-clause-none c =
    let stated = rw c.in-Lines-None-Some-default-default-default.is-2 at c.in_ok-within.ensures.stated in
    inr (inr (inr (inl (
      search rules,
      inl (c.in-Lines-None-Some-default-default-default.field-0-2, stated),
    ))))

pub returns-in-Rows-None-Some-default-default-default-clause-none :
    goal.returns-in-Rows-None-Some-default-default-default-clause-none
returns-in-Rows-None-Some-default-default-default-clause-none c =
    let stated = rw c.in-Rows-None-Some-default-default-default.is-2 at c.in_ok-within.ensures.stated in
    let rows = rows-stated (found_of c.args.found.now) _ _ c.in-Rows-None-Some-default-default-default.is-0
    c.in_ok-listed.ensures.stated in
    inr (inr (inr (inr (inl (
      rows,
      inr (inl (c.in-Rows-None-Some-default-default-default.field-0-2, stated)),
    )))))

pub returns-in-Rows-Some-default-default-default-default-clause-none :
    goal.returns-in-Rows-Some-default-default-default-default-clause-none
returns-in-Rows-Some-default-default-default-default-clause-none c =
    let rows = rows-stated (found_of c.args.found.now) _ _ c.in-Rows-Some-default-default-default-default.is-0
    c.in_ok-listed.ensures.stated in
    inr (inr (inr (inr (inl (
      rows,
      inl (c.in-Rows-Some-default-default-default-default.field-0-1.now, search rules),
    )))))

pub returns-in_err-form-clause-none : goal.returns-in_err-form-clause-none
returns-in_err-form-clause-none c =
    rw c.from_residual-in_err-form.ensures (inr (inr (inl c.in_err-form.ensures.none)))

pub returns-in_err-listed-clause-none : goal.returns-in_err-listed-clause-none
returns-in_err-listed-clause-none c =
    rw c.from_residual-in_err-listed.ensures
    (inr (inr (inr (inr (inr (inl c.in_err-listed.ensures.none))))))
