use Rattle.std.proofs.Common.{◌∙◌, sym}
use Rattle.csv.specs.Records.{fields_of}
use Rattle.direction_table.specs.FieldForms.{tidy}
use Rattle.direction_table.proofs.RowsPicked.{if-err, on-ok, passed_over, stating}
use Rattle.direction_table.proofs.picked.take_picked.Goals as goal

pub returns-then-says_nothing-clause-faultless : goal.returns-then-says_nothing-clause-faultless
returns-then-says_nothing-clause-faultless c before same =
    (passed_over c.args.unit c.args.targets.now before
    (tidy c.args.targets.now (fields_of c.args.row.now))
    (sym c.says_nothing.ensures ∙ c.if-says_nothing.true)).faultless

pub returns-then-says_nothing-clause-taken : goal.returns-then-says_nothing-clause-taken
returns-then-says_nothing-clause-taken c before same =
    same ∙ sym (passed_over c.args.unit c.args.targets.now before
    (tidy c.args.targets.now (fields_of c.args.row.now))
    (sym c.says_nothing.ensures ∙ c.if-says_nothing.true)).states

pub returns-clause-faultless : goal.returns-clause-faultless
returns-clause-faultless c =
    on-ok c.take_row.result _ _ c.take_row.ensures.faultless (λ none before same.
    stating c.args.unit c.args.targets.now before
    (tidy c.args.targets.now (fields_of c.args.row.now))
    (sym c.says_nothing.ensures ∙ c.if-says_nothing.false) ∙ none before same)

pub returns-clause-fault : goal.returns-clause-fault
returns-clause-fault c =
    if-err c.take_row.result _ _ c.take_row.ensures.fault (λ kind found before same.
    stating c.args.unit c.args.targets.now before
    (tidy c.args.targets.now (fields_of c.args.row.now))
    (sym c.says_nothing.ensures ∙ c.if-says_nothing.false) ∙ found before same)
