use Rattle.std.proofs.Common.{sym, arith}
use Rattle.std.proofs.lemmas.List.{take_all}
use Rattle.std.proofs.lemmas.List.Elements.{All-more, All-same}
use Rattle.station_explain.specs.Naming.{LacksNameInAnyCase}
use Rattle.station_explain.proofs.explanations.explanation_in_any_case.Goals as goal

pub entries-preserved : goal.entries-preserved
entries-preserved c =
    All-more (LacksNameInAnyCase c.args.name.now) c.args.entries.now c.entries.entry-index _
    (omega arith) c.entries.invariant
    (c.has_name_in_any_case.ensures.missing c.if-has_name_in_any_case.false)

pub returns-clause-missing : goal.returns-clause-missing
returns-clause-missing c =
    All-same (LacksNameInAnyCase c.args.name.now) c.args.entries.now _
    (sym (take_all c.entries.entry-index c.args.entries.now (omega arith))) c.entries.invariant
