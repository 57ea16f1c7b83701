use Rattle.std.proofs.Common.{rules}
use Rattle.set_marks.proofs.VisitNames.{count_added}
use Rattle.set_marks.proofs.visits.Visits.add.Goals as goal

pub returns : goal.returns
returns c = count_added c.self.inside.counts.entries c.args.self.now c.insert.new.self.entries
    c.args.name.now c.in-Some.count c.count.result c.in_ok-insert.ensures.entries (search rules)
    c.count.ensures c.self.view_is
