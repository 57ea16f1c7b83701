use Rattle.std.proofs.Common.{rules, tests}
use Rattle.std.proofs.lemmas.Iterator.Consumers.{map_from_collect}
use Rattle.report_pages.proofs.LinesRead.{lines_split}
use Rattle.report_pages.proofs.lines.lines_of.Goals as goal

pub returns : goal.returns
returns c =
    map_from_collect _ c.collect.ensures.ran (lines_split _ c.args.text.now
    c.split_inclusive.ensures.rest c.split_inclusive.ensures.closure
    (λ x r q k. search (rules, tests)))
