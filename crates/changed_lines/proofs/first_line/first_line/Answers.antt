use Rattle.std.proofs.Common.{rules, ◌+◌}
use Rattle.changed_lines.proofs.LineCuts.{is_first, is_alone, none_in}
use Rattle.changed_lines.proofs.first_line.first_line.Goals as goal

pub returns-in-Some : goal.returns-in-Some
returns-in-Some c = is_first c.args.bytes.now c.in-Some.at (c.in-Some.at + c.end_length.result)
    c.cut.result (search rules) (search rules) c.cut.ensures.text c.cut.ensures.end
    c.cut.ensures.whole c.cut.ensures.after

pub returns-in-None : goal.returns-in-None
returns-in-None c = is_alone c.args.bytes.now c.cut-in-None.result c.requires
    (none_in c.args.bytes.now (search rules)) c.cut-in-None.ensures.text
    c.cut-in-None.ensures.end c.cut-in-None.ensures.whole c.cut-in-None.ensures.after
