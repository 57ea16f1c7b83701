use Rattle.std.proofs.Common.{◌≡◌, ◌++◌, drop, map}
use Rattle.std.specs.List.{concat}
use Rattle.report_pages.proofs.head.push_lines.Given as goal

abbrev pub invariant-lines : goal.invariant-lines
invariant-lines l =
    l.text.items ++ concat (map (λ line. line.now) (drop l.place l.lines))
    ≡ l.fn.text.items ++ concat (map (λ line. line.now) l.lines)
