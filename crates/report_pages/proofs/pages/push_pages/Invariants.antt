use Rattle.std.proofs.Common.{◌≡◌, ◌++◌, drop, false, map}
use Rattle.report_pages.specs.Pages.{on_pages, text_of}
use Rattle.report_pages.specs.declared.pages.TheConstants.{LINES_OF_PAGE}
use Rattle.report_pages.proofs.pages.push_pages.Given as goal

abbrev pub invariant-lines : goal.invariant-lines
invariant-lines l =
    l.pages.items ++ text_of l.start
    (on_pages l.room l.left l.after_empty (map (λ line. line.now) (drop l.place l.lines)))
    ≡ l.fn.pages.items ++ text_of l.start
    (on_pages l.room LINES_OF_PAGE false (map (λ line. line.now) l.lines))
