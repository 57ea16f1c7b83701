use Rattle.std.proofs.Common.{◌≡◌, ◌++◌, drop, false, map}
use Rattle.report_pages.specs.Pages.{reports_on_pages}
use Rattle.report_pages.proofs.pages.push_reports.Given as goal

abbrev pub invariant-reports : goal.invariant-reports
invariant-reports l =
    l.pages.items ++ reports_on_pages l.label l.further
    (map (λ report. report.now) (drop l.place l.reports))
    ≡ l.fn.pages.items ++ reports_on_pages l.label false (map (λ report. report.now) l.reports)
