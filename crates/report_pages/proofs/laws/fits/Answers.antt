use Rattle.std.proofs.Common.{◌≤◌, ◌-◌, arith, length}
use Rattle.report_pages.specs.Pages.{head, repeated}
use Rattle.report_pages.specs.declared.pages.TheConstants.{LINES_OF_PAGE}
use Rattle.report_pages.proofs.PageLaws.{first_fits, further_fit, head_few, repeated_few}
use Rattle.report_pages.proofs.laws.fits.Goals as goal

pub returns-clause-first : goal.returns-clause-first
returns-clause-first c label report = first_fits _ _ _ report

pub returns-clause-further : goal.returns-clause-further
returns-clause-further c label report k d lt =
    let few : length (repeated (head label report)) ≤ 10 =
    omega (arith, head_few label report, repeated_few (head label report)) in
    omega (
      arith,
      few,
      further_fit (LINES_OF_PAGE - length (repeated (head label report))) LINES_OF_PAGE _ report
          (omega (arith, few)) k d lt,
    )
