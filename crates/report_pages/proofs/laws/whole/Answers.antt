use Rattle.std.proofs.lemmas.List.Splits.{join_with_byte-slice_split}
use Rattle.report_pages.specs.declared.pages.TheConstants.{FORM_FEED}
use Rattle.report_pages.proofs.PageLaws.{all_of}
use Rattle.report_pages.proofs.laws.whole.Goals as goal

pub returns-clause-text : goal.returns-clause-text
returns-clause-text c text = join_with_byte-slice_split FORM_FEED text

pub returns-clause-report : goal.returns-clause-report
returns-clause-report c label report = all_of _ _ _ report
