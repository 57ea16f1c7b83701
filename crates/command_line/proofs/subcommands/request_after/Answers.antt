use Rattle.std.proofs.Common.{◌≡◌, None, Option, Some, subst, sym}
use Rattle.std.proofs.lemmas.Result.{IfOk-weaker}
use Rattle.std.specs.Prelude.{IfNone, IfSome}
use Rattle.clap.specs.Words.{Text}
use Rattle.clap.specs.declared.parser.matches.Found.{Found}
use Rattle.command_line.specs.CommandLine.{Asked, AsksFor, of_compare, of_differences}
use Rattle.command_line.specs.CommandLine.{of_directions, of_report, of_check}
use Rattle.command_line.specs.CommandLine.{of_means, of_mark, of_change, of_list, of_words}
use Rattle.command_line.proofs.subcommands.request_after.Goals as goal

-- What a subcommand asks for, under the name that it has.
by_name : (name known : Text) (found : Found) (request : Option Asked) → name ≡ known
    → IfSome request (AsksFor known found) → IfSome request (AsksFor name found)
by_name name known found request is asked =
    subst (λ n. IfSome request (AsksFor n found)) (sym is) asked

-- Where there is no request, what follows from that.
where_none : (request : Option Asked) (P Q : Type 0) → (P → Q) → IfNone request P
    → IfNone request Q
where_none (Some request) P Q follows lacks = tt
where_none None P Q follows lacks = follows lacks

pub returns-in-compare-clause-asked : goal.returns-in-compare-clause-asked
returns-in-compare-clause-asked c = by_name _ _ _ _ c.in-compare.is c.compare_request.ensures.asked

pub returns-in-compare-clause-none : goal.returns-in-compare-clause-none
returns-in-compare-clause-none c =
    where_none _ _ _ (of_compare c.in-compare.is) c.compare_request.ensures.none

pub returns-in-differences-clause-asked : goal.returns-in-differences-clause-asked
returns-in-differences-clause-asked c =
    by_name _ _ _ _ c.in-differences.is c.differences_request.ensures.asked

pub returns-in-differences-clause-none : goal.returns-in-differences-clause-none
returns-in-differences-clause-none c =
    where_none _ _ _ (of_differences c.in-differences.is) c.differences_request.ensures.none

pub returns-in-directions-clause-asked : goal.returns-in-directions-clause-asked
returns-in-directions-clause-asked c =
    by_name _ _ _ _ c.in-directions.is c.directions_request.ensures.asked

pub returns-in-directions-clause-none : goal.returns-in-directions-clause-none
returns-in-directions-clause-none c =
    where_none _ _ _ (of_directions c.in-directions.is) c.directions_request.ensures.none

pub returns-in-report-clause-asked : goal.returns-in-report-clause-asked
returns-in-report-clause-asked c =
    IfOk-weaker c.report_request.result _ _
    (λ request asked. by_name _ _ _ request c.in-report.is asked) c.report_request.ensures.asked

pub returns-in-report-clause-none : goal.returns-in-report-clause-none
returns-in-report-clause-none c =
    IfOk-weaker c.report_request.result _ _
    (λ request lacks. where_none request _ _ (of_report c.in-report.is) lacks)
    c.report_request.ensures.none

pub returns-in-check-clause-asked : goal.returns-in-check-clause-asked
returns-in-check-clause-asked c = by_name _ _ _ _ c.in-check.is c.check_request.ensures.asked

pub returns-in-check-clause-none : goal.returns-in-check-clause-none
returns-in-check-clause-none c =
    where_none _ _ _ (of_check c.in-check.is) c.check_request.ensures.none

pub returns-in-means-clause-asked : goal.returns-in-means-clause-asked
returns-in-means-clause-asked c = by_name _ _ _ _ c.in-means.is c.means_request.ensures.asked

pub returns-in-means-clause-none : goal.returns-in-means-clause-none
returns-in-means-clause-none c =
    where_none _ _ _ (of_means c.in-means.is) c.means_request.ensures.none

pub returns-in-mark-clause-asked : goal.returns-in-mark-clause-asked
returns-in-mark-clause-asked c =
    IfOk-weaker c.mark_request.result _ _
    (λ request asked. by_name _ _ _ request c.in-mark.is asked) c.mark_request.ensures.asked

pub returns-in-mark-clause-none : goal.returns-in-mark-clause-none
returns-in-mark-clause-none c =
    IfOk-weaker c.mark_request.result _ _
    (λ request lacks. where_none request _ _ (of_mark c.in-mark.is) lacks)
    c.mark_request.ensures.none

pub returns-in-change-clause-asked : goal.returns-in-change-clause-asked
returns-in-change-clause-asked c =
    IfOk-weaker c.change_request.result _ _
    (λ request asked. by_name _ _ _ request c.in-change.is asked) c.change_request.ensures.asked

pub returns-in-change-clause-none : goal.returns-in-change-clause-none
returns-in-change-clause-none c =
    IfOk-weaker c.change_request.result _ _
    (λ request lacks. where_none request _ _ (of_change c.in-change.is) lacks)
    c.change_request.ensures.none

pub returns-in-list-clause-asked : goal.returns-in-list-clause-asked
returns-in-list-clause-asked c = by_name _ _ _ _ c.in-list.is c.list_request.ensures.asked

pub returns-in-list-clause-none : goal.returns-in-list-clause-none
returns-in-list-clause-none c =
    where_none _ _ _ (of_list c.in-list.is) c.list_request.ensures.none

pub returns-in-words-clause-asked : goal.returns-in-words-clause-asked
returns-in-words-clause-asked c = by_name _ _ _ _ c.in-words.is c.words_request.ensures.asked

pub returns-in-words-clause-none : goal.returns-in-words-clause-none
returns-in-words-clause-none c =
    where_none _ _ _ (of_words c.in-words.is) c.words_request.ensures.none
