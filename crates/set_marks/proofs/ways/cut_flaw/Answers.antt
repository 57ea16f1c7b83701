use Rattle.std.proofs.Common.{◌≡◌, ◌+◌, Some, None, take, rules}
use Rattle.std.specs.Prelude.{slice_get, not}
use Rattle.adjust_kernel.specs.declared.bounds.TheConstants.{MOST_SETS}
use Rattle.set_marks.specs.declared.fault.MarkKind.TheVariants as kinds
use Rattle.set_marks.specs.Divisions.{sets_flaw, first_cut, cut_end, starts_of, flaw_found}
use Rattle.set_marks.specs.Divisions.{flaw_when}
use Rattle.set_marks.specs.Outside.{may_precede}
use Rattle.set_marks.specs.Ways.{detail_between}
use Rattle.set_marks.proofs.FewStarts.{flaw_told, flaw_after}
use Rattle.set_marks.proofs.ways.cut_flaw.Goals as goal

pub returns-in-Some-clause-value : goal.returns-in-Some-clause-value
returns-in-Some-clause-value c =
    let rs = c.args.sets.now in
    let starts = c.deref.result.now in
    let are : starts ≡ take (MOST_SETS + 1) (starts_of rs) = search rules in
    let told : Some c.in-Some.flaw ≡ sets_flaw (first_cut starts rs) 0 (cut_end starts rs) starts rs
    = search rules in
    flaw_told c.args.sights.now c.args.leading.now c.args.place starts rs c.in-Some.flaw are told

pub returns-clause-value : goal.returns-clause-value
returns-clause-value c =
    let rs = c.args.sets.now in
    let all = c.args.sights.now in
    let starts = c.deref.result.now in
    let are : starts ≡ take (MOST_SETS + 1) (starts_of rs) = search rules in
    let none : None ≡ sets_flaw (first_cut starts rs) 0 (cut_end starts rs) starts rs =
    search rules in
    let among : c.flaw_found-among.result
    ≡ flaw_found kinds.FaceMissing
    (detail_between all c.args.place (c.args.place + cut_end starts rs)) = search rules in
    let before : c.flaw_when-before.result
    ≡ flaw_when (not (may_precede starts rs c.args.leading.now c.args.place)) kinds.OneSet
    (slice_get rs 0) = search rules in
    flaw_after all c.args.leading.now c.args.place starts rs c.first_flaw.result are none
    (search rules)
