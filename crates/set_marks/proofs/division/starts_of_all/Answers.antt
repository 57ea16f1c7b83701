use Rattle.std.proofs.Common.{◌≡◌, ◌+◌, length, take, true, is_none, rules}
use Rattle.adjust_kernel.specs.declared.bounds.TheConstants.{MOST_SETS}
use Rattle.set_marks.specs.Divisions.{starts_of, sets_flaw, first_cut, cut_end}
use Rattle.set_marks.proofs.AllInSets.{whole_starts, whole_end, whole_by_few}
use Rattle.set_marks.proofs.division.starts_of_all.Goals as goal

pub returns : goal.returns
returns c =
    let rs = c.args.sights.now in
    let starts = c.in_ok-starts.starts.items in
    let last = c.in_ok-end.end in
    let are : starts ≡ take (MOST_SETS + 1) (starts_of rs) = search rules in
    let sets : is_none (sets_flaw (first_cut starts rs) 0 (cut_end starts rs) starts rs) ≡ true =
    search rules in
    let end : last ≡ cut_end starts rs = search rules in
    let whole : last ≡ length rs = c.if-end-sights.false in
    record {
      starts = whole_starts starts rs are sets;
      end = whole_end starts rs last are sets end whole;
      whole = whole_by_few starts rs c.in-Some.field-0-1.now c.in-Some.last.now last
          c.in-Some.ensures.cases.0 are sets end whole;
    }
