use Rattle.std.proofs.Common.{◌≤◌, ap, false, true, not, sym, subst, ◌∙◌, arith, rules}
use Rattle.byte_ends.proofs.Coming.{at_last, through_so, through_then}
use Rattle.gsi_file.specs.declared.search.FoundLine.{FoundLine}
use Rattle.gsi_file.specs.Finding.{FindsLine, IsFound}
use Rattle.gsi_file.specs.Parts.{is_blank}
use Rattle.gsi_file.proofs.Finding.{Searching, further, ends_by, fails, file_too_long}
use Rattle.gsi_file.proofs.Finding.{line_too_long, passes, none_plain, found_ended, finds_ended}
use Rattle.gsi_file.proofs.Finding.{found_at_end, still_same, goes_on}
use Rattle.gsi_file.proofs.search.find_line.Goals as goal
use Rattle.gsi_file.proofs.search.find_line.Given.{Over}
use Rattle.gsi_file.proofs.search.find_line.Goals.{After-line_end-end}

-- Up to the place that was looked at now, no line has ended.
searched : (g : Over) (c : After-line_end-end g) → c.line_end-end.result.place ≤ 1024
    → Searching c.args.room c.search.left c.line_end-end.result.place c.search.buffer
searched g c short =
    further c.args.room c.search.left c.search.searched c.line_end-end.result.place c.search.buffer
    short (omega arith) (omega arith)
    (rw c.bytes.ensures at c.line_end-end.ensures.plain) c.search.invariant.searching

pub returns-then-not-is_blank-clause-found : goal.returns-then-not-is_blank-clause-found
returns-then-not-is_blank-clause-found g c =
    let line = c.line_end-end.result.place in
    let h = c.search.buffer in
    let s = searched g (goal.at.returns-then-not-is_blank-clause-found g c).After-line_end-end
    (omega arith) in
    subst (λ (f : FoundLine). IsFound c.args.room h f) (sym c.ended.ensures)
    (found_ended c.args.room c.search.left line c.next_line_start-used.result
    c.line_end-end.result.printable h (omega (arith, c.next_line_start-used.ensures.within))
    (omega (arith, c.next_line_start-used.ensures.within))
    (ap not (sym (c.is_blank.ensures ∙ ap is_blank c.front.ensures)
    ∙ c.if-not-is_blank.true))
    (rw c.bytes.ensures at c.line_end-end.ensures.printable)
    (rw c.bytes-then-not-is_blank.ensures at c.next_line_start-used.ensures.next) s)

pub returns-then-not-is_blank-clause-through : goal.returns-then-not-is_blank-clause-through
returns-then-not-is_blank-clause-through g c =
    let line = c.line_end-end.result.place in
    let h = c.search.buffer in
    let s = searched g (goal.at.returns-then-not-is_blank-clause-through g c).After-line_end-end
    (omega arith) in
    through_so _ _ _ c.search.invariant.through
    (λ before after same.
    subst (λ (f : FoundLine). FindsLine before after c.args.room c.args.buffer.now h
    f.line_length f.used f.room f.last) (sym c.ended.ensures)
    (finds_ended before after c.args.room c.args.buffer.now c.search.left line
    c.next_line_start-used.result h (omega arith) (omega arith)
    (omega (arith, c.next_line_start-used.ensures.within))
    (omega (arith, c.next_line_start-used.ensures.within))
    (rw c.bytes.ensures at (c.line_end-end.ensures.end c.if-searched-seen.true))
    (ap not (sym (c.is_blank.ensures ∙ ap is_blank c.front.ensures)
    ∙ c.if-not-is_blank.true))
    (rw c.bytes-then-not-is_blank.ensures at c.next_line_start-used.ensures.next) s same))

pub search-preserved-then-searched-seen : goal.search-preserved-then-searched-seen
search-preserved-then-searched-seen g c =
    let line = c.line_end-end.result.place in
    let h = c.search.buffer in
    let s = searched g (goal.at.search-preserved-then-searched-seen g c).After-line_end-end
    (omega arith) in
    record {
      searching = record {
        short = omega arith;
        inside = omega arith;
        fits = omega arith;
        most = omega (arith, c.search.invariant.searching.most);
        plain = none_plain c.drop_front.new.self;
      };
      through = through_so _ _ _ c.search.invariant.through
          (λ before after same.
          rw c.drop_front.ensures (passes before after c.args.room c.args.buffer.now c.search.left
          line h (omega arith) (omega arith)
          (rw c.bytes.ensures at (c.line_end-end.ensures.end c.if-searched-seen.true))
          (ap not (sym (c.is_blank.ensures ∙ ap is_blank c.front.ensures)
          ∙ c.if-not-is_blank.false)) s same));
      unfailed = c.search.invariant.unfailed;
    }

pub returns-then-searched-gt-LONGEST_LINE-clause-through :
    goal.returns-then-searched-gt-LONGEST_LINE-clause-through
returns-then-searched-gt-LONGEST_LINE-clause-through g c =
    through_so _ _ _ c.search.invariant.through
    (λ before after same.
    line_too_long before after c.args.room c.args.buffer.now c.search.left
    c.line_end-end.result.place c.search.buffer c.if-searched-gt-LONGEST_LINE.true (omega arith)
    (omega arith) (rw c.bytes.ensures at c.line_end-end.ensures.plain) same)

pub returns-then-searched-len-clause-through : goal.returns-then-searched-len-clause-through
returns-then-searched-len-clause-through g c =
    let line = c.line_end-end.result.place in
    let h = c.search.buffer in
    let s = searched g (goal.at.returns-then-searched-len-clause-through g c).After-line_end-end
    (omega arith) in
    through_so _ _ _ c.search.invariant.through
    (λ before after same.
    file_too_long before after c.args.room c.args.buffer.now c.search.left line h (omega arith)
    (omega arith) s same)

pub returns-then-not-is_blank-2-clause-found : goal.returns-then-not-is_blank-2-clause-found
returns-then-not-is_blank-2-clause-found g c =
    let line = c.line_end-end.result.place in
    let h = c.search.buffer in
    let s = searched g (goal.at.returns-then-not-is_blank-2-clause-found g c).After-line_end-end
    (omega arith) in
    let grown = at_last _ _ c.in-Ok-eq0.ensures.through in
    subst (λ (f : FoundLine). IsFound c.args.room c.fill.new.self f) (sym c.at_end.ensures)
    (found_at_end grown.1.0 grown.0 c.args.room c.search.left line h c.fill.new.self
    c.in-Ok-eq0.field-0 (omega arith)
    (ap not (sym (c.is_blank-in-Ok-eq0.ensures ∙ ap is_blank c.front-in-Ok-eq0.ensures)
    ∙ c.if-not-is_blank-2.true)) s grown.1.2)

pub returns-then-not-is_blank-2-clause-through : goal.returns-then-not-is_blank-2-clause-through
returns-then-not-is_blank-2-clause-through g c =
    let line = c.line_end-end.result.place in
    let h = c.search.buffer in
    let s = searched g
    (goal.at.returns-then-not-is_blank-2-clause-through g c).After-line_end-end (omega arith) in
    let told = g.R.Source.told in
    let failed = g.R.Source.failed in
    let gave = g.R.Source.gave in
    through_then told failed gave _ _ _ _ _ _ c.search.invariant.through
    c.in-Ok-eq0.ensures.through
    (λ before between after same filled.
    subst (λ (f : FoundLine). FindsLine before after c.args.room c.args.buffer.now c.fill.new.self
    f.line_length f.used f.room f.last) (sym c.at_end.ensures)
    (ends_by before between after c.args.room c.args.buffer.now c.search.left line h
    c.fill.new.self c.in-Ok-eq0.field-0 true (omega arith) c.in-Ok-eq0.field-0-test
    (ap not (sym (c.is_blank-in-Ok-eq0.ensures ∙ ap is_blank c.front-in-Ok-eq0.ensures)
    ∙ c.if-not-is_blank-2.true)) s same filled))

pub returns-in-Ok-eq0-clause-through : goal.returns-in-Ok-eq0-clause-through
returns-in-Ok-eq0-clause-through g c =
    let line = c.line_end-end.result.place in
    let h = c.search.buffer in
    let s = searched g (goal.at.returns-in-Ok-eq0-clause-through g c).After-line_end-end
    (omega arith) in
    let told = g.R.Source.told in
    let failed = g.R.Source.failed in
    let gave = g.R.Source.gave in
    through_then told failed gave _ _ _ _ _ _ c.search.invariant.through
    c.in-Ok-eq0.ensures.through
    (λ before between after same filled.
    ends_by before between after c.args.room c.args.buffer.now c.search.left line h
    c.fill.new.self c.in-Ok-eq0.field-0 false (omega arith) c.in-Ok-eq0.field-0-test
    (ap not (sym (c.is_blank-in-Ok-eq0.ensures ∙ ap is_blank c.front-in-Ok-eq0.ensures)
    ∙ c.if-not-is_blank-2.false)) s same filled)

pub returns-in-Err-clause-through : goal.returns-in-Err-clause-through
returns-in-Err-clause-through g c =
    let line = c.line_end-end.result.place in
    let h = c.search.buffer in
    let s = searched g (goal.at.returns-in-Err-clause-through g c).After-line_end-end
    (omega arith) in
    let told = g.R.Source.told in
    let failed = g.R.Source.failed in
    let gave = g.R.Source.gave in
    through_then told failed gave _ _ _ _ _ _ c.search.invariant.through c.in-Err.ensures.through
    (λ before between after same filled.
    fails before between after c.args.room c.args.buffer.now c.search.left line h (omega arith) s
    same filled.1)

pub search-preserved : goal.search-preserved
search-preserved g c =
    let told = g.R.Source.told in
    let failed = g.R.Source.failed in
    let gave = g.R.Source.gave in
    let grown = at_last _ _ c.in-Ok.ensures.through in
    record {
      searching = goes_on grown.1.0 grown.0 _ _ _ _ _ _ c.in-Ok.field-0 (omega arith) (omega arith)
          (omega arith) (rw c.bytes.ensures at c.line_end-end.ensures.plain)
          c.search.invariant.searching grown.1.2;
      through = through_then told failed gave _ _ _ _ _ _ c.search.invariant.through
          c.in-Ok.ensures.through
          (λ before between after same filled.
          still_same _ _ _ _ _ c.in-Ok.field-0 before between after same filled);
      unfailed = search rules;
    }
