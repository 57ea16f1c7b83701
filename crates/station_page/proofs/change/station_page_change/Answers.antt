use Rattle.std.proofs.Common.{ℕ, List, Result, Ok, Err, IfErr, IfOk, inl}
use Rattle.std.specs.Global.{Global}
use Rattle.std.specs.Prelude.{Vec}
use Rattle.changed_lines.specs.Answers.{IsChanged, IsFault}
use Rattle.changed_lines.specs.declared.change.Change.{Change}
use Rattle.changed_lines.specs.declared.fault.ChangeFault.{ChangeFault}
use Rattle.station_page.specs.Answers.{Changes}
use Rattle.station_page.specs.Texts.{bytes_in}
use Rattle.station_page.proofs.change.station_page_change.Goals as goal

-- What comes of changes, of the copy or of the fault.
comes : (gsi : List ℕ) (cs : List Change) (r : Result (Vec ℕ Global) ChangeFault)
    → IfOk r (λ copy. IsChanged gsi cs copy.items) → IfErr r (IsFault gsi cs)
    → Changes gsi cs (bytes_in r)
comes gsi cs (Ok copy) is none = is
comes gsi cs (Err fault) none is = is

pub returns-in-Ok : goal.returns-in-Ok
returns-in-Ok c = record {
  shows = inl (record {
    cs = c.in-Ok.changes.items;
    say = c.in-Ok.ensures.say;
    answer = bytes_in c.changed_copy.result;
    answers = comes c.args.gsi.now c.in-Ok.changes.items c.changed_copy.result
        (rw c.deref.ensures.value at c.changed_copy.ensures.copy)
        (rw c.deref.ensures.value at c.changed_copy.ensures.fault);
    hands_out = c.hand_out_text.ensures.shows;
  });
  leaves = c.hand_out_text.ensures.leaves;
}
