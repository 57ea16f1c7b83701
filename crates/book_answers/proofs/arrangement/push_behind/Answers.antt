use Rattle.std.proofs.Common.{◌≡◌, ◌++◌, [], rules, sym}
use Rattle.std.specs.Prelude.{if◌then◌else◌}
use Rattle.std.proofs.lemmas.List.{append-nil, drop_all}
use Rattle.book_answers.proofs.TextLaws.{added, behind_none}
use Rattle.book_answers.proofs.arrangement.push_behind.Goals as goal
use Rattle.book_answers.proofs.arrangement.push_behind.Goals.{then-starts+in_ok-extend_from_slice}
use Rattle.book_answers.proofs.arrangement.push_behind.Goals.{else-starts}

pub bytes-preserved : goal.bytes-preserved
bytes-preserved c =
    let put : c.if-starts.text.items
    ≡ c.bytes.text.items ++ (if c.bytes.starts then c.args.front.now else []) =
    elim c.if-starts.branch [
      | then-starts+in_ok-extend_from_slice w ↦ rw (w.if-starts.true, w.text-is) (search rules)
      | else-starts w ↦ rw (w.if-starts.false, w.text-is) (sym (append-nil c.bytes.text.items))
    ] in
    added c.bytes.starts c.args.front.now c.args.own.now c.bytes.byte-index c.bytes.text.items
    c.if-starts.text.items c.push.new.self.items _ (search rules) put (search rules)
    c.bytes.invariant

pub returns : goal.returns
returns c =
    let none = drop_all c.bytes.byte-index c.args.own.now (search rules) in
    behind_none c.bytes.starts c.args.front.now c.bytes.text.items _
    (rw none at c.bytes.invariant)
