use Rattle.std.proofs.Common.{◌≡◌, ◌++◌, drop, true}
use Rattle.book_answers.specs.Together.{behind}
use Rattle.book_answers.proofs.arrangement.push_behind.Given as goal

-- What was added, and what is to come.
abbrev pub invariant-bytes : goal.invariant-bytes
invariant-bytes l =
    l.text.items ++ behind l.starts l.front (drop l.byte-index l.own)
    ≡ l.fn.text.items ++ behind true l.front l.own
