use Rattle.std.proofs.Common.{◌≡◌, drop}
use Rattle.book_answers.specs.Together.{after_line}
use Rattle.book_answers.proofs.arrangement.after_line.Given as goal

abbrev pub invariant-bytes : goal.invariant-bytes
invariant-bytes l = after_line (drop l.place l.text) ≡ after_line l.text
