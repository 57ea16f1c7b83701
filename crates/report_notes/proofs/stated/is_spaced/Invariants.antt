use Rattle.std.proofs.Common.{◌≡◌, drop, true}
use Rattle.report_notes.specs.Stated.{is_spaced}
use Rattle.report_notes.proofs.stated.is_spaced.Given as goal

-- What is left to see decides.
abbrev pub invariant-bytes : goal.invariant-bytes
invariant-bytes l = is_spaced true l.text ≡ is_spaced l.after (drop l.byte-index l.text)
