use Rattle.std.proofs.Common.{◌≡◌, ◌∙◌, ℕ, suc, ◌+◌, ◌-◌, ◌/◌, ◌<◌, ◌≤◌, Bool, false, true, List}
use Rattle.std.proofs.Common.{length, sym, ap, refl, arith}
use Rattle.std.specs.Prelude.{◌&&◌}
use Rattle.gsi_word.specs.PlainLines.{are_more, goes_on, is_more, is_plain_length, more_words}
use Rattle.gsi_word.proofs.plain.goes_on.Goals as goal

-- Where there is room for a word more, it is tested, and then the words after it.
one_more : (line : List ℕ) (at : ℕ) → at + 16 ≤ length line
    → are_more ((length line - at) / 16) at line
    ≡ (is_more at line && are_more ((length line - (at + 16)) / 16) (at + 16) line)
unfolding are_more
one_more line at room =
    let next : (length line - at) / 16 ≡ suc ((length line - (at + 16)) / 16) =
    omega (arith, room) in
    ap (λ (n : ℕ). are_more n at line) next

-- Where there is none, the line ends.
no_more : (line : List ℕ) (at : ℕ) → at ≤ length line → length line < at + 16
    → are_more ((length line - at) / 16) at line ≡ is_plain_length at line
unfolding are_more
no_more line at high short =
    let none : (length line - at) / 16 ≡ 0 = omega (arith, high, short) in
    ap (λ (n : ℕ). are_more n at line) none

pub returns-then-not-is_more : goal.returns-then-not-is_more
unfolding goes_on
returns-then-not-is_more c =
    let line = c.args.line.now in
    let at = c.words.at in
    sym (c.words.invariant.same ∙ one_more line at c.words-test.true
    ∙ ap (λ (t : Bool). t && are_more ((length line - (at + 16)) / 16) (at + 16) line)
    (sym c.if-not-is_more.ensures))

pub words-preserved : goal.words-preserved
words-preserved c =
    let line = c.args.line.now in
    let at = c.words.at in
    record {
      high = c.words-test.true;
      same = c.words.invariant.same ∙ one_more line at c.words-test.true
          ∙ ap (λ (t : Bool). t && are_more ((length line - (at + 16)) / 16) (at + 16) line)
          (sym c.if-not-is_more.ensures);
    }

pub returns : goal.returns
unfolding goes_on
returns c =
    let line = c.args.line.now in
    let short = c.words-test.false in
    c.is_plain_length.ensures.value ∙ sym (c.words.invariant.same
    ∙ no_more line c.words.at c.words.invariant.high (omega (arith, short)))
