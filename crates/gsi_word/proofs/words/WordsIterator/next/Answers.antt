use Rattle.std.proofs.Common.{length, ap, arith, rules}
use Rattle.std.proofs.lemmas.List.{drop_all}
use Rattle.gsi_word.specs.Layout.{words_from}
use Rattle.gsi_word.proofs.RunLaws.{length_words_from}
use Rattle.gsi_word.proofs.WordsLeft.{first_left}
use Rattle.gsi_word.proofs.words.WordsIterator.next.Goals as goal

pub returns-then-self-clause-steps : goal.returns-then-self-clause-steps
returns-then-self-clause-steps c =
    let b = c.args.self.now.block in
    first_left (words_from b.width b.count b.bytes.now) c.args.self.now.place
    c.word_within-word.result c.word_within-word.ensures.value

pub returns-then-self-clause-goes : goal.returns-then-self-clause-goes
returns-then-self-clause-goes c =
    let b = c.args.self.now.block in
    let step = first_left (words_from b.width b.count b.bytes.now) c.args.self.now.place
    c.word_within-word.result c.word_within-word.ensures.value in
    let shorter = ap length step in
    search rules

pub returns-else-self-clause-steps : goal.returns-else-self-clause-steps
returns-else-self-clause-steps c =
    let b = c.args.self.now.block in
    let words = words_from b.width b.count b.bytes.now in
    let none = drop_all c.args.self.now.place words
    (omega (arith, c.if-self.false, length_words_from b.width b.count b.bytes.now)) in
    (none, none)
