use Rattle.std.proofs.Common.{sym, ◌∙◌, arith}
use Rattle.gsi_word.specs.Layout.{words_from}
use Rattle.gsi_word.proofs.RunLaws.{length_words_from}
use Rattle.gsi_word.proofs.FoundLaws.{below, found_all}
use Rattle.gsi_word.proofs.block.Block.find.Goals as goal

pub loop-word-preserved : goal.loop-word-preserved
loop-word-preserved c =
    let b = c.args.self.now in
    let words = words_from b.width b.count b.bytes.now in
    let here = sym c.in-Some.ensures.value in
    record {
      so_far = c.count.ensures words c.loop-word.i c.loop-word.invariant.so_far here;
      inside = omega (
        arith,
        below words c.loop-word.i c.in-Some.word here,
        length_words_from b.width b.count b.bytes.now,
      );
    }

pub loop-word-smaller : goal.loop-word-smaller
loop-word-smaller c =
    let b = c.args.self.now in
    let words = words_from b.width b.count b.bytes.now in
    omega (
      arith,
      below words c.loop-word.i c.in-Some.word (sym c.in-Some.ensures.value),
      length_words_from b.width b.count b.bytes.now,
    )

pub returns : goal.returns
returns c =
    let b = c.args.self.now in
    c.loop-word.invariant.so_far ∙ found_all c.args.index (words_from b.width b.count b.bytes.now)
    c.loop-word.i (sym c.in_default.ensures.value)
