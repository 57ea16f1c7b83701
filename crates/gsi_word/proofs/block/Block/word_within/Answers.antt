use Rattle.std.proofs.Common.{List, ℕ, ap, subst, sym, Some, ◌∙◌}
use Rattle.gsi_word.specs.Words.{IsWord}
use Rattle.gsi_word.specs.Layout.{word_of, IsWholeWord}
use Rattle.gsi_word.proofs.BlockLaws.{slice_get-words_from, word_span, whole_word}
use Rattle.gsi_word.proofs.block.Block.word_within.Goals as goal

pub invariant_of-result : goal.invariant_of-result
invariant_of-result c =
    let b = c.args.self.now in
    subst (λ (r : List ℕ). IsWholeWord r) (sym (word_span b.width c.args.i b.bytes.now))
    (whole_word b.width _ b.kept.width_known (b.kept.each c.args.i c.requires))

pub returns-clause-value : goal.returns-clause-value
returns-clause-value c =
    let b = c.args.self.now in
    slice_get-words_from b.width b.count c.args.i b.bytes.now c.requires
    ∙ sym (ap (λ (r : List ℕ). Some (word_of r)) (word_span b.width c.args.i b.bytes.now))

pub returns-clause-well_formed : goal.returns-clause-well_formed
returns-clause-well_formed c =
    let b = c.args.self.now in
    subst (λ (r : List ℕ). IsWord b.width (word_of r))
    (sym (word_span b.width c.args.i b.bytes.now)) (b.kept.each c.args.i c.requires).word
