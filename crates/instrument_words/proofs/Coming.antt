-- The blocks that are still to come of a file, up to its end or to a fault.
use Rattle.std.proofs.Common.{◌≡◌, ◌∷◌, ◌++◌, append-nil, [], List, ℕ, Option, Some, None, ap, refl, sym, subst, Err, ◌∙◌, inl, inr}
use Rattle.std.specs.List.{AllZip}
use Rattle.gsi_file.proofs.LawLemmas.{no_fault_in_a_block}
use Rattle.gsi_file.specs.FileAnswers.{FileAnswers, line_before}
use Rattle.gsi_file.specs.ToCome.{Answers, FaultIsNext, GivesEnd, GivesFault, GivesLine, TakesLine, ToCome}
use Rattle.gsi_file.specs.ToCome.{IsFileFault, only}
use Rattle.gsi_file.specs.declared.file_fault.FileFault.{FileFault}
use Rattle.gsi_file.specs.declared.file_fault.FileFault.TheVariants.{At, Memory}
use Rattle.gsi_word.proofs.LineLaws.{same_block}
use Rattle.gsi_word.specs.Blocks.{GsiBlock, IsBlock}
use Rattle.instrument_words.specs.Onto.{AreToCome}
use Rattle.instrument_words.specs.Instrument.{AreBlocksOf, AreBlocksUpTo, AreOver}

-- Where a block's line is next, a file is not over.
not_over : (left after : FileAnswers) (line : List ℕ) (block : GsiBlock)
    → left ≡ line_before line after → IsBlock line block → AreOver left → ⊥
not_over left after line block takes is (inl here) =
    let none : line ∷ after.lines ≡ [] = sym (ap (λ a. a.lines) takes) ∙ ap (λ a. a.lines) here in
    absurd cc
not_over left after line block takes is (inr (kind, inl here)) =
    let none : line ∷ after.lines ≡ [] = sym (ap (λ a. a.lines) takes) ∙ ap (λ a. a.lines) here in
    absurd cc
not_over left after line block takes is (inr (kind, inr next)) =
    let same : next.0 ≡ line = cc (ap (λ a. a.lines) takes, next.2) in
    no_fault_in_a_block line kind block
    (subst (λ (l : List ℕ). IsFileFault l kind) same next.3) is

-- A line that comes is the first of the blocks to come, and the others come after it.
first_comes : (left after : FileAnswers) (line : List ℕ) (block : GsiBlock)
    (lines : List (List ℕ)) (end : FileAnswers) (blocks : List GsiBlock)
    → AllZip IsBlock lines blocks → left ≡ record { lines = lines ++ end.lines; last = end.last }
    → AreOver end → left ≡ line_before line after → IsBlock line block
    → (rest : List GsiBlock) × (blocks ≡ block ∷ rest) × AreBlocksUpTo after rest
first_comes left after line block [] end [] zip split over takes is =
    absurd (not_over end after line block (sym split ∙ takes) is over)
first_comes left after line block [] end (b ∷ blocks) zip split over takes is = absurd zip
first_comes left after line block (l ∷ lines) end [] zip split over takes is = absurd zip
first_comes left after line block (l ∷ lines) end (b ∷ blocks) zip split over takes is =
    let heads : l ≡ line = cc (ap (λ a. a.lines) takes, ap (λ a. a.lines) split) in
    let tails : after.lines ≡ lines ++ end.lines =
    cc (ap (λ a. a.lines) takes, ap (λ a. a.lines) split) in
    let lasts : after.last ≡ end.last = cc (ap (λ a. a.last) takes, ap (λ a. a.last) split) in (
      blocks,
      ap (λ (x : GsiBlock). x ∷ blocks) (same_block line b block
          (subst (λ (k : List ℕ). IsBlock k b) heads zip.0) is),
      record {
        lines = lines;
        left = end;
        each = zip.1;
        split = λ i. record { lines = tails i; last = lasts i };
        over = over;
      },
    )

pub line_comes : (t t' : ToCome) (number : ℕ) (block : GsiBlock) (blocks : List GsiBlock)
    → AreToCome t blocks → GivesLine t t' number block
    → (rest : List GsiBlock) × (blocks ≡ block ∷ rest) × AreToCome t' rest
line_comes t t' number block blocks to_come gives =
    by t'.answers
    (subst (λ (a : Option FileAnswers). TakesLine a t'.answers gives.line) to_come.known gives.takes)
    refl
  where
    by : (after : Option FileAnswers) → TakesLine (Some to_come.left) after gives.line
        → t'.answers ≡ after → (rest : List GsiBlock) × (blocks ≡ block ∷ rest) × AreToCome t' rest
    by None takes is = absurd takes
    by (Some after) takes is =
        let are = to_come.are_blocks in
        let next = first_comes to_come.left after gives.line block are.lines are.left blocks
        are.each are.split are.over takes gives.is_block in (
          next.0,
          next.1,
          record { left = after; known = is; are_blocks = next.2 },
        )

-- Where a file is over, no block is to come.
none_left : (left : FileAnswers) (blocks : List GsiBlock) (lines : List (List ℕ))
    (end : FileAnswers) → AllZip IsBlock lines blocks
    → left ≡ record { lines = lines ++ end.lines; last = end.last } → AreOver left → blocks ≡ []
none_left left [] lines end zip split over = refl
none_left left (b ∷ blocks) [] end zip split over = absurd zip
none_left left (b ∷ blocks) (l ∷ lines) end zip split over =
    absurd (not_over left (record { lines = lines ++ end.lines; last = end.last }) l b split zip.0
    over)

-- At the end no block is to come.
pub end_comes : (t t' : ToCome) (blocks : List GsiBlock) → AreToCome t blocks → GivesEnd t t'
    → blocks ≡ []
end_comes t t' blocks to_come gives =
    let are = to_come.are_blocks in
    none_left to_come.left blocks are.lines are.left are.each are.split
    (inl (rw to_come.known at gives.here))

-- Nor is one where a fault is answered.
pub fault_answered : (t t' : ToCome) (fault : FileFault) (blocks : List GsiBlock)
    → AreToCome t blocks → Answers t (Err fault) t' → blocks ≡ []
fault_answered t t' (At number kind) blocks to_come gives =
    let are = to_come.are_blocks in
    none_left to_come.left blocks are.lines are.left are.each are.split
    (inr (kind, rw to_come.known at gives.here))
fault_answered t t' Memory blocks to_come gives = absurd gives

-- The blocks of a file without a fault are those up to its end.
pub all_blocks : (file : FileAnswers) (blocks : List GsiBlock) → AreBlocksOf file blocks
    → AreBlocksUpTo file blocks
all_blocks file blocks are = record {
  lines = file.lines;
  left = only None;
  each = are.lines;
  split = λ i. record { lines = sym (append-nil file.lines) i; last = are.ended i };
  over = inl refl;
}
