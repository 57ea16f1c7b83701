-- What a text tells of its field file is one.
use Rattle.std.proofs.Common.{◌≡◌, ◌∙◌, ◌∷◌, [], ℕ, List, refl, sym}
use Rattle.std.specs.List.{AllZip}
use Rattle.gsi_file.specs.FileAnswers.{FileAnswers}
use Rattle.gsi_word.proofs.LineLaws.{same_block}
use Rattle.gsi_word.specs.Blocks.{GsiBlock, IsBlock}
use Rattle.instrument_reports.specs.Answers.{Putting, TellsInstrument}
use Rattle.instrument_words.specs.Instrument.{instrument_of}

-- Lines are one list of blocks.
same_blocks : (lines : List (List ℕ)) (xs ys : List GsiBlock) → AllZip IsBlock lines xs
    → AllZip IsBlock lines ys → xs ≡ ys
same_blocks [] [] [] a b = refl
same_blocks [] (x ∷ xs) ys a b = absurd a
same_blocks [] [] (y ∷ ys) a b = absurd b
same_blocks (l ∷ lines) [] ys a b = absurd a
same_blocks (l ∷ lines) (x ∷ xs) [] a b = absurd b
same_blocks (l ∷ lines) (x ∷ xs) (y ∷ ys) a b =
    let head = same_block l x y a.0 b.0 in
    let rest = same_blocks lines xs ys a.1 b.1 in
    λ i. head i ∷ rest i

-- A text that is made of one that is one, and of what a file recorded, is one.
pub one_text : (put : Putting) (file : FileAnswers) (IsOwn : List ℕ → Type 0)
    → ((x y : List ℕ) → IsOwn x → IsOwn y → x ≡ y) → (a b : List ℕ)
    → TellsInstrument put file IsOwn a → TellsInstrument put file IsOwn b → a ≡ b
one_text put file IsOwn one a b p q =
    let own = one p.own q.own p.is_own q.is_own in
    let blocks = same_blocks file.lines p.blocks q.blocks p.of_file.lines q.of_file.lines in
    p.text_is ∙ (λ i. put (instrument_of (blocks i)) (own i)) ∙ sym q.text_is
