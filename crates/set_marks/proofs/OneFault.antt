-- The blocks of a file are one list, and the fault of a line that is answered is one.
use Rattle.std.proofs.Common.{◌≡◌, ℕ, suc, ◌+◌, List, [], ◌∷◌, ◌++◌, length, reverse, Option, Some}
use Rattle.std.proofs.Common.{None, refl, sym, ap, subst, ◌∙◌, inl, inr}
use Rattle.std.specs.List.{AllZip}
use Rattle.std.proofs.lemmas.List.{reverse-reverse, length-reverse}
use Rattle.gsi_word.specs.Blocks.{GsiBlock, IsBlock}
use Rattle.gsi_file.specs.FileAnswers.{FileAnswers}
use Rattle.gsi_file.specs.ToCome.{FaultIsNext}
use Rattle.gsi_file.specs.ToCome as to_come
use Rattle.gsi_file.specs.declared.file_fault.FileKind.{FileKind}
use Rattle.gsi_file.proofs.LawLemmas.{one_fault, no_fault_in_a_block}
use Rattle.station_book.specs.Places.{History}
use Rattle.set_marks.specs.Markings.{AreBlocks, IsFileFault}
use Rattle.set_marks.proofs.CopyRead.{one_each}

-- The blocks of a file are one list.
pub one_history : (answers : FileAnswers) (g h : History) → AreBlocks answers g
    → AreBlocks answers h → g ≡ h
one_history answers g h a b = sym (reverse-reverse g)
    ∙ ap (λ (bs : List GsiBlock). reverse bs) (one_each answers.lines (reverse g) (reverse h)
    a.each b.each) ∙ reverse-reverse h

-- The fault that is next before these lines and this end.
abbrev FaultBefore : List (List ℕ) → Option FileKind → FileKind → Type 0
FaultBefore lines last kind = FaultIsNext (record { lines = lines; last = last }) kind

-- No fault is next before a line that is a block.
none_before_block : (line : List ℕ) (b : GsiBlock) (lines rest : List (List ℕ))
    (last : Option FileKind) (kind : FileKind) → IsBlock line b → lines ≡ line ∷ rest
    → FaultBefore lines last kind → ⊥
none_before_block line b lines rest last kind block is (inl only) =
    let e : line ∷ rest ≡ [] = sym is ∙ ap (λ (a : FileAnswers). a.lines) only in cc
none_before_block line b lines rest last kind block is (inr next) =
    let e : line ∷ rest ≡ next.0 ∷ next.1 = sym is ∙ next.2 in
    let same : next.0 ≡ line = cc in
    no_fault_in_a_block line kind b
    (subst (λ (l : List ℕ). to_come.IsFileFault l kind) same next.3) block

-- Two faults that are next are one.
one_next : (lines : List (List ℕ)) (last : Option FileKind) (a b : FileKind)
    → FaultBefore lines last a → FaultBefore lines last b → a ≡ b
one_next lines last a b (inl p) (inl h) =
    let e : Some a ≡ Some b = sym (ap (λ (x : FileAnswers). x.last) p)
    ∙ ap (λ (x : FileAnswers). x.last) h in cc
one_next lines last a b (inl p) (inr h) =
    let e : [] ≡ h.0 ∷ h.1 = sym (ap (λ (x : FileAnswers). x.lines) p) ∙ h.2 in cc
one_next lines last a b (inr p) (inl h) =
    let e : [] ≡ p.0 ∷ p.1 = sym (ap (λ (x : FileAnswers). x.lines) h) ∙ p.2 in cc
one_next lines last a b (inr p) (inr h) =
    let e : p.0 ∷ p.1 ≡ h.0 ∷ h.1 = sym p.2 ∙ h.2 in
    let same : p.0 ≡ h.0 = cc in
    one_fault h.0 a b (subst (λ (l : List ℕ). to_come.IsFileFault l a) same p.3) h.3

-- Two faults of one file stand at one place.
one_place : (A B X Y : List (List ℕ)) (cs ds : List GsiBlock) (last : Option FileKind)
    (a b : FileKind) → AllZip IsBlock A cs → AllZip IsBlock B ds → A ++ X ≡ B ++ Y
    → FaultBefore X last a → FaultBefore Y last b → (length cs ≡ length ds) × (a ≡ b)
one_place [] [] X Y [] [] last a b each also e p h =
    (refl, one_next Y last a b (subst (λ (l : List (List ℕ)). FaultBefore l last a) e p) h)
one_place [] [] X Y [] (d ∷ ds) last a b each also e p h = absurd also
one_place [] B X Y (c ∷ cs) ds last a b each also e p h = absurd each
one_place [] (l ∷ B) X Y [] [] last a b each also e p h = absurd also
one_place [] (l ∷ B) X Y [] (d ∷ ds) last a b each also e p h =
    absurd (none_before_block l d X (B ++ Y) last a also.0 e p)
one_place (k ∷ A) B X Y [] ds last a b each also e p h = absurd each
one_place (k ∷ A) [] X Y (c ∷ cs) [] last a b each also e p h =
    absurd (none_before_block k c Y (A ++ X) last b each.0 (sym e) h)
one_place (k ∷ A) [] X Y (c ∷ cs) (d ∷ ds) last a b each also e p h = absurd also
one_place (k ∷ A) (l ∷ B) X Y (c ∷ cs) [] last a b each also e p h = absurd also
one_place (k ∷ A) (l ∷ B) X Y (c ∷ cs) (d ∷ ds) last a b each also e p h =
    let tails : A ++ X ≡ B ++ Y = cc in
    let same = one_place A B X Y cs ds last a b each.1 also.1 tails p h in
    (ap (λ n. suc n) same.0, same.1)

-- A file has one fault of a line at most.
pub one_file_fault : (answers : FileAnswers) (n m : ℕ) (a b : FileKind)
    → IsFileFault answers n a → IsFileFault answers m b → (n ≡ m) × (a ≡ b)
one_file_fault answers n m a b p h =
    let split = sym p.split ∙ h.split in
    let lines : p.lines ++ p.left.lines ≡ h.lines ++ h.left.lines =
    ap (λ (x : FileAnswers). x.lines) split in
    let last : p.left.last ≡ h.left.last = ap (λ (x : FileAnswers). x.last) split in
    let same = one_place p.lines h.lines p.left.lines h.left.lines (reverse p.blocks)
    (reverse h.blocks) h.left.last a b p.each h.each lines
    (subst (λ (o : Option FileKind). FaultBefore p.left.lines o a) last p.fault) h.fault in (
      p.counted ∙ ap (λ n. n + 1) (sym (length-reverse p.blocks) ∙ same.0
          ∙ length-reverse h.blocks) ∙ sym h.counted,
      same.1,
    )

-- A line among blocks is one.
is_block_among : (A rest : List (List ℕ)) (line : List ℕ) (bs : List GsiBlock)
    → AllZip IsBlock (A ++ line ∷ rest) bs → (b : GsiBlock) × IsBlock line b
is_block_among [] rest line [] each = absurd each
is_block_among [] rest line (b ∷ bs) each = (b, each.0)
is_block_among (l ∷ A) rest line [] each = absurd each
is_block_among (l ∷ A) rest line (b ∷ bs) each = is_block_among A rest line bs each.1

-- A file whose lines are all blocks has no fault of a line.
pub no_file_fault : (answers : FileAnswers) (h : History) (n : ℕ) (kind : FileKind)
    → AreBlocks answers h → IsFileFault answers n kind → ⊥
no_file_fault answers h n kind are fault = by fault.fault where
  by : FaultIsNext fault.left kind → ⊥
  by (inl only) =
      let e : None ≡ Some kind = sym are.ended ∙ ap (λ (x : FileAnswers). x.last) fault.split
      ∙ ap (λ (x : FileAnswers). x.last) only in cc
  by (inr next) =
      let lines : answers.lines ≡ fault.lines ++ next.0 ∷ next.1 =
      ap (λ (x : FileAnswers). x.lines) fault.split
      ∙ ap (λ (l : List (List ℕ)). fault.lines ++ l) next.2 in
      let b = is_block_among fault.lines next.1 next.0 (reverse h)
      (subst (λ (l : List (List ℕ)). AllZip IsBlock l (reverse h)) lines are.each) in
      no_fault_in_a_block next.0 kind b.0 next.3 b.1
