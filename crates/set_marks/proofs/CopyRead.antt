-- The copy of a marked file: its blocks, what the book finds in it, and what it is without its code
-- lines.
use Rattle.std.proofs.Common.{◌≡◌, ℕ, Bool, true, false, List, [], ◌∷◌, ◌++◌, reverse, Option, Some}
use Rattle.std.proofs.Common.{None, refl, sym, ap, subst, ◌∙◌, append_assoc}
use Rattle.std.specs.Prelude.{IfSome}
use Rattle.std.specs.List.{AllZip, list_any}
use Rattle.std.proofs.lemmas.List.{reverse-reverse, reverse-append, append-nil}
use Rattle.std.proofs.lemmas.List.Elements.{All-from_recursion}
use Rattle.gsi_word.specs.Blocks.{GsiBlock, IsBlock}
use Rattle.gsi_word.proofs.LineLaws.{same_block}
use Rattle.gsi_file.specs.Parts.{numbered_lines}
use Rattle.gsi_file.specs.FileAnswers.{file_answers, answers_within, answers_by, first_break}
use Rattle.gsi_file.specs.declared.bounds.TheConstants.{LONGEST_FILE}
use Rattle.adjust_kernel.specs.Names.{IsName}
use Rattle.station_book.specs.Places.{History}
use Rattle.job_statements.specs.declared.beginnings.Beginnings.{Beginnings}
use Rattle.set_marks.specs.declared.marked.Marked.{Marked}
use Rattle.job_statements.specs.Numbers.{Said}
use Rattle.set_marks.specs.Marking.{marks_of}
use Rattle.set_marks.specs.Markings.{IsMarking, copy_of}
use Rattle.set_marks.specs.Placing.{placed}
use Rattle.set_marks.specs.Copies.{woven}
use Rattle.set_marks.specs.Unmarked.{BeginsSomeLine, is_put_in, unmarked, whole_lines}
use Rattle.set_marks.specs.MarkedBlocks.{grown}
use Rattle.set_marks.specs.MarkedFile.{copy_blocks, copy_history, AreBlocksOf, IsFoundAsDivided}
use Rattle.set_marks.proofs.Unmarked.{bytes_come_back}
use Rattle.set_marks.proofs.CopyFound.{found_as_divided, no_fault_of_codes, no_fault_at_end}
use Rattle.set_marks.proofs.CopyBlocks.{copy_is_blocks, all_roomy}
use Rattle.set_marks.proofs.CopyPlaces.{are_well}

grown_is : (past : History) (bs : List GsiBlock) → grown past bs ≡ reverse bs ++ past
grown_is past [] = refl
grown_is past (b ∷ bs) = grown_is (b ∷ past) bs
    ∙ sym (append_assoc (reverse bs) (b ∷ []) past)
    ∙ ap (λ (cs : List GsiBlock). cs ++ past) (sym (reverse-append (b ∷ []) bs))

history_of : (bs : List GsiBlock) → reverse (grown [] bs) ≡ bs
history_of bs = ap (λ (cs : List GsiBlock). reverse cs) (grown_is [] bs ∙ append-nil (reverse bs))
    ∙ reverse-reverse bs

-- Lines are blocks of one list.
pub one_each : (lines : List (List ℕ)) (bs cs : List GsiBlock) → AllZip IsBlock lines bs
    → AllZip IsBlock lines cs → bs ≡ cs
one_each [] [] [] a b = refl
one_each [] [] (y ∷ cs) a b = absurd b
one_each [] (x ∷ bs) cs a b = absurd a
one_each (l ∷ ls) [] cs a b = absurd a
one_each (l ∷ ls) (x ∷ bs) [] a b = absurd b
one_each (l ∷ ls) (x ∷ bs) (y ∷ cs) a b =
    (λ i. same_block l x y a.0 b.0 i ∷ one_each ls bs cs a.1 b.1 i)

-- Bytes have one history.
one_history : (bytes : List ℕ) (g h : History) → AreBlocksOf bytes g → AreBlocksOf bytes h → g ≡ h
one_history bytes g h a b = sym (reverse-reverse g)
    ∙ ap (λ (bs : List GsiBlock). reverse bs)
    (one_each (numbered_lines bytes) (reverse g) (reverse h) a b)
    ∙ reverse-reverse h

-- Where a file ends without a fault, its lines are its numbered lines.
all_lines : (bytes : List ℕ) (fails : Bool)
    → (file_answers (record { bytes = bytes; fails = fails })).last ≡ None
    → (file_answers (record { bytes = bytes; fails = fails })).lines ≡ numbered_lines bytes
unfolding answers_within
all_lines bytes fails e = by (first_break LONGEST_FILE bytes) fails e where
  by : (o : Option ℕ) (f : Bool) → (answers_by LONGEST_FILE bytes f o).last ≡ None
      → (answers_by LONGEST_FILE bytes f o).lines ≡ numbered_lines bytes
  by (Some x) f e = cc
  by None true e = cc
  by None false e = refl

module _ (beginnings : Beginnings) (stated : Said) (bytes : List ℕ) (fails : Bool)
    (m : Marked)
    (is : IfSome beginnings.station IsName)
    (marking : IsMarking beginnings stated bytes
    (file_answers (record { bytes = bytes; fails = fails })) m)
  where
    file_blocks : AreBlocksOf bytes marking.blocks
    file_blocks = subst (λ (ls : List (List ℕ)). AllZip IsBlock ls (reverse marking.blocks))
        (all_lines bytes fails marking.are_blocks.ended) marking.are_blocks.each

    -- The copy has the file's blocks, with those of the code lines before theirs.
    pub copy_has_blocks : AreBlocksOf (copy_of bytes m)
        (copy_history beginnings stated marking.blocks)
    copy_has_blocks =
        subst (λ (copy : List ℕ). AreBlocksOf copy (copy_history beginnings stated marking.blocks))
        (sym marking.copy) (subst (λ (bs : List GsiBlock). AllZip IsBlock
        (numbered_lines (woven 0 bytes (placed bytes
        (marks_of beginnings stated marking.blocks)))) bs)
        (sym (history_of (copy_blocks beginnings stated marking.blocks)))
        (copy_is_blocks beginnings stated bytes marking.blocks file_blocks is marking.clean))

    -- In it the book finds each reading where the division puts it.
    pub copy_is_found : (copy : History) → AreBlocksOf (copy_of bytes m) copy
        → IsFoundAsDivided beginnings stated marking.blocks copy
    copy_is_found copy blocks =
        let lines = numbered_lines bytes in
        let h = marking.blocks in
        subst (λ (g : History). IsFoundAsDivided beginnings stated h g)
        (one_history (copy_of bytes m) (copy_history beginnings stated h) copy copy_has_blocks
        blocks)
        (record {
          found = found_as_divided beginnings stated lines h file_blocks is marking.clean;
          faults = no_fault_of_codes beginnings stated lines h file_blocks is marking.clean;
          end = no_fault_at_end beginnings stated lines h file_blocks is marking.clean;
        })

    -- Without its code lines it is the file.
    pub copy_without : list_any is_put_in (whole_lines bytes) ≡ false → unmarked (copy_of bytes m)
        ≡ bytes
    copy_without none =
        let marks = marks_of beginnings stated marking.blocks in
        let well = are_well bytes marks
        (all_roomy beginnings stated bytes marking.blocks file_blocks is) in
        ap (λ (copy : List ℕ). unmarked copy) marking.copy
        ∙ bytes_come_back bytes (placed bytes marks) well.ordered
        (All-from_recursion (BeginsSomeLine bytes) (placed bytes marks) well.each) none
