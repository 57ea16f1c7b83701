-- No byte of a code line before its end ends a line.
use Rattle.std.proofs.Common.{◌≡◌, ℕ, Bool, true, false, List, [], ◌∷◌, ◌++◌, map, arith, All}
use Rattle.std.specs.List.{join_with_byte}
use Rattle.std.proofs.lemmas.Bool.{or_from, ne_eqb}
use Rattle.std.proofs.lemmas.List.Elements.{All-cons, All-head, All-nil, All-tail, All-append}
use Rattle.std.proofs.lemmas.List.Elements.{All-weaker}
use Rattle.gsi_word.specs.Words.{GsiWord, IsWord, IsLineByte, spelled}
use Rattle.gsi_word.proofs.WordLaws.{spelled_printable}
use Rattle.gsi_file.specs.Parts.{HasNoEnd, is_line_end}
use Rattle.set_marks.specs.declared.mark.Mark.{Mark}
use Rattle.set_marks.specs.Marks.{width_of, words_of, words_text, star, text_of, HasRoom}
use Rattle.set_marks.proofs.Identity.{are_words}

printable_ends_none : (b : ℕ) → IsLineByte b → is_line_end b ≡ false
printable_ends_none b p = or_from _ _ (ne_eqb b 10 (λ e. absurd (omega (arith, p.0, e))))
    (ne_eqb b 13 (λ e. absurd (omega (arith, p.0, e))))

words_printable : (width : ℕ) (words : List GsiWord) → All (IsWord width) words
    → All IsLineByte (join_with_byte 32 (map spelled words))
words_printable width [] each = All-nil IsLineByte
words_printable width (w ∷ []) each = spelled_printable width w
    (All-head (IsWord width) w [] each)
words_printable width (w ∷ v ∷ words) each = All-append IsLineByte (spelled w)
    (32 ∷ join_with_byte 32 (map spelled (v ∷ words)))
    (spelled_printable width w (All-head (IsWord width) w (v ∷ words) each))
    (All-cons IsLineByte 32 (join_with_byte 32 (map spelled (v ∷ words))) (omega arith, omega arith)
    (words_printable width (v ∷ words) (All-tail (IsWord width) w (v ∷ words) each)))

starred : (wide : Bool) (bytes : List ℕ) → All IsLineByte bytes
    → All IsLineByte (star wide ++ bytes)
starred true bytes each = All-cons IsLineByte 42 bytes (omega arith, omega arith) each
starred false bytes each = each

-- No byte of a code line's text ends a line.
pub text_has_no_end : (m : Mark) → HasRoom m.wide m.code → HasNoEnd (text_of m)
text_has_no_end m room = All-weaker IsLineByte (λ b. is_line_end b ≡ false) printable_ends_none
    (text_of m) (starred m.wide (words_text m.wide m.code)
    (words_printable (width_of m.wide) (words_of (width_of m.wide) m.code)
    (are_words m.wide m.code room)))
