-- The lines of a copy are those of the file, with the code lines between.
use Rattle.std.proofs.Common.{◌≡◌, ℕ, suc, ◌+◌, ◌-◌, ◌<◌, ◌≤◌, Bool, true, false, List, [], ◌∷◌}
use Rattle.std.proofs.Common.{◌++◌, length, filter, map, take, drop, refl, sym, ap, subst, ◌∙◌, inl}
use Rattle.std.proofs.Common.{inr, arith, append_assoc}
use Rattle.std.specs.Prelude.{◌==◌}
use Rattle.std.specs.List.{AllByRecursion, AllZip, flat_map}
use Rattle.std.proofs.Math.Seq.{take-add}
use Rattle.std.proofs.lemmas.Bool.{cases_Bool, cases_lt, eqb-true, eqb-false}
use Rattle.std.proofs.lemmas.List.{drop-drop, drop_at, take_at, take-append-drop, length-append}
use Rattle.std.proofs.lemmas.List.{length-drop}
use Rattle.std.proofs.lemmas.List.Splits.{slice_split_at}
use Rattle.gsi_word.specs.Blocks.{GsiBlock, IsBlock}
use Rattle.gsi_file.specs.Parts.{parts, is_line, is_line_end, numbered_lines, HasNoEnd}
use Rattle.set_marks.specs.declared.mark.Code.{Code}
use Rattle.set_marks.specs.declared.mark.Code.TheVariants.{Station, Set, Close}
use Rattle.set_marks.specs.declared.mark.BlockMark.{BlockMark}
use Rattle.set_marks.specs.declared.mark.Mark.{Mark}
use Rattle.set_marks.specs.Marks.{code_block, star, words_text, text_of, line_of, IsRoomy}
use Rattle.set_marks.specs.Placing.{marks_of_block, marks_after, placed_at, placed_from, placed}
use Rattle.set_marks.specs.Copies.{woven}
use Rattle.set_marks.specs.MarkedFile.{codes_before, with_codes}
use Rattle.set_marks.proofs.Identity.{is_block}
use Rattle.set_marks.proofs.CodeLineText.{text_has_no_end}
use Rattle.set_marks.proofs.WholeLines.{last_beyond}
use Rattle.gsi_file.proofs.NumberedLines.{LastEnds}
use Rattle.set_marks.proofs.Unmarked.{line_ends}
use Rattle.set_marks.proofs.Segments.{AreUp, AreFrom, from_later, none_before, earlier_codes}
use Rattle.gsi_file.proofs.NumberedLines.{numbered_append, one_numbered, one_part, some_part}
use Rattle.gsi_file.proofs.NumberedLines.{first_cut}

-- what each code line says has room
abbrev pub AreRoomy : List BlockMark → Type 0
AreRoomy ms = AllByRecursion IsRoomy ms

-- the text of a code line
abbrev code_text : BlockMark → List ℕ
code_text m = star m.wide ++ words_text m.wide m.code

-- lines after so many others, each after the code lines of its block
abbrev pub lines_with : ℕ → List BlockMark → List (List ℕ) → List (List ℕ)
lines_with n ms [] = []
lines_with n ms (l ∷ ls) = map code_text (marks_of_block (suc n) ms)
    ++ (l ∷ lines_with (suc n) (marks_after (suc n) ms) ls)

text_is_line : (wide : Bool) (code : Code) → is_line (star wide ++ words_text wide code) ≡ true
text_is_line true (Station name) = refl
text_is_line true (Set n) = refl
text_is_line true Close = refl
text_is_line false (Station name) = refl
text_is_line false (Set n) = refl
text_is_line false Close = refl

-- the code lines at a place
abbrev lines_at : List ℕ → ℕ → List BlockMark → List ℕ
lines_at bytes at ms = flat_map (λ m. line_of (placed_at bytes at m)) ms

woven_here : (bytes : List ℕ) (at : ℕ) (ms : List BlockMark) (later : List Mark)
    → woven at bytes (map (placed_at bytes at) ms ++ later) ≡ lines_at bytes at ms
    ++ woven at bytes later
woven_here bytes at [] later = refl
woven_here bytes at (m ∷ ms) later =
    let line = line_of (placed_at bytes at m) in
    let none : at - at ≡ 0 = omega arith in
    ap (λ (k : ℕ). take k (drop at bytes)
    ++ (line ++ woven at bytes (map (placed_at bytes at) ms ++ later))) none
    ∙ ap (λ (bs : List ℕ). line ++ bs) (woven_here bytes at ms later)
    ∙ sym (append_assoc line (lines_at bytes at ms) (woven at bytes later))

numbered_codes : (bytes : List ℕ) (at : ℕ) (ms : List BlockMark) (more : List ℕ) → AreRoomy ms
    → numbered_lines (lines_at bytes at ms ++ more) ≡ map code_text ms ++ numbered_lines more
numbered_codes bytes at [] more roomy = refl
numbered_codes bytes at (m ∷ ms) more roomy =
    let mark = placed_at bytes at m in
    ap (λ (bs : List ℕ). numbered_lines bs)
    (append_assoc (line_of mark) (lines_at bytes at ms) more)
    ∙ numbered_append (line_of mark) (lines_at bytes at ms ++ more) (line_ends mark)
    ∙ (λ i. one_numbered (text_of mark) mark.line_end (text_has_no_end mark roomy.0)
    (text_is_line m.wide m.code) i ++ numbered_codes bytes at ms more roomy.1 i)

-- each code line stands at this place or after it
abbrev AreBeyond : ℕ → List Mark → Type 0
AreBeyond at ms = AllByRecursion (λ m. at ≤ m.at) ms

beyond_both : (at : ℕ) (first ms : List Mark) → AreBeyond at first → AreBeyond at ms
    → AreBeyond at (first ++ ms)
beyond_both at [] ms a b = b
beyond_both at (m ∷ first) ms a b = (a.0, beyond_both at first ms a.1 b)

beyond_here : (bytes : List ℕ) (from at : ℕ) (ms : List BlockMark) → from ≤ at
    → AreBeyond from (map (placed_at bytes at) ms)
beyond_here bytes from at [] le = tt
beyond_here bytes from at (m ∷ ms) le = (le, beyond_here bytes from at ms le)

placed_beyond : (bytes : List ℕ) (from at number : ℕ) (ms : List BlockMark) (ps : List (List ℕ))
    → from ≤ at → AreBeyond from (placed_from bytes at number ms ps)
placed_beyond bytes from at number ms [] le = tt
placed_beyond bytes from at number ms (p ∷ ps) le = elim (cases_Bool (is_line p)) [
  | inl h ↦ rw h (beyond_both from (map (placed_at bytes at) (marks_of_block (suc number) ms))
      (placed_from bytes (at + length p + 1) (suc number) (marks_after (suc number) ms) ps)
      (beyond_here bytes from at (marks_of_block (suc number) ms) le)
      (placed_beyond bytes from (at + length p + 1) (suc number) (marks_after (suc number) ms) ps
      (omega arith)))
  | inr h ↦ rw h (placed_beyond bytes from (at + length p + 1) number ms ps (omega arith))
]

woven_on : (from at : ℕ) (bytes : List ℕ) (ms : List Mark) → from ≤ at → AreBeyond at ms
    → woven from bytes ms ≡ take (at - from) (drop from bytes) ++ woven at bytes ms
woven_on from at bytes [] le beyond =
    sym (take-append-drop (at - from) (drop from bytes))
    ∙ ap (λ (bs : List ℕ). take (at - from) (drop from bytes) ++ bs)
    (drop-drop (at - from) from bytes ∙ ap (λ (k : ℕ). drop k bytes) (omega arith))
woven_on from at bytes (m ∷ ms) le beyond =
    let later = beyond.0 in
    let rest = line_of m ++ woven m.at bytes ms in
    ap (λ (k : ℕ). take k (drop from bytes) ++ rest)
    (let e : m.at - from ≡ (at - from) + (m.at - at) = omega (arith, later, le) in e)
    ∙ ap (λ (bs : List ℕ). bs ++ rest) (take-add (at - from) (m.at - at) (drop from bytes)
    ∙ ap (λ (bs : List ℕ). take (at - from) (drop from bytes) ++ take (m.at - at) bs)
    (drop-drop (at - from) from bytes ∙ ap (λ (k : ℕ). drop k bytes) (omega arith)))
    ∙ append_assoc (take (at - from) (drop from bytes)) (take (m.at - at) (drop at bytes)) rest

-- Some of them are roomy.
pub roomy_first : (n : ℕ) (ms : List BlockMark) → AreRoomy ms → AreRoomy (marks_of_block n ms)
roomy_first n [] roomy = tt
roomy_first n (m ∷ ms) roomy = elim (cases_Bool (m.block == n)) [
  | inl h ↦ rw h (roomy.0, roomy_first n ms roomy.1)
  | inr h ↦ rw h tt
]

pub roomy_after : (n : ℕ) (ms : List BlockMark) → AreRoomy ms → AreRoomy (marks_after n ms)
roomy_after n [] roomy = tt
roomy_after n (m ∷ ms) roomy = elim (cases_Bool (m.block == n)) [
  | inl h ↦ rw h (roomy_after n ms roomy.1)
  | inr h ↦ rw h roomy
]

at_last : (bytes : List ℕ) (at number : ℕ) (ms : List BlockMark) (p : List ℕ)
    → drop at bytes ≡ p → HasNoEnd p → AreRoomy ms
    → numbered_lines (woven at bytes (placed_from bytes at number ms (p ∷ [])))
    ≡ lines_with number ms (filter is_line (p ∷ []))
at_last bytes at number ms p is none roomy =
    let first = marks_of_block (suc number) ms in
    let last : numbered_lines (drop at bytes) ≡ filter is_line (p ∷ []) =
    ap (λ (bs : List ℕ). numbered_lines bs) is
    ∙ ap (λ (ps : List (List ℕ)). filter is_line ps) (one_part p none) in
    elim (cases_Bool (is_line p)) [
      | inl h ↦ rw h (ap (λ (bs : List ℕ). numbered_lines bs) (woven_here bytes at first [])
          ∙ numbered_codes bytes at first (drop at bytes) (roomy_first (suc number) ms roomy)
          ∙ ap (λ (ls : List (List ℕ)). map code_text first ++ ls) (last ∙ rw h refl))
      | inr h ↦ rw h (last ∙ rw h refl)
    ]

kept : (p : List ℕ) → is_line p ≡ true → filter is_line (p ∷ [] ∷ []) ≡ p ∷ []
kept p h = rw h refl

dropped : (p : List ℕ) → is_line p ≡ false → filter is_line (p ∷ [] ∷ []) ≡ []
dropped p h = rw h refl

with_line : (bytes : List ℕ) (at number : ℕ) (ms : List BlockMark) (p : List ℕ)
    (ps : List (List ℕ)) (line : List ℕ) → AreRoomy ms
    → numbered_lines line ≡ filter is_line (p ∷ [] ∷ [])
    → ((n : ℕ) (ls : List BlockMark) → AreRoomy ls
    → numbered_lines
    (woven (at + length p + 1) bytes (placed_from bytes (at + length p + 1) n ls ps))
    ≡ lines_with n ls (filter is_line ps))
    → ((later : List Mark) → AreBeyond (at + length p + 1) later
    → woven at bytes later ≡ line ++ woven (at + length p + 1) bytes later)
    → ((more : List ℕ) → numbered_lines (line ++ more) ≡ numbered_lines line ++ numbered_lines more)
    → numbered_lines (woven at bytes (placed_from bytes at number ms (p ∷ ps)))
    ≡ lines_with number ms (filter is_line (p ∷ ps))
with_line bytes at number ms p ps line roomy one rest on joins =
    let next = at + length p + 1 in
    let first = marks_of_block (suc number) ms in
    let after = marks_after (suc number) ms in
    let far = λ (n : ℕ) (ls : List BlockMark). placed_beyond bytes next next n ls ps (omega arith)
    in
    let later = placed_from bytes next (suc number) after ps in
    let same = placed_from bytes next number ms ps in
    elim (cases_Bool (is_line p)) [
      | inl h ↦ rw h (ap (λ (bs : List ℕ). numbered_lines bs) (woven_here bytes at first later)
          ∙ numbered_codes bytes at first (woven at bytes later) (roomy_first (suc number) ms roomy)
          ∙ ap (λ (ls : List (List ℕ)). map code_text first ++ ls)
          (ap (λ (bs : List ℕ). numbered_lines bs) (on later (far (suc number) after))
          ∙ joins (woven next bytes later)
          ∙ (λ i. (one ∙ kept p h) i ++ rest (suc number) after (roomy_after (suc number) ms roomy)
          i)))
      | inr h ↦ rw h (ap (λ (bs : List ℕ). numbered_lines bs) (on same (far number ms))
          ∙ joins (woven next bytes same)
          ∙ (λ i. (one ∙ dropped p h) i ++ rest number ms roomy i))
    ]

later : (n k : ℕ) → n ≤ k → (k ≡ n → ⊥) → n < k
later n k le ne = elim (cases_lt n k) [
  | inl lt ↦ lt
  | inr ge ↦ absurd (ne (omega arith))
]

-- From a place of a file a line stands, with the byte that ends it, and then the rest.
pub record IsNext (bytes : List ℕ) (at : ℕ) (p : List ℕ) (end : ℕ) (rest : List ℕ) : Type 0 where
  pub split : drop at bytes ≡ (p ++ end ∷ []) ++ rest
  pub count : length (p ++ end ∷ []) ≡ length p + 1
  pub inside : at + length p + 1 ≤ length bytes
  pub beyond : drop (at + length p + 1) bytes ≡ rest

pub next_line : (bytes : List ℕ) (at : ℕ) (p : List ℕ) (end : ℕ) (rest : List ℕ)
    → at ≤ length bytes → drop at bytes ≡ p ++ end ∷ rest → IsNext bytes at p end rest
next_line bytes at p end rest le is =
    let line = p ++ end ∷ [] in
    let split : drop at bytes ≡ line ++ rest = is ∙ sym (append_assoc p (end ∷ []) rest) in
    let count : length line ≡ length p + 1 = length-append p (end ∷ []) in
    let long : length (drop at bytes) ≡ length p + suc (length rest) =
    ap (λ (bs : List ℕ). length bs) is ∙ length-append p (end ∷ rest) in
    record {
      split = split;
      count = count;
      inside = omega (arith, long, length-drop at bytes, le);
      beyond = ap (λ (k : ℕ). drop k bytes)
          (let q : at + length p + 1 ≡ at + (length p + 1) = omega arith in q)
          ∙ sym (drop-drop (length p + 1) at bytes)
          ∙ ap (λ (bs : List ℕ). drop (length p + 1) bs) split
          ∙ drop_at line rest (length p + 1) count;
    }

-- The lines from a place on.
pub from_place : (bytes : List ℕ) (at number : ℕ) (ms : List BlockMark) (ps : List (List ℕ))
    → at ≤ length bytes → parts (drop at bytes) ≡ ps → AreRoomy ms
    → numbered_lines (woven at bytes (placed_from bytes at number ms ps))
    ≡ lines_with number ms (filter is_line ps)
from_place bytes at number ms [] le e roomy = absurd (some_part (drop at bytes) e)
from_place bytes at number ms (p ∷ ps) le e roomy = elim (first_cut (drop at bytes) p ps e) [
  | inl a ↦ subst (λ (qs : List (List ℕ)). numbered_lines (woven at bytes
      (placed_from bytes at number ms (p ∷ qs))) ≡ lines_with number ms (filter is_line (p ∷ qs)))
      (sym a.beyond) (at_last bytes at number ms p a.is a.none roomy)
  | inr c ↦
      let line = p ++ c.end ∷ [] in
      let next = at + length p + 1 in
      let n = next_line bytes at p c.end c.rest le c.is in
      let piece : take (next - at) (drop at bytes) ≡ line =
      ap (λ (k : ℕ). take k (drop at bytes)) (let q : next - at ≡ length p + 1 = omega arith in q)
      ∙ ap (λ (bs : List ℕ). take (length p + 1) bs) n.split
      ∙ take_at line c.rest (length p + 1) n.count in
      let parted = ap (λ (bs : List ℕ). parts bs) n.beyond ∙ c.beyond in
      let last : LastEnds line = last_beyond p (c.end ∷ [])
      (record { byte = c.end; rest = []; are = refl; last = c.ends }) in
      let one : numbered_lines line ≡ filter is_line (p ∷ [] ∷ []) =
      ap (λ (ps : List (List ℕ)). filter is_line ps)
      (slice_split_at is_line_end p c.end [] c.none c.ends) in
      with_line bytes at number ms p ps line roomy one
      (λ number ls r. from_place bytes next number ls ps n.inside parted r)
      (λ later far. woven_on at next bytes later (omega arith) far
      ∙ ap (λ (bs : List ℕ). bs ++ woven next bytes later) piece)
      (λ more. numbered_append line more last)
]

-- The numbered lines of a copy.
pub copy_lines : (bytes : List ℕ) (ms : List BlockMark) → AreRoomy ms
    → numbered_lines (woven 0 bytes (placed bytes ms)) ≡ lines_with 0 ms (numbered_lines bytes)
copy_lines bytes ms roomy = from_place bytes 0 0 ms (parts bytes) (omega arith) refl roomy

up_from : (n : ℕ) (ms : List BlockMark) → AreUp n ms → AreFrom n ms
up_from n [] up = tt
up_from n (m ∷ ms) up = (up.0, from_later n m.block ms up.0 (up_from m.block ms up.1))

codes_first : (n : ℕ) (ms : List BlockMark) → AreUp n ms
    → codes_before ms n ≡ map (λ m. code_block m.wide m.code) (marks_of_block n ms)
codes_first n [] up = refl
codes_first n (m ∷ ms) up = elim (cases_Bool (m.block == n)) [
  | inl h ↦ rw h (ap (λ (bs : List GsiBlock). code_block m.wide m.code ∷ bs)
      (codes_first n ms (subst (λ (k : ℕ). AreUp k ms) (eqb-true m.block n h) up.1)))
  | inr h ↦
      let ne = eqb-false m.block n h in
      let lt : n < m.block = later n m.block up.0 ne in
      rw h (none_before n m.block ms lt (up_from m.block ms up.1))
]

codes_after : (n : ℕ) (ms : List BlockMark) (bs : List GsiBlock) → AreUp n ms
    → with_codes ms (suc n) bs ≡ with_codes (marks_after n ms) (suc n) bs
codes_after n [] bs up = refl
codes_after n (m ∷ ms) bs up = elim (cases_Bool (m.block == n)) [
  | inl h ↦
      let e = eqb-true m.block n h in
      rw h (earlier_codes n (suc n) (m ∷ []) ms bs (omega arith) (e, tt)
      ∙ codes_after n ms bs (subst (λ (k : ℕ). AreUp k ms) e up.1))
  | inr h ↦ rw h refl
]

up_after : (n : ℕ) (ms : List BlockMark) → AreUp n ms → AreUp (suc n) (marks_after n ms)
up_after n [] up = tt
up_after n (m ∷ ms) up = elim (cases_Bool (m.block == n)) [
  | inl h ↦ rw h (up_after n ms (subst (λ (k : ℕ). AreUp k ms) (eqb-true m.block n h) up.1))
  | inr h ↦ rw h (later n m.block up.0 (eqb-false m.block n h), up.1)
]

zip_codes : (ms : List BlockMark) (ls : List (List ℕ)) (bs : List GsiBlock) → AreRoomy ms
    → AllZip IsBlock ls bs
    → AllZip IsBlock (map code_text ms ++ ls) (map (λ m. code_block m.wide m.code) ms ++ bs)
zip_codes [] ls bs roomy zip = zip
zip_codes (m ∷ ms) ls bs roomy zip =
    (is_block (placed_at [] 0 m) roomy.0, zip_codes ms ls bs roomy.1 zip)

-- Lines with their code lines between are blocks with theirs.
pub lines_are_blocks : (n : ℕ) (ms : List BlockMark) (ls : List (List ℕ)) (bs : List GsiBlock)
    → AreRoomy ms → AreUp (suc n) ms → AllZip IsBlock ls bs
    → AllZip IsBlock (lines_with n ms ls) (with_codes ms (suc n) bs)
lines_are_blocks n ms [] [] roomy up zip = tt
lines_are_blocks n ms [] (b ∷ bs) roomy up zip = absurd zip
lines_are_blocks n ms (l ∷ ls) [] roomy up zip = absurd zip
lines_are_blocks n ms (l ∷ ls) (b ∷ bs) roomy up zip =
    let first = marks_of_block (suc n) ms in
    let after = marks_after (suc n) ms in
    let same : with_codes ms (suc n) (b ∷ bs) ≡ map (λ m. code_block m.wide m.code) first
    ++ (b ∷ with_codes after (suc (suc n)) bs) =
    (λ i. codes_first (suc n) ms up i ++ (b ∷ codes_after (suc n) ms bs up i)) in
    subst (λ (cs : List GsiBlock). AllZip IsBlock (lines_with n ms (l ∷ ls)) cs) (sym same)
    (zip_codes first (l ∷ lines_with (suc n) after ls) (b ∷ with_codes after (suc (suc n)) bs)
    (roomy_first (suc n) ms roomy) (
      zip.0,
      lines_are_blocks (suc n) after ls bs (roomy_after (suc n) ms roomy)
          (up_after (suc n) ms up) zip.1,
    ))
