-- The lines of bytes, each with what ends it.
use Rattle.std.proofs.Common.{◌≡◌, ℕ, cond, true, false, ◌&&◌, not, List, [], ◌∷◌, ◌++◌, filter}
use Rattle.std.proofs.Common.{refl, sym, ap, subst, ◌∙◌, inl, inr}
use Rattle.std.specs.Prelude.{◌==◌}
use Rattle.std.specs.List.{flat_map, list_any}
use Rattle.std.proofs.lemmas.Bool.{cases_Bool, and_from, and_right, or_parts}
use Rattle.std.proofs.lemmas.List.Elements.{filter-append, All-head, All-tail}
use Rattle.std.proofs.lemmas.Grind.{flat_map-append}
use Rattle.gsi_file.specs.Parts.{HasNoEnd, is_line_end}
use Rattle.gsi_file.specs.declared.beside.LineEnd.{LineEnd}
use Rattle.gsi_file.specs.declared.beside.LineEnd.TheVariants.{LineFeed, CarriageReturn, Both}
use Rattle.gsi_file.specs.Beside.{end_bytes}
use Rattle.gsi_file.proofs.NumberedLines.{LastEnds}
use Rattle.set_marks.specs.Copies.{EndsLine}
use Rattle.set_marks.specs.Unmarked.{begins_with_feed, ends_line, with_first, whole_lines}
use Rattle.set_marks.specs.Unmarked.{is_put_in, unmarked}

last_of_front : (front : List ℕ) (byte : ℕ) → is_line_end byte ≡ true
    → LastEnds (front ++ byte ∷ [])
last_of_front [] byte e = e
last_of_front (a ∷ []) byte e = e
last_of_front (a ∷ b ∷ front) byte e = last_of_front (b ∷ front) byte e

-- The last byte of a piece that ends a line ends it.
pub last_ends : (piece : List ℕ) → EndsLine piece → LastEnds piece
last_ends piece h = elim h.ends [
  | inl e ↦ subst LastEnds (sym e) tt
  | inr k ↦ subst LastEnds (sym k.2) (last_of_front k.0 k.1 k.3)
]

-- There is a byte, and the last ends a line.
pub record SomeLast (bytes : List ℕ) : Type 0 where
  pub byte : ℕ
  pub rest : List ℕ
  pub are : bytes ≡ byte ∷ rest
  pub last : LastEnds (byte ∷ rest)

last_after : (text : List ℕ) (b : ℕ) (bytes : List ℕ) → LastEnds (b ∷ bytes)
    → LastEnds (text ++ b ∷ bytes)
last_after [] b bytes last = last
last_after (a ∷ []) b bytes last = last
last_after (a ∷ c ∷ text) b bytes last = last_after (c ∷ text) b bytes last

-- Bytes end a line where the last of them do.
pub last_beyond : (text bytes : List ℕ) → SomeLast bytes → LastEnds (text ++ bytes)
last_beyond text bytes h = subst (λ (bs : List ℕ). LastEnds (text ++ bs)) (sym h.are)
    (last_after text h.byte h.rest h.last)

record SomeLine (bytes : List ℕ) : Type 0 where
  pub line : List ℕ
  pub lines : List (List ℕ)
  pub are : whole_lines bytes ≡ line ∷ lines

some_line : (b : ℕ) (bytes : List ℕ) → SomeLine (b ∷ bytes)
some_line b bytes = elim (cases_Bool (ends_line b bytes)) [
  | inl h ↦ record { line = b ∷ []; lines = whole_lines bytes; are = rw h refl }
  | inr h ↦ by (whole_lines bytes) (rw h refl)
] where
  by : (ls : List (List ℕ)) → whole_lines (b ∷ bytes) ≡ with_first b ls → SomeLine (b ∷ bytes)
  by [] e = record { line = b ∷ []; lines = []; are = e }
  by (l ∷ ls) e = record { line = b ∷ l; lines = ls; are = e }

longer : (b : ℕ) (bytes more : List ℕ) → SomeLine bytes
    → whole_lines (bytes ++ more) ≡ whole_lines bytes ++ whole_lines more
    → with_first b (whole_lines (bytes ++ more)) ≡ with_first b (whole_lines bytes)
    ++ whole_lines more
longer b bytes more some e =
    ap (λ ls. with_first b ls) (e ∙ ap (λ ls. ls ++ whole_lines more) some.are)
    ∙ ap (λ ls. with_first b ls ++ whole_lines more) (sym some.are)

ends_before : (b : ℕ) (after : List ℕ) → is_line_end b ≡ true → begins_with_feed after ≡ false
    → ends_line b after ≡ true
ends_before b after e feed = and_from (is_line_end b) (not (b == 13 && begins_with_feed after)) e
    (ap not (and_right (b == 13) (begins_with_feed after) feed))

-- Where a line begins between them, the lines of two pieces are those of the first and those of the
-- second.
pub lines_append : (a b : List ℕ) → LastEnds a → begins_with_feed b ≡ false
    → whole_lines (a ++ b) ≡ whole_lines a ++ whole_lines b
lines_append [] b last feed = refl
lines_append (x ∷ []) b last feed =
    ap (λ v. cond v ((x ∷ []) ∷ whole_lines b) (with_first x (whole_lines b)))
    (ends_before x b last feed)
    ∙ sym (ap (λ v. cond v ((x ∷ []) ∷ []) ((x ∷ []) ∷ []) ++ whole_lines b)
    (ends_before x [] last refl))
lines_append (x ∷ y ∷ a) b last feed = elim (cases_Bool (ends_line x (y ∷ a))) [
  | inl h ↦ rw h (ap (λ ls. (x ∷ []) ∷ ls) (lines_append (y ∷ a) b last feed))
  | inr h ↦ rw h (longer x (y ∷ a) b (some_line y a) (lines_append (y ∷ a) b last feed))
]

-- The bytes are the lines, one after another.
pub lines_joined : (bytes : List ℕ) → flat_map (λ line. line) (whole_lines bytes) ≡ bytes
lines_joined [] = refl
lines_joined (b ∷ bytes) = elim (cases_Bool (ends_line b bytes)) [
  | inl h ↦ rw h (ap (λ bs. b ∷ bs) (lines_joined bytes))
  | inr h ↦ rw h (first (whole_lines bytes) ∙ ap (λ bs. b ∷ bs) (lines_joined bytes))
] where
  first : (ls : List (List ℕ)) → flat_map (λ line. line) (with_first b ls) ≡ b
      ∷ flat_map (λ line. line) ls
  first [] = refl
  first (l ∷ ls) = refl

-- A text that ends no line, and what ends one, are one line.
pub one_line : (text : List ℕ) (end : LineEnd) → HasNoEnd text
    → whole_lines (text ++ end_bytes end) ≡ (text ++ end_bytes end) ∷ []
one_line [] LineFeed none = refl
one_line [] CarriageReturn none = refl
one_line [] Both none = refl
one_line (b ∷ text) end none =
    let h : is_line_end b ≡ false = All-head (λ c. is_line_end c ≡ false) b text none in
    let rest = one_line text end (All-tail (λ c. is_line_end c ≡ false) b text none) in
    rw h (ap (λ ls. with_first b ls) rest)

none_dropped : (lines : List (List ℕ)) → list_any is_put_in lines ≡ false
    → filter (λ line. not (is_put_in line)) lines ≡ lines
none_dropped [] e = refl
none_dropped (l ∷ ls) e = let p = or_parts (is_put_in l) (list_any is_put_in ls) e in
    rw p.0 (ap (λ xs. l ∷ xs) (none_dropped ls p.1))

-- Bytes without such a line stay as they are.
pub unmarked_without : (bytes : List ℕ) → list_any is_put_in (whole_lines bytes) ≡ false
    → unmarked bytes ≡ bytes
unmarked_without bytes e = ap (λ ls. flat_map (λ line. line) ls)
    (none_dropped (whole_lines bytes) e)
    ∙ lines_joined bytes

-- The lines are left out of each of two pieces.
pub unmarked_append : (a b : List ℕ) → LastEnds a → begins_with_feed b ≡ false
    → unmarked (a ++ b) ≡ unmarked a ++ unmarked b
unmarked_append a b last feed =
    ap (λ ls. flat_map (λ line. line) (filter (λ line. not (is_put_in line)) ls))
    (lines_append a b last feed)
    ∙ ap (λ ls. flat_map (λ line. line) ls)
    (filter-append (λ line. not (is_put_in line)) (whole_lines a) (whole_lines b))
    ∙ flat_map-append (λ line. line) (filter (λ line. not (is_put_in line)) (whole_lines a))
    (filter (λ line. not (is_put_in line)) (whole_lines b))
