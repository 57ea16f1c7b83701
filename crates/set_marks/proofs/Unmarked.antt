-- Without the code lines, a copy is the field file.
use Rattle.std.proofs.Common.{◌≡◌, ℕ, zero, suc, ◌-◌, ◌<◌, Bool, true, false, List, [], ◌∷◌, ◌++◌}
use Rattle.std.proofs.Common.{length, take, drop, refl, sym, ap, ◌∙◌, append_assoc, All, arith}
use Rattle.std.specs.Prelude.{slice_index}
use Rattle.std.specs.List.{list_any}
use Rattle.std.proofs.lemmas.Bool.{or_parts}
use Rattle.std.proofs.lemmas.List.{take-append-drop, drop-drop}
use Rattle.std.proofs.lemmas.List.Elements.{All-head, All-tail}
use Rattle.gsi_file.specs.Parts.{is_line_end}
use Rattle.set_marks.specs.declared.mark.Code.{Code}
use Rattle.set_marks.specs.declared.mark.Code.TheVariants.{Station, Set, Close}
use Rattle.set_marks.specs.declared.mark.Mark.{Mark}
use Rattle.gsi_file.specs.declared.beside.LineEnd.{LineEnd}
use Rattle.gsi_file.specs.declared.beside.LineEnd.TheVariants.{LineFeed, CarriageReturn, Both}
use Rattle.gsi_file.specs.Beside.{end_bytes}
use Rattle.gsi_file.proofs.NumberedLines.{LastEnds}
use Rattle.set_marks.specs.Marks.{line_of, text_of, star, words_text, HasRoom}
use Rattle.set_marks.specs.Copies.{woven, AreOrdered}
use Rattle.set_marks.specs.Unmarked.{begins_with_feed, whole_lines, is_put_in, unmarked}
use Rattle.set_marks.specs.Unmarked.{BeginsSomeLine}
use Rattle.set_marks.proofs.Identity.{ends_line}
use Rattle.set_marks.proofs.CodeLineText.{text_has_no_end}
use Rattle.set_marks.proofs.WholeLines.{last_ends, SomeLast, last_beyond, one_line}
use Rattle.set_marks.proofs.WholeLines.{unmarked_append, unmarked_without}

begins_as : (wide : Bool) (code : Code) (more : List ℕ)
    → begins_with_feed ((star wide ++ words_text wide code) ++ more) ≡ false
begins_as true (Station name) more = refl
begins_as true (Set n) more = refl
begins_as true Close more = refl
begins_as false (Station name) more = refl
begins_as false (Set n) more = refl
begins_as false Close more = refl

line_begins : (more : List ℕ) (m : Mark) → begins_with_feed (line_of m ++ more) ≡ false
line_begins more m = ap (λ bs. begins_with_feed bs)
    (append_assoc (text_of m) (end_bytes m.line_end) more)
    ∙ begins_as m.wide m.code (end_bytes m.line_end ++ more)

put_in_as : (wide : Bool) (code : Code) (more : List ℕ)
    → is_put_in ((star wide ++ words_text wide code) ++ more) ≡ true
put_in_as true (Station name) more = refl
put_in_as true (Set n) more = refl
put_in_as true Close more = refl
put_in_as false (Station name) more = refl
put_in_as false (Set n) more = refl
put_in_as false Close more = refl

unmarked_line : (m : Mark) → HasRoom m.wide m.code → unmarked (line_of m) ≡ []
unmarked_line m room = rw (
  one_line (text_of m) m.line_end (text_has_no_end m room),
  put_in_as m.wide m.code (end_bytes m.line_end),
) refl

end_ends : (end : LineEnd) → SomeLast (end_bytes end)
end_ends LineFeed = record { byte = 10; rest = []; are = refl; last = refl }
end_ends CarriageReturn = record { byte = 13; rest = []; are = refl; last = refl }
end_ends Both = record { byte = 13; rest = 10 ∷ []; are = refl; last = refl }

-- A code line ends a line.
pub line_ends : (m : Mark) → LastEnds (line_of m)
line_ends m = last_beyond (text_of m) (end_bytes m.line_end) (end_ends m.line_end)

-- The bytes from a place where a line with a byte begins do not begin with a line feed.
no_feed : (bytes : List ℕ) (at : ℕ) → at < length bytes
    → is_line_end (slice_index bytes at) ≡ false → begins_with_feed (drop at bytes) ≡ false
no_feed [] at lt e = absurd (omega arith)
no_feed (b ∷ bytes) zero lt e = (or_parts _ _ e).0
no_feed (b ∷ bytes) (suc at) lt e = no_feed bytes at (omega arith) e

no_feed_piece : (n : ℕ) (bytes more : List ℕ) → begins_with_feed bytes ≡ false
    → begins_with_feed more ≡ false → begins_with_feed (take n bytes ++ more) ≡ false
no_feed_piece zero bytes more e f = f
no_feed_piece (suc n) [] more e f = f
no_feed_piece (suc n) (b ∷ bytes) more e f = e

woven_begins : (at : ℕ) (bytes : List ℕ) (ms : List Mark)
    → begins_with_feed (drop at bytes) ≡ false → begins_with_feed (woven at bytes ms) ≡ false
woven_begins at bytes [] e = e
woven_begins at bytes (m ∷ ms) e = no_feed_piece (m.at - at) (drop at bytes)
    (line_of m ++ woven m.at bytes ms) e (line_begins (woven m.at bytes ms) m)

-- The lines of four points left out, the woven bytes are what the bytes are.
pub unmarked_woven : (from : ℕ) (bytes : List ℕ) (ms : List Mark)
    → AreOrdered from (length bytes) ms → All (BeginsSomeLine bytes) ms
    → unmarked (woven from bytes ms) ≡ unmarked (drop from bytes)
unmarked_woven from bytes [] ordered each = refl
unmarked_woven from bytes (m ∷ ms) ordered each =
    let here = All-head (BeginsSomeLine bytes) m ms each in
    let piece = take (m.at - from) (drop from bytes) in
    let line = line_of m in
    let more = woven m.at bytes ms in
    let last : LastEnds piece = last_ends piece
    (ends_line from bytes m ordered.0 ordered.1 here.begins) in
    let feed = no_feed bytes m.at here.inside here.some_byte in
    let beyond : drop (m.at - from) (drop from bytes) ≡ drop m.at bytes =
    drop-drop (m.at - from) from bytes ∙ ap (λ (k : ℕ). drop k bytes) (omega arith) in
    let rest = unmarked_woven m.at bytes ms ordered.3 (All-tail (BeginsSomeLine bytes) m ms each) in
    unmarked_append piece (line ++ more) last (line_begins more m)
    ∙ ap (λ bs. unmarked piece ++ bs) (unmarked_append line more (line_ends m)
    (woven_begins m.at bytes ms feed)
    ∙ ap (λ bs. bs ++ unmarked more) (unmarked_line m ordered.2) ∙ rest)
    ∙ sym (unmarked_append piece (drop m.at bytes) last feed)
    ∙ ap (λ bs. unmarked bs) (ap (λ bs. piece ++ bs) (sym beyond)
    ∙ take-append-drop (m.at - from) (drop from bytes))

-- Where the bytes have no such line, they come back.
pub bytes_come_back : (bytes : List ℕ) (ms : List Mark)
    → AreOrdered 0 (length bytes) ms → All (BeginsSomeLine bytes) ms
    → list_any is_put_in (whole_lines bytes) ≡ false → unmarked (woven 0 bytes ms) ≡ bytes
bytes_come_back bytes ms ordered each none =
    unmarked_woven 0 bytes ms ordered each ∙ unmarked_without bytes none
