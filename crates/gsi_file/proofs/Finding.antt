-- The next line of what is in hand and what the source gives.
use Rattle.std.proofs.Common.{◌≡◌, ℕ, zero, suc, ◌+◌, ◌-◌, ◌<◌, ◌≤◌, Bool, true, false, cond, List}
use Rattle.std.proofs.Common.{[], ◌∷◌, ◌++◌, length, take, drop, All, None, Some, refl, sym}
use Rattle.std.proofs.Common.{ap, subst, ◌∙◌, arith, append_assoc, add-one, length-take}
use Rattle.std.proofs.Common.{length-drop, length-append, drop-cons, drop-drop, ◌⊎◌, inl, inr}
use Rattle.std.specs.Prelude.{slice_index}
use Rattle.std.proofs.lemmas.List.{take-append-drop, take-take, take_all, get_or-take, get_or-drop}
use Rattle.std.proofs.lemmas.List.{append-nil, take-append-le}
use Rattle.std.proofs.lemmas.List.Elements.{All-nil, All-take}
use Rattle.std.proofs.lemmas.Bool.{true≢false, false≢true}
use Rattle.byte_ends.specs.Source.{Told, Fails}
use Rattle.gsi_word.specs.Words.{IsLineByte}
use Rattle.gsi_file.specs.declared.file_fault.FileKind.TheVariants.{Read, FileTooLong, LineTooLong}
use Rattle.gsi_file.specs.Parts.{is_line_end, is_line, HasNoEnd}
use Rattle.gsi_file.specs.FileAnswers.{answers_within, line_before}
use Rattle.gsi_file.specs.Filling.{Grows}
use Rattle.gsi_file.specs.Finding.{answers_in, IsFound, FindsLine}
use Rattle.gsi_file.specs.Passing.{with_line}
use Rattle.gsi_file.proofs.FirstBytes.{answers_end, answers_failed, answers_line}
use Rattle.gsi_file.proofs.FirstBytes.{answers_long_file, answers_long_line}

none_of : (xs : List ℕ) → length xs ≡ 0 → xs ≡ []
none_of [] e = refl
none_of (x ∷ xs) e = absurd (omega arith)

-- Bytes cut at a place.
cut : (h : List ℕ) (line : ℕ) (more : List ℕ) → line < length h
    → h ++ more ≡ take line h ++ (slice_index h line ∷ (drop (line + 1) h ++ more))
cut h line more lt =
    ap (λ zs. zs ++ more) (sym (take-append-drop line h)
    ∙ ap (λ zs. take line h ++ zs) (drop-cons h line 0 lt
    ∙ ap (λ k. slice_index h line ∷ drop k h) (sym (add-one line))))
    ∙ append_assoc (take line h) (slice_index h line ∷ drop (line + 1) h) more

taken : (line : ℕ) (h : List ℕ) → line ≤ length h → length (take line h) ≡ line
taken line h le = omega (arith, length-take line h)

-- What every step of the search keeps of what is in hand.
pub record Searching (room left line : ℕ) (h : List ℕ) : Type 0 where
  pub short : line ≤ 1024
  pub inside : line ≤ length h
  pub fits : line ≤ left
  pub most : left ≤ room
  pub plain : HasNoEnd (take line h)

-- The search, at a place up to which no byte ends the line.
pub further : (room left from line : ℕ) (h : List ℕ) → line ≤ 1024 → line ≤ length h → line ≤ left
    → HasNoEnd (take line h) → Searching room left from h → Searching room left line h
further room left from line h short inside fits plain s = record {
  short = short;
  inside = inside;
  fits = fits;
  most = s.most;
  plain = plain;
}

-- What every step of the search keeps of what is to come: the answers stay the same.
abbrev pub SameAnswers : Told → ℕ → List ℕ → Told → ℕ → List ℕ → Type 0
SameAnswers a room h0 b left h = answers_in room h0 a ≡ answers_in left h b

-- At the end of the source the answers are the last part, where it is a line, and no fault.
pub ends_by : (a b c : Told) (room : ℕ) (h0 : List ℕ) (left line : ℕ) (h h' : List ℕ) (n : ℕ)
    (line_there : Bool) → line ≡ length h → n ≡ 0 → is_line (take line h') ≡ line_there
    → Searching room left line h → SameAnswers a room h0 b left h → Grows b c h h' n →
    answers_in room h0 a ≡ record {
      lines = cond line_there (take line h' ∷ []) [];
      last = None;
    }
ends_by a b c room h0 left line h h' n line_there e z i s same g =
    let none : g.given ≡ [] = none_of g.given (g.count ∙ z) in
    let end = g.told.end none (omega arith) in
    let bytes : b.bytes ≡ [] = g.told.next ∙ ap (λ zs. zs ++ c.bytes) none ∙ end.0 in
    let fails : b.fails ≡ false = sym g.told.same ∙ end.1 in
    let whole : take line h ≡ h = take_all line h (omega arith) in
    let kept : h' ≡ h = g.now ∙ ap (λ zs. h ++ zs) none ∙ append-nil h in
    let plain : HasNoEnd h = subst (λ (zs : List ℕ). HasNoEnd zs) whole s.plain in
    same
    ∙ ap (λ zs. answers_within left (h ++ zs) b.fails) bytes
    ∙ ap (λ zs. answers_within left zs b.fails) (append-nil h)
    ∙ ap (answers_within left h) fails
    ∙ answers_end left h plain (omega (arith, s.short)) (omega (arith, s.fits))
    ∙ ap (λ (zs : List ℕ). record { lines = cond (is_line zs) (zs ∷ []) []; last = None })
    (sym (ap (take line) kept ∙ whole))
    ∙ ap (λ (t : Bool). record { lines = cond t (take line h' ∷ []) []; last = None }) i

-- Where the source fails while a line is looked for, the answers are that failed read alone.
pub fails : (a b c : Told) (room : ℕ) (h0 : List ℕ) (left line : ℕ) (h : List ℕ)
    → line ≡ length h → Searching room left line h → SameAnswers a room h0 b left h → Fails b c
    → answers_in room h0 a ≡ record { lines = []; last = Some Read }
fails a b c room h0 left line h e s same f =
    let bytes : b.bytes ≡ [] = sym (ap (λ (t : Told). t.bytes) f.unchanged) ∙ f.end.0 in
    let broken : b.fails ≡ true = sym (ap (λ (t : Told). t.fails) f.unchanged) ∙ f.end.1 in
    let whole : take line h ≡ h = take_all line h (omega arith) in
    let plain : HasNoEnd h = subst (λ (zs : List ℕ). HasNoEnd zs) whole s.plain in
    same
    ∙ ap (λ zs. answers_within left (h ++ zs) b.fails) bytes
    ∙ ap (λ zs. answers_within left zs b.fails) (append-nil h)
    ∙ ap (answers_within left h) broken
    ∙ answers_failed left h plain (omega (arith, s.short)) (omega (arith, s.fits))

-- Where a byte stands past all that may be taken, the answer is that the file is too long.
pub file_too_long : (a b : Told) (room : ℕ) (h0 : List ℕ) (left line : ℕ) (h : List ℕ)
    → line < length h → line ≡ left → Searching room left line h → SameAnswers a room h0 b left h
    → answers_in room h0 a ≡ record { lines = []; last = Some FileTooLong }
file_too_long a b room h0 left line h lt e s same =
    same
    ∙ ap (λ zs. answers_within left zs b.fails) (cut h line b.bytes lt)
    ∙ answers_long_file left (take line h) (slice_index h line) (drop (line + 1) h ++ b.bytes)
    b.fails s.plain (omega (arith, taken line h s.inside, s.short)) (taken line h s.inside ∙ e)

-- Of more bytes without an end, the longest line and a byte that doesn't end it.
plain_at : (h : List ℕ) (line : ℕ) → 1024 < line → line ≤ length h → HasNoEnd (take line h)
    → HasNoEnd (take 1024 h) × (is_line_end (slice_index h 1024) ≡ false)
plain_at h line long inside plain = (
  subst (λ (zs : List ℕ). HasNoEnd zs) (take-take 1024 line h (omega arith))
      (All-take (λ b. is_line_end b ≡ false) 1024 (take line h) plain),
  ap is_line_end (sym (get_or-take line h 1024 0 long))
      ∙ plain 1024 0 (omega (arith, taken line h inside)),
)

-- Where more than 1024 bytes stand without an end, the answer is that the line is too long.
pub line_too_long : (a b : Told) (room : ℕ) (h0 : List ℕ) (left line : ℕ) (h : List ℕ)
    → 1024 < line → line ≤ left → line ≤ length h → HasNoEnd (take line h)
    → SameAnswers a room h0 b left h
    → answers_in room h0 a ≡ record { lines = []; last = Some LineTooLong }
line_too_long a b room h0 left line h long fits inside plain same =
    let front = plain_at h line long inside plain in
    let full : length (take 1024 h) ≡ 1024 = taken 1024 h (omega arith) in
    same
    ∙ ap (λ zs. answers_within left zs b.fails) (cut h 1024 b.bytes (omega arith))
    ∙ answers_long_line left (take 1024 h) (slice_index h 1024) (drop 1025 h ++ b.bytes) b.fails
    front.0 front.1 full (omega (arith, full))

-- A part that ended.
part_ended : (a b : Told) (room : ℕ) (h0 : List ℕ) (left line : ℕ) (h : List ℕ) → line < length h
    → line < left → is_line_end (slice_index h line) ≡ true
    → Searching room left line h → SameAnswers a room h0 b left h →
    answers_in room h0 a ≡ with_line (take line h)
    (answers_in (left - (line + 1)) (drop (line + 1) h) b)
part_ended a b room h0 left line h lt less end s same =
    same
    ∙ ap (λ zs. answers_within left zs b.fails) (cut h line b.bytes lt)
    ∙ answers_line left (take line h) (slice_index h line) (drop (line + 1) h ++ b.bytes) b.fails
    s.plain end (omega (arith, taken line h s.inside, s.short))
    (omega (arith, taken line h s.inside))
    ∙ ap (λ (n : ℕ). with_line (take line h) (answers_within (left - (n + 1))
    (drop (line + 1) h ++ b.bytes) b.fails)) (taken line h s.inside)

-- A part that ended is the next line where it is one, and else is passed over.
part_counted : (a b : Told) (room : ℕ) (h0 : List ℕ) (left line : ℕ) (h : List ℕ)
    (line_there : Bool) → line < length h → line < left
    → is_line_end (slice_index h line) ≡ true → is_line (take line h) ≡ line_there
    → Searching room left line h → SameAnswers a room h0 b left h →
    let next = answers_in (left - (line + 1)) (drop (line + 1) h) b in
    answers_in room h0 a ≡ record {
      lines = cond line_there (take line h ∷ next.lines) next.lines;
      last = next.last;
    }
part_counted a b room h0 left line h line_there lt less end is s same =
    let next = answers_in (left - (line + 1)) (drop (line + 1) h) b in
    part_ended a b room h0 left line h lt less end s same
    ∙ ap (λ (t : Bool). record {
      lines = cond t (take line h ∷ next.lines) next.lines;
      last = next.last;
    }) is

-- A part that ended and is blank is passed over: the answers to come stay the same.
pub passes : (a b : Told) (room : ℕ) (h0 : List ℕ) (left line : ℕ) (h : List ℕ)
    → line < length h → line < left → is_line_end (slice_index h line) ≡ true
    → is_line (take line h) ≡ false → Searching room left line h → SameAnswers a room h0 b left h
    → SameAnswers a room h0 b (left - (line + 1)) (drop (line + 1) h)
passes a b room h0 left line h lt less end blank s same =
    part_counted a b room h0 left line h false lt less end blank s same

-- Among no bytes none ends a line.
pub none_plain : (h : List ℕ) → HasNoEnd (take 0 h)
none_plain h = All-nil (λ b. is_line_end b ≡ false)

-- An end right after an end stands after an empty part, which is passed over.
past_next_end : (a b : Told) (room : ℕ) (h0 part : List ℕ) (left line : ℕ) (h : List ℕ)
    → line + 1 < length h → line + 1 < left → is_line_end (slice_index h (line + 1)) ≡ true →
    answers_in room h0 a ≡ line_before part (answers_in (left - (line + 1)) (drop (line + 1) h) b)
    → answers_in room h0 a
    ≡ line_before part (answers_in (left - (line + 2)) (drop (line + 2) h) b)
past_next_end a b room h0 part left line h lt less end begin =
    let left1 = left - (line + 1) in
    let h1 = drop (line + 1) h in
    let s : Searching left1 left1 0 h1 =
    record {
      short = omega arith;
      inside = omega arith;
      fits = omega arith;
      most = omega arith;
      plain = none_plain h1;
    } in
    let here : is_line_end (slice_index h1 0) ≡ true =
    ap is_line_end (get_or-drop (line + 1) h 0 0 ∙ ap (λ k. slice_index h k) (omega arith))
    ∙ end in
    begin
    ∙ ap (line_before part) (part_ended b b left1 h1 left1 0 h1
    (omega (arith, length-drop (line + 1) h)) (omega arith) here s refl)
    ∙ ap (λ zs. line_before part (answers_in (left1 - 1) zs b)) (drop-drop 1 (line + 1) h
    ∙ ap (λ k. drop k h) (omega arith))
    ∙ ap (λ n. line_before part (answers_in n (drop (line + 2) h) b)) (omega arith)

-- A line has a byte.
some_byte : (line : ℕ) (h : List ℕ) → is_line (take line h) ≡ true → 0 < line
some_byte zero h e = let f : false ≡ true = e in cc
some_byte (suc n) h e = omega arith

-- A read leaves no fewer bytes in hand than before.
grown_length : (b c : Told) (h h' : List ℕ) (n : ℕ) → Grows b c h h' n → length h ≤ length h'
grown_length b c h h' n g = omega (arith, ap length g.now, length-append h g.given)

-- The end of a line is used up with it, and so may be the end right after it.
abbrev pub IsUsedUp : ℕ → ℕ → List ℕ → Type 0
IsUsedUp line used h =
    (used ≡ line + 1) ⊎ ((used ≡ line + 2) × (is_line_end (slice_index h (line + 1)) ≡ true))

-- The line found by its end.
pub found_ended : (room left line used : ℕ) (printable : Bool) (h : List ℕ) → used ≤ length h
    → used ≤ left → is_line (take line h) ≡ true
    → (printable ≡ true → All IsLineByte (take line h)) → IsUsedUp line used h
    → Searching room left line h →
    IsFound room h (record {
      line_length = line;
      used = used;
      room = left - used;
      last = false;
      printable = printable;
    })
found_ended room left line used printable h inside fits line_there tested next s =
    let some : 0 < line = some_byte line h line_there in
    let more : line < used = elim next [
      | inl one ↦ omega (arith, one)
      | inr two ↦
          omega (arith, two.0)
    ] in
    record {
      line = omega arith;
      used = inside;
      ended = λ e. more;
      takes = omega (arith, s.most, more, some);
      printable = tested;
    }

-- It is the next line.
pub finds_ended : (a b : Told) (room : ℕ) (h0 : List ℕ) (left line used : ℕ) (h : List ℕ)
    → line < length h → line < left → used ≤ length h → used ≤ left
    → is_line_end (slice_index h line) ≡ true → is_line (take line h) ≡ true
    → IsUsedUp line used h → Searching room left line h → SameAnswers a room h0 b left h
    → FindsLine a b room h0 h line used (left - used) false
finds_ended a b room h0 left line used h lt less inside fits end line_there next s same =
    let begin = part_counted a b room h0 left line h true lt less end line_there s same in
    elim next [
      | inl one ↦ subst (λ (k : ℕ). FindsLine a b room h0 h line k (left - k) false)
          (sym one) begin
      | inr two ↦ subst (λ (k : ℕ). FindsLine a b room h0 h line k (left - k) false)
          (sym two.0) (past_next_end a b room h0 (take line h) left line h
          (omega (arith, two.0)) (omega (arith, two.0)) two.1 begin)
    ]

-- A last part that the end of the source ends is found where it is a line, and is the last.
pub found_at_end : (b c : Told) (room left line : ℕ) (h h' : List ℕ) (n : ℕ) → line ≡ length h
    → is_line (take line h') ≡ true → Searching room left line h → Grows b c h h' n →
    IsFound room h' (record {
      line_length = line;
      used = line;
      room = 0;
      last = true;
      printable = false;
    })
found_at_end b c room left line h h' n e line_there s g =
    let some : 0 < line = some_byte line h' line_there in
    record {
      line = omega arith;
      used = omega (arith, grown_length b c h h' n g);
      ended = λ e. absurd (true≢false e);
      takes = omega (arith, s.most, s.fits);
      printable = λ e. absurd (false≢true e);
    }

-- Bytes that come to those in hand are no longer to come: the answers stay the same.
pub still_same : (room : ℕ) (h0 : List ℕ) (left : ℕ) (h h' : List ℕ) (n : ℕ) (a b c : Told)
    → SameAnswers a room h0 b left h → Grows b c h h' n → SameAnswers a room h0 c left h'
still_same room h0 left h h' n a b c same g =
    let bytes : h ++ b.bytes ≡ h' ++ c.bytes =
    ap (λ (zs : List ℕ). h ++ zs) g.told.next
    ∙ sym (append_assoc h g.given c.bytes)
    ∙ ap (λ (zs : List ℕ). zs ++ c.bytes) (sym g.now) in
    same
    ∙ ap (λ (zs : List ℕ). answers_within left zs b.fails) bytes
    ∙ ap (λ (f : Bool). answers_within left (h' ++ c.bytes) f) (sym g.told.same)

-- After a read the search goes on where it stood, with more in hand.
pub goes_on : (b c : Told) (room left from line : ℕ) (h h' : List ℕ) (n : ℕ) → line ≤ 1024
    → line ≤ length h → line ≤ left → HasNoEnd (take line h) → Searching room left from h
    → Grows b c h h' n → Searching room left line h'
goes_on b c room left from line h h' n short inside fits plain s g = record {
  short = short;
  inside = omega (arith, grown_length b c h h' n g);
  fits = fits;
  most = s.most;
  plain = subst (λ (zs : List ℕ). HasNoEnd zs)
      (sym (ap (take line) g.now ∙ take-append-le line h g.given inside)) plain;
}
