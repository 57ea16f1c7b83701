-- The first line of some bytes, by where its end begins.
use Rattle.std.proofs.Common.{◌≡◌, ℕ, zero, suc, ◌+◌, ◌-◌, ◌<◌, ◌≤◌, true, false, List, [], ◌∷◌}
use Rattle.std.proofs.Common.{◌++◌}
use Rattle.std.proofs.Common.{length, take, drop, get_or, filter, refl, sym, ap, subst, ◌∙◌, inl}
use Rattle.std.proofs.Common.{inr}
use Rattle.std.proofs.Common.{arith, Some, None, eqb-true}
use Rattle.std.specs.Prelude.{◌==◌, nat_lt, cond, slice_index, if◌then◌else◌}
use Rattle.std.specs.List.{position, position_or_len}
use Rattle.std.proofs.Math.Seq.{take-append-add, take-append_seam, drop-append-add}
use Rattle.std.proofs.Math.Seq.{drop-append_seam}
use Rattle.std.proofs.Math.Seq.{take-length, drop-length}
use Rattle.std.proofs.lemmas.Bool.{cases_Bool, cases_lt, lt-ltb}
use Rattle.std.proofs.lemmas.List.{get_or-take, length-take, length-take-le, length-drop}
use Rattle.std.proofs.lemmas.List.Elements.{All-head, All-tail, All-from_get_or}
use Rattle.std.proofs.lemmas.List.Quantifiers.{position-Some}
use Rattle.std.proofs.lemmas.List.Sums.{fails_before_first}
use Rattle.std.proofs.lemmas.List.Splits.{slice_split_at}
use Rattle.gsi_file.specs.Parts.{HasNoEnd, is_line_end, is_line, parts, numbered_lines}
use Rattle.gsi_file.specs.Beside.{end_bytes, end_from}
use Rattle.gsi_file.specs.declared.beside.LineEnd.{LineEnd}
use Rattle.gsi_file.specs.declared.beside.LineEnd.TheVariants.{LineFeed, CarriageReturn, Both}
use Rattle.gsi_file.proofs.NumberedLines.{one_part}
use Rattle.set_marks.specs.Unmarked.{begins_with_feed, whole_lines, with_first}
use Rattle.changed_lines.specs.ChangedFile.{text_of, end_of}
use Rattle.changed_lines.specs.FirstLines.{IsFirstLine, with_line}
use Rattle.changed_lines.specs.declared.first_line.FirstLine.{FirstLine}

-- A text and what ends it are the first line, where no line feed comes after a carriage return.
pub first_whole : (text : List ℕ) (end : LineEnd) (after : List ℕ) → HasNoEnd text
    → (end ≡ CarriageReturn → begins_with_feed after ≡ false)
    → whole_lines (text ++ (end_bytes end ++ after))
    ≡ (text ++ end_bytes end) ∷ whole_lines after
first_whole [] LineFeed after none apart = refl
first_whole [] CarriageReturn after none apart =
    let e : begins_with_feed after ≡ false = apart refl in rw e refl
first_whole [] Both after none apart = refl
first_whole (b ∷ text) end after none apart =
    let h : is_line_end b ≡ false = All-head (λ c. is_line_end c ≡ false) b text none in
    let rest = first_whole text end after (All-tail (λ c. is_line_end c ≡ false) b text none)
    apart in
    rw h (ap (λ ls. with_first b ls) rest)

-- A text that ends no line is one, where it has a byte.
pub lone_whole : (b : ℕ) (text : List ℕ) → HasNoEnd (b ∷ text)
    → whole_lines (b ∷ text) ≡ (b ∷ text) ∷ []
lone_whole b [] none =
    let h : is_line_end b ≡ false = All-head (λ c. is_line_end c ≡ false) b [] none in rw h refl
lone_whole b (c ∷ text) none =
    let h : is_line_end b ≡ false = All-head (λ c. is_line_end c ≡ false) b (c ∷ text) none in
    let rest = lone_whole c text (All-tail (λ c. is_line_end c ≡ false) b (c ∷ text) none) in
    rw h (ap (λ ls. with_first b ls) rest)

-- Of a text that ends no line and what ends it, the text and the end.
pub text_kept : (text : List ℕ) → HasNoEnd text → text_of text ≡ text
text_kept [] none = refl
text_kept (b ∷ text) none =
    let h : is_line_end b ≡ false = All-head (λ c. is_line_end c ≡ false) b text none in
    let rest = text_kept text (All-tail (λ c. is_line_end c ≡ false) b text none) in
    rw h (ap (λ bs. b ∷ bs) rest)

pub no_end_kept : (text : List ℕ) → HasNoEnd text → end_of text ≡ []
no_end_kept [] none = refl
no_end_kept (b ∷ text) none =
    let h : is_line_end b ≡ false = All-head (λ c. is_line_end c ≡ false) b text none in
    let rest = no_end_kept text (All-tail (λ c. is_line_end c ≡ false) b text none) in
    rw h rest

pub text_before : (text : List ℕ) (end : LineEnd) → HasNoEnd text
    → text_of (text ++ end_bytes end) ≡ text
text_before [] LineFeed none = refl
text_before [] CarriageReturn none = refl
text_before [] Both none = refl
text_before (b ∷ text) end none =
    let h : is_line_end b ≡ false = All-head (λ c. is_line_end c ≡ false) b text none in
    let rest = text_before text end (All-tail (λ c. is_line_end c ≡ false) b text none) in
    rw h (ap (λ bs. b ∷ bs) rest)

pub end_after : (text : List ℕ) (end : LineEnd) → HasNoEnd text
    → end_of (text ++ end_bytes end) ≡ end_bytes end
end_after [] LineFeed none = refl
end_after [] CarriageReturn none = refl
end_after [] Both none = refl
end_after (b ∷ text) end none =
    let h : is_line_end b ≡ false = All-head (λ c. is_line_end c ≡ false) b text none in
    let rest = end_after text end (All-tail (λ c. is_line_end c ≡ false) b text none) in
    rw h rest

-- The bytes are a text, what ends it, and these.
pub record Parted (bytes text : List ℕ) (end : LineEnd) : Type 0 where
  pub after : List ℕ
  pub are : bytes ≡ text ++ (end_bytes end ++ after)
  pub apart : end ≡ CarriageReturn → begins_with_feed after ≡ false

return_of : (b : ℕ) → is_line_end b ≡ true → (b == 10) ≡ false → b ≡ 13
return_of b e not_feed = let f = rw not_feed at e in eqb-true b 13 f

feed_here : (b : ℕ) (bs : List ℕ) → b ≡ 10 → Parted (b ∷ bs) [] LineFeed
feed_here b bs e = record {
  after = bs;
  are = ap (λ (x : ℕ). x ∷ bs) e;
  apart = λ f. let g : LineFeed ≡ CarriageReturn = f in absurd (cc);
}

both_here : (b c : ℕ) (bs : List ℕ) → b ≡ 13 → c ≡ 10 → Parted (b ∷ c ∷ bs) [] Both
both_here b c bs e f = record {
  after = bs;
  are = ap (λ (x : ℕ). x ∷ c ∷ bs) e ∙ ap (λ (x : ℕ). 13 ∷ x ∷ bs) f;
  apart = λ g. let h : Both ≡ CarriageReturn = g in absurd (cc);
}

return_here : (b : ℕ) (bs : List ℕ) → b ≡ 13 → begins_with_feed bs ≡ false
    → Parted (b ∷ bs) [] CarriageReturn
return_here b bs e apart = record {
  after = bs;
  are = ap (λ (x : ℕ). x ∷ bs) e;
  apart = λ f. apart;
}

parted_return : (b : ℕ) (bs : List ℕ) → b ≡ 13
    → Parted (b ∷ bs) [] (if slice_index bs 0 == 10 then Both else CarriageReturn)
parted_return b [] e = return_here b [] e refl
parted_return b (c ∷ bs) e = elim (cases_Bool (c == 10)) [
  | inl h ↦ rw h (both_here b c bs e (eqb-true c 10 h))
  | inr h ↦ rw h (return_here b (c ∷ bs) e h)
]

parted_here : (b : ℕ) (bs : List ℕ) → is_line_end b ≡ true
    → Parted (b ∷ bs) [] (end_from (b ∷ bs) (Some 0))
parted_here b bs e = elim (cases_Bool (b == 10)) [
  | inl h ↦ rw h (feed_here b bs (eqb-true b 10 h))
  | inr h ↦ rw h (parted_return b bs (return_of b e h))
]

-- A byte that ends a line stands at this place, and none before it.
pub parted : (bytes : List ℕ) (at : ℕ) → at < length bytes
    → is_line_end (slice_index bytes at) ≡ true
    → Parted bytes (take at bytes) (end_from bytes (Some at))
parted [] at lt e = absurd (omega arith)
parted (b ∷ bs) zero lt e = parted_here b bs e
parted (b ∷ bs) (suc at) lt e =
    let r = parted bs at (omega arith) e in record {
      after = r.after;
      are = ap (λ xs. b ∷ xs) r.are;
      apart = r.apart;
    }

filtered : (text : List ℕ) (ps : List (List ℕ))
    → filter is_line (text ∷ ps) ≡ with_line (is_line text) text (filter is_line ps)
filtered text ps = elim (cases_Bool (is_line text)) [ inl h ↦ rw h refl | inr h ↦ rw h refl ]

-- The numbered lines, by the first.
pub first_numbered : (text : List ℕ) (end : LineEnd) (after : List ℕ) → HasNoEnd text
    → numbered_lines (text ++ (end_bytes end ++ after))
    ≡ with_line (is_line text) text (numbered_lines after)
first_numbered text LineFeed after none =
    ap (λ ps. filter is_line ps) (slice_split_at is_line_end text 10 after none refl)
    ∙ filtered text (parts after)
first_numbered text CarriageReturn after none =
    ap (λ ps. filter is_line ps) (slice_split_at is_line_end text 13 after none refl)
    ∙ filtered text (parts after)
first_numbered text Both after none =
    ap (λ ps. filter is_line ps) (slice_split_at is_line_end text 13 (10 ∷ after) none refl)
    ∙ filtered text (parts (10 ∷ after))

pub lone_numbered : (text : List ℕ) → HasNoEnd text
    → numbered_lines text ≡ with_line (is_line text) text (numbered_lines [])
lone_numbered text none =
    ap (λ ps. filter is_line ps) (one_part text none) ∙ filtered text []

-- Bytes that are cut after a text and its end.
record Cuts (bytes text end after : List ℕ) (at next : ℕ) : Type 0 where
  pub of_whole : take next bytes ≡ text ++ end
  pub of_after : drop next bytes ≡ after
  pub of_end : take (next - at) (drop at bytes) ≡ end

seam_cuts : (text end after : List ℕ)
    → Cuts (text ++ (end ++ after)) text end after (length text) (length text + length end)
seam_cuts text end after = record {
  of_whole = take-append-add text (end ++ after) (length end)
      ∙ ap (λ bs. text ++ bs) (take-append_seam end after);
  of_after = drop-append-add text (end ++ after) (length end) ∙ drop-append_seam end after;
  of_end = ap (λ bs. take (length text + length end - length text) bs)
      (drop-append_seam text (end ++ after))
      ∙ ap (λ (k : ℕ). take k (end ++ after)) (omega arith)
      ∙ take-append_seam end after;
}

cuts : (bytes text end after : List ℕ) (at next : ℕ) → bytes ≡ text ++ (end ++ after)
    → length text ≡ at → next ≡ at + length end → Cuts bytes text end after at next
cuts bytes text end after at next are is_at is_next =
    subst (λ (bs : List ℕ). Cuts bs text end after at next) (sym are)
    (subst (λ (k : ℕ). Cuts (text ++ (end ++ after)) text end after at k) (sym is_next)
    (subst (λ (k : ℕ). Cuts (text ++ (end ++ after)) text end after k (k + length end)) is_at
    (seam_cuts text end after)))

-- None of the bytes before the first that ends a line ends one.
none_before : (bytes : List ℕ) (at : ℕ)
    → ((k : ℕ) → k < at → is_line_end (get_or bytes k 0) ≡ false) → HasNoEnd (take at bytes)
none_before bytes at before = All-from_get_or (λ b. is_line_end b ≡ false) (take at bytes) 0
    (λ k lt. let low : k < at = omega (arith, length-take at bytes, lt) in
    ap is_line_end (get_or-take at bytes k 0 low) ∙ before k low)

shorter_by : (bytes : List ℕ) (next : ℕ) (l : FirstLine) → l.after.now ≡ drop next bytes
    → 1 ≤ next → 0 < length bytes → length l.after.now < length bytes
shorter_by bytes next l after some bytes_left =
    omega (arith, ap (λ (bs : List ℕ). length bs) after, length-drop next bytes, some, bytes_left)

some_end : (e : LineEnd) → 1 ≤ length (end_bytes e)
some_end LineFeed = omega arith
some_end CarriageReturn = omega arith
some_end Both = omega arith

-- The first line, where a byte ends it.
pub is_first : (bytes : List ℕ) (at next : ℕ) (l : FirstLine)
    → position is_line_end bytes ≡ Some at
    → next ≡ at + length (end_bytes (end_from bytes (Some at)))
    → l.text.now ≡ take at bytes → l.end.now ≡ take (next - at) (drop at bytes)
    → l.whole.now ≡ take next bytes → l.after.now ≡ drop next bytes → IsFirstLine bytes l
is_first bytes at next l found is_next text end whole after =
    let place = position-Some is_line_end bytes at 0 found in
    let none = none_before bytes at place.2 in
    let r = parted bytes at place.0 place.1 in
    let kind = end_from bytes (Some at) in
    let c = cuts bytes (take at bytes) (end_bytes kind) r.after at next r.are
    (length-take-le at bytes (let lt = place.0 in omega (arith, lt))) is_next in
    let is_whole : l.whole.now ≡ take at bytes ++ end_bytes kind = whole ∙ c.of_whole in
    let is_after : l.after.now ≡ r.after = after ∙ c.of_after in
    record {
      text = text ∙ sym (ap text_of is_whole ∙ text_before (take at bytes) kind none);
      end = end ∙ c.of_end ∙ sym (ap end_of is_whole ∙ end_after (take at bytes) kind none);
      first = ap whole_lines r.are ∙ first_whole (take at bytes) kind r.after none r.apart
          ∙ ap (λ (bs : List ℕ). bs ∷ whole_lines r.after) (sym is_whole)
          ∙ ap (λ (bs : List ℕ). l.whole.now ∷ whole_lines bs) (sym is_after);
      counted = ap numbered_lines r.are ∙ first_numbered (take at bytes) kind r.after none
          ∙ ap (λ (bs : List ℕ). with_line (is_line bs) bs (numbered_lines r.after)) (sym text)
          ∙ ap (λ (bs : List ℕ). with_line (is_line l.text.now) l.text.now (numbered_lines bs))
          (sym is_after);
      shorter = shorter_by bytes next l after
          (omega (arith, is_next, some_end (end_from bytes (Some at))))
          (let lt = place.0 in omega (arith, lt));
    }

missed : (bytes : List ℕ) (place : ℕ)
    → cond (nat_lt place (length bytes)) (Some place) None ≡ None → length bytes ≤ place
missed bytes place none = elim (cases_lt place (length bytes)) [
  | inl lt ↦
      let e : Some place ≡ None = sym (ap (λ b. cond b (Some place) None)
      (lt-ltb place (length bytes) lt)) ∙ none in absurd (cc)
  | inr le ↦ le
]

-- No byte ends a line, where there is no first that does.
pub none_in : (bytes : List ℕ) → position is_line_end bytes ≡ None → HasNoEnd bytes
none_in bytes none = All-from_get_or (λ b. is_line_end b ≡ false) bytes 0
    (λ k lt. fails_before_first is_line_end bytes k 0
    (let le = missed bytes (position_or_len is_line_end bytes) none in omega (arith, le, lt)))

-- The first line, where none does.
pub is_alone : (bytes : List ℕ) (l : FirstLine) → 0 < length bytes → HasNoEnd bytes
    → l.text.now ≡ take (length bytes) bytes
    → l.end.now ≡ take (length bytes - length bytes) (drop (length bytes) bytes)
    → l.whole.now ≡ take (length bytes) bytes → l.after.now ≡ drop (length bytes) bytes
    → IsFirstLine bytes l
is_alone bytes l some none text end whole after =
    let is_text = text ∙ take-length bytes in
    let is_whole = whole ∙ take-length bytes in
    let is_after = after ∙ drop-length bytes in
    let none_more : length bytes - length bytes ≡ 0 = omega arith in
    let is_end : l.end.now ≡ [] =
    end ∙ ap (λ (k : ℕ). take k (drop (length bytes) bytes)) none_more in
    record {
      text = is_text ∙ sym (ap text_of is_whole ∙ text_kept bytes none);
      end = is_end ∙ sym (ap end_of is_whole ∙ no_end_kept bytes none);
      first = lone bytes some none
          ∙ ap (λ (bs : List ℕ). bs ∷ []) (sym is_whole)
          ∙ ap (λ (bs : List ℕ). l.whole.now ∷ whole_lines bs) (sym is_after);
      counted = lone_numbered bytes none
          ∙ ap (λ (bs : List ℕ). with_line (is_line bs) bs (numbered_lines [])) (sym is_text)
          ∙ ap (λ (bs : List ℕ). with_line (is_line l.text.now) l.text.now (numbered_lines bs))
          (sym is_after);
      shorter = shorter_by bytes (length bytes) l after (omega (arith, some)) some;
    } where
      lone : (bytes : List ℕ) → 0 < length bytes → HasNoEnd bytes → whole_lines bytes ≡ bytes ∷ []
      lone [] some none = absurd (omega arith)
      lone (b ∷ bytes) some none = lone_whole b bytes none
