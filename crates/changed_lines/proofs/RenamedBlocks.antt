-- A block with another name is the same block but for this name.
use Rattle.std.proofs.Common.{◌≡◌, ℕ, zero, suc, ◌+◌, ◌-◌, ◌/◌, ◌%◌, ◌<◌, ◌≤◌, true, false, List}
use Rattle.std.proofs.Common.{[], ◌∷◌, ◌++◌, length}
use Rattle.std.proofs.Common.{take, drop, replicate, map, refl, sym, ap, subst, ◌∙◌, inl, inr}
use Rattle.std.proofs.Common.{arith}
use Rattle.std.proofs.Common.{All, append_assoc, eqb-true, get_or}
use Rattle.std.specs.Prelude.{◌==◌, slice_get, if◌then◌else◌, Bool, codes}
use Rattle.std.specs.Str.{bytes_eq}
use Rattle.std.specs.List.{join_with_byte}
use Rattle.std.proofs.Math.Seq.{drop-append-add, drop-append_seam}
use Rattle.std.proofs.lemmas.Bool.{cases_Bool, and_parts, ne_eqb}
use Rattle.std.proofs.lemmas.List.{length-append, length-replicate}
use Rattle.std.proofs.lemmas.List.Elements.{All-head, All-tail, All-cons, All-append, All-replicate}
use Rattle.std.proofs.lemmas.List.Elements.{All-nil, All-get_or, All-from_get_or}
use Rattle.gsi_word.specs.Words.{GsiWord, IsWord, IsLineByte, spelled, sign_byte}
use Rattle.gsi_word.specs.Blocks.{GsiBlock, IsBlock, AreWords, BeginsBlock, is_starred, width_of}
use Rattle.gsi_word.specs.Names.{name_of}
use Rattle.gsi_word.proofs.WordLaws.{spelled_printable}
use Rattle.gsi_file.specs.Parts.{HasNoEnd, is_line, is_line_end}
use Rattle.station_book.specs.Blocks.{is_measurement, role_of, word_role, code_role}
use Rattle.station_book.specs.declared.role.Role.TheVariants.{Station, Set, Close, Other}
use Rattle.set_marks.specs.Marks.{filled}
use Rattle.changed_lines.specs.Renaming.{renamed, named_first, renamed_block}
use Rattle.changed_lines.specs.Renaming.{content_at, IsBare, TakesName}

-- The words after the first, each after a blank.
further : List GsiWord → List ℕ
further [] = []
further (w ∷ ws) = 32 ∷ join_with_byte 32 (map spelled (w ∷ ws))

joined : (w : GsiWord) (ws : List GsiWord) (tail : List ℕ)
    → join_with_byte 32 (map spelled (w ∷ ws)) ++ tail ≡ spelled w ++ (further ws ++ tail)
unfolding further
joined w [] tail = refl
joined w (v ∷ ws) tail = append_assoc (spelled w) (further (v ∷ ws)) tail

-- A word whose content is another.
abbrev with_content : GsiWord → List ℕ → GsiWord
with_content w content = record w { content = content }

-- Of a word and what comes after it: its first bytes, and what comes after its content.
record Seams (w : GsiWord) (width : ℕ) (tail : List ℕ) (name : List ℕ) : Type 0 where
  renamed : take 7 (spelled w ++ tail)
      ++ (name ++ drop (7 + width) (spelled w ++ tail))
      ≡ spelled (with_content w name) ++ tail

seams : (w : GsiWord) (width : ℕ) (tail name : List ℕ) → length w.info ≡ 4
    → length w.content ≡ width → Seams w width tail name
seams w width tail name four wide = by w.info four refl where
  by : (info : List ℕ) → length info ≡ 4 → info ≡ w.info → Seams w width tail name
  by [] e same = absurd (omega (arith, e))
  by (a ∷ []) e same = absurd (omega (arith, e))
  by (a ∷ b ∷ []) e same = absurd (omega (arith, e))
  by (a ∷ b ∷ c ∷ []) e same = absurd (omega (arith, e))
  by (a ∷ b ∷ c ∷ d ∷ f ∷ info) e same = absurd (omega (arith, e))
  by (a ∷ b ∷ c ∷ d ∷ []) e same =
      let heads : List ℕ = (48 + w.index / 10) ∷ (48 + w.index % 10) ∷ a ∷ b ∷ c ∷ d
      ∷ sign_byte w.negative ∷ [] in
      let past : drop (7 + width) (heads ++ (w.content ++ tail)) ≡ tail =
      drop-append-add heads (w.content ++ tail) width
      ∙ subst (λ (k : ℕ). drop k (w.content ++ tail) ≡ tail) wide
      (drop-append_seam w.content tail) in
      record {
        renamed = subst
            (λ (info : List ℕ). take 7 (((48 + w.index / 10) ∷ (48 + w.index % 10)
            ∷ (info ++ sign_byte w.negative ∷ w.content)) ++ tail)
            ++ (name ++ drop (7 + width) (((48 + w.index / 10) ∷ (48 + w.index % 10)
            ∷ (info ++ sign_byte w.negative ∷ w.content)) ++ tail))
            ≡ ((48 + w.index / 10) ∷ (48 + w.index % 10)
            ∷ (info ++ sign_byte w.negative ∷ name)) ++ tail) same
            (ap (λ bs. heads ++ (name ++ bs)) past);
      }

-- A name that has room fills a content.
filled_content : (width : ℕ) (name : List ℕ) → length name ≤ width → All IsLineByte name
    → (length (filled width name) ≡ width) × All IsLineByte (filled width name)
filled_content width name room printable = (
  omega (
    arith,
    length-append (replicate (width - length name) 48) name,
    length-replicate {A = ℕ} (width - length name) 48,
    room,
  ),
  All-append IsLineByte (replicate (width - length name) 48) name
      (All-replicate IsLineByte (width - length name) 48 (omega arith, omega arith)) printable,
)

named_word : (width : ℕ) (w : GsiWord) (name : List ℕ) → IsWord width w → length name ≤ width
    → All IsLineByte name → IsWord width (with_content w (filled width name))
named_word width w name is room printable =
    let f = filled_content width name room printable in record {
      index = is.index;
      info_length = is.info_length;
      info = is.info;
      content_length = f.0;
      content = f.1;
    }

-- The bytes of words with this name in the first are the words with it.
named_words : (width : ℕ) (bytes name : List ℕ) (w : GsiWord) (ws : List GsiWord)
    → AreWords width bytes (w ∷ ws) → length name ≤ width → All IsLineByte name
    → AreWords width (take 7 bytes ++ (filled width name ++ drop (7 + width) bytes))
    (named_first width name (w ∷ ws))
named_words width bytes name w ws are room printable =
    let first = All-head (IsWord width) w ws are.each in
    let blanks = replicate are.blanks 32 in
    let named = with_content w (filled width name) in
    let text : bytes ≡ spelled w ++ (further ws ++ blanks) = are.text ∙ joined w ws blanks in
    let s = seams w width (further ws ++ blanks) (filled width name) first.info_length
    first.content_length in
    record {
      some_word = omega arith;
      each = All-cons (IsWord width) named ws (named_word width w name first room printable)
          (All-tail (IsWord width) w ws are.each);
      blanks = are.blanks;
      text = ap (λ bs. take 7 bs ++ (filled width name ++ drop (7 + width) bs)) text
          ∙ s.renamed ∙ sym (joined named ws blanks);
    }

any_words : (width : ℕ) (bytes name : List ℕ) (words : List GsiWord) → AreWords width bytes words
    → length name ≤ width → All IsLineByte name
    → AreWords width (take 7 bytes ++ (filled width name ++ drop (7 + width) bytes))
    (named_first width name words)
any_words width bytes name [] are room printable =
    let some = are.some_word in absurd (omega (arith, some))
any_words width bytes name (w ∷ ws) are room printable =
    named_words width bytes name w ws are room printable

still_begins : (width : ℕ) (name : List ℕ) (words : List GsiWord) → BeginsBlock words
    → BeginsBlock (named_first width name words)
still_begins width name [] begins = begins
still_begins width name (w ∷ ws) begins = begins

starred_block : (b : ℕ) (line name : List ℕ) (block : GsiBlock) → is_starred (b ∷ line) ≡ true
    → IsBlock (b ∷ line) block → length name ≤ 16 → All IsLineByte name
    → IsBlock (renamed name (b ∷ line)) (renamed_block name block)
starred_block b line name block starred is room printable =
    let same : renamed name (b ∷ line)
    ≡ b ∷ (take 7 line ++ (filled 16 name ++ drop 23 line)) = rw starred refl in
    let wide : block.width ≡ 16 = rw starred at is.width in
    let words : AreWords 16 line block.words = rw starred at is.words in
    subst (λ (l : List ℕ). IsBlock l (renamed_block name block)) (sym same)
    (record {
      width = rw starred wide;
      words = rw (starred, wide) (any_words 16 line name block.words words room printable);
      first = still_begins block.width name block.words is.first;
    })

none_empty : (width : ℕ) (words : List GsiWord) → AreWords width [] words → ⊥
none_empty width [] are = let some = are.some_word in omega (arith, some)
none_empty width (w ∷ ws) are =
    let e : [] ≡ spelled w ++ (further ws ++ replicate are.blanks 32) =
    are.text ∙ joined w ws (replicate are.blanks 32) in
    let f : [] ≡ (48 + w.index / 10) ∷ ((48 + w.index % 10) ∷ (w.info
    ++ sign_byte w.negative ∷ w.content)) ++ (further ws ++ replicate are.blanks 32) = e in
    absurd (cc)

plain_block : (line name : List ℕ) (block : GsiBlock) → is_starred line ≡ false
    → IsBlock line block → length name ≤ 8 → All IsLineByte name
    → IsBlock (renamed name line) (renamed_block name block)
plain_block [] name block plain is room printable = absurd (none_empty 8 block.words is.words)
plain_block (b ∷ line) name block plain is room printable =
    let same : renamed name (b ∷ line)
    ≡ b ∷ (take 6 line ++ (filled 8 name ++ drop 14 line)) = rw plain refl in
    let wide : block.width ≡ 8 = rw plain at is.width in
    let words : AreWords 8 (b ∷ line) block.words = rw plain at is.words in
    subst (λ (l : List ℕ). IsBlock l (renamed_block name block)) (sym same)
    (record {
      width = rw plain wide;
      words = rw (plain, wide) (any_words 8 (b ∷ line) name block.words words room printable);
      first = still_begins block.width name block.words is.first;
    })

-- A line that is a block is with another name the same block but for this name.
pub renamed_is_block : (line name : List ℕ) (block : GsiBlock) → IsBlock line block
    → length name ≤ width_of line → All IsLineByte name
    → IsBlock (renamed name line) (renamed_block name block)
renamed_is_block line name block is room printable = elim (cases_Bool (is_starred line)) [
  | inl h ↦ by line h is (rw h at room)
  | inr h ↦ plain_block line name block h is (rw h at room) printable
] where
  by : (line : List ℕ) → is_starred line ≡ true → IsBlock line block → length name ≤ 16
      → IsBlock (renamed name line) (renamed_block name block)
  by [] h is room = let e : false ≡ true = h in absurd (cc)
  by (b ∷ line) h is room = starred_block b line name block h is room printable

-- What is left out of a content are zeros.
skip_zeros : (k b : ℕ) (bs : List ℕ) → name_of (replicate k 48 ++ b ∷ bs) ≡ name_of (b ∷ bs)
skip_zeros zero b bs = refl
skip_zeros (suc zero) b bs = refl
skip_zeros (suc (suc k)) b bs = skip_zeros (suc k) b bs

-- A name that no zero stands before is read back from its content.
pub read_back : (width : ℕ) (name : List ℕ) → 0 < length name → IsBare name
    → name_of (filled width name) ≡ name
read_back width [] some bare = absurd (omega arith)
read_back width (b ∷ bs) some bare = skip_zeros (width - length (b ∷ bs)) b bs ∙ bare

first_words : (width : ℕ) (bytes : List ℕ) (words : List GsiWord) → AreWords width bytes words
    → 7 + width ≤ length bytes
first_words width bytes [] are = let some = are.some_word in absurd (omega (arith, some))
first_words width bytes (w ∷ ws) are =
    let first = All-head (IsWord width) w ws are.each in
    let four = first.info_length in
    let wide = first.content_length in
    let tail = further ws ++ replicate are.blanks 32 in
    omega (
      arith,
      ap (λ (bs : List ℕ). length bs) (are.text ∙ joined w ws (replicate are.blanks 32)),
      length-append (spelled w) tail,
      length-append w.info (sign_byte w.negative ∷ w.content),
      four,
      wide,
    )

long_enough : (line : List ℕ) (block : GsiBlock) → IsBlock line block
    → content_at line + width_of line ≤ length line
long_enough line block is = elim (cases_Bool (is_starred line)) [
  | inl h ↦ by line h (rw h at is.words)
  | inr h ↦ let words : AreWords 8 line block.words = rw h at is.words in
      rw h (first_words 8 line block.words words)
] where
  by : (line : List ℕ) → is_starred line ≡ true → AreWords 16 (drop 1 line) block.words
      → content_at line + width_of line ≤ length line
  by [] h words = absurd (none_empty 16 block.words words)
  by (b ∷ line) h words =
      let long = first_words 16 line block.words words in rw h (omega (arith, long))

no_code_by : (ten twenty thirty : Bool) → is_measurement
    (if ten then Station else (if twenty then Set else (if thirty then Close else Other))) ≡ true
    → ⊥
no_code_by true twenty thirty e = let f : false ≡ true = e in absurd (cc)
no_code_by false true thirty e = let f : false ≡ true = e in absurd (cc)
no_code_by false false true e = let f : false ≡ true = e in absurd (cc)
no_code_by false false false e = let f : false ≡ true = e in absurd (cc)

no_code : (name : List ℕ) → is_measurement (code_role name) ≡ true → ⊥
no_code name e = no_code_by (bytes_eq name (codes "10")) (bytes_eq name (codes "20"))
    (bytes_eq name (codes "30")) e

same_role : (name : List ℕ) (width : ℕ) (words : List GsiWord)
    → is_measurement (word_role (slice_get words 0)) ≡ true
    → is_measurement (word_role (slice_get (named_first width name words) 0)) ≡ true
same_role name width [] measures = measures
same_role name width (w ∷ ws) measures = elim (cases_Bool (w.index == 11)) [
  | inl h ↦ rw h refl
  | inr h ↦ other (rw h at measures)
] where
  other : is_measurement (if w.index == 41 then code_role (name_of w.content) else Other) ≡ true
      → is_measurement (word_role (slice_get (named_first width name (w ∷ ws)) 0)) ≡ true
  other e = elim (cases_Bool (w.index == 41)) [
    | inl k ↦ absurd (no_code (name_of w.content) (rw k at e))
    | inr k ↦ let f : false ≡ true = rw k at e in absurd (cc)
  ]

-- A line that is a measurement takes each name that its word has room for.
pub takes_name : (line name : List ℕ) (block : GsiBlock) → IsBlock line block
    → is_measurement (role_of block) ≡ true → length name ≤ width_of line → All IsLineByte name
    → TakesName name line
unfolding role_of
takes_name line name block is measures room printable = record {
  whole = long_enough line block is;
  measures = record {
    block = renamed_block name block;
    is_block = renamed_is_block line name block is room printable;
    measures = same_role name block.width block.words measures;
  };
}

words_printable : (width : ℕ) (ws : List GsiWord) → All (IsWord width) ws
    → All IsLineByte (join_with_byte 32 (map spelled ws))
words_printable width [] each = All-nil IsLineByte
words_printable width (w ∷ []) each = spelled_printable width w (All-head (IsWord width) w [] each)
words_printable width (w ∷ v ∷ ws) each =
    let rest = words_printable width (v ∷ ws) (All-tail (IsWord width) w (v ∷ ws) each) in
    All-append IsLineByte (spelled w) (32 ∷ join_with_byte 32 (map spelled (v ∷ ws)))
    (spelled_printable width w (All-head (IsWord width) w (v ∷ ws) each))
    (All-cons IsLineByte 32 (join_with_byte 32 (map spelled (v ∷ ws)))
    (omega arith, omega arith) rest)

bytes_printable : (width : ℕ) (bytes : List ℕ) (words : List GsiWord) → AreWords width bytes words
    → All IsLineByte bytes
bytes_printable width bytes words are = subst (λ (bs : List ℕ). All IsLineByte bs) (sym are.text)
    (All-append IsLineByte (join_with_byte 32 (map spelled words)) (replicate are.blanks 32)
    (words_printable width words are.each)
    (All-replicate IsLineByte are.blanks 32 (omega arith, omega arith)))

-- Each byte of a block is printable.
pub block_printable : (line : List ℕ) (block : GsiBlock) → IsBlock line block → All IsLineByte line
block_printable line block is = elim (cases_Bool (is_starred line)) [
  | inl h ↦ by line h (rw h at is.words)
  | inr h ↦ let words : AreWords 8 line block.words = rw h at is.words in
      bytes_printable 8 line block.words words
] where
  by : (line : List ℕ) → is_starred line ≡ true → AreWords 16 (drop 1 line) block.words
      → All IsLineByte line
  by [] h words = All-nil IsLineByte
  by (b ∷ line) h words =
      let star : b ≡ 42 = sym (eqb-true 42 b (and_parts (42 == b) true h).0) in
      All-cons IsLineByte b line (omega (arith, star), omega (arith, star))
      (bytes_printable 16 line block.words words)

-- So none ends a line.
pub block_has_no_end : (line : List ℕ) (block : GsiBlock) → IsBlock line block → HasNoEnd line
block_has_no_end line block is =
    let printable = block_printable line block is in
    All-from_get_or (λ b. is_line_end b ≡ false) line 0 (λ k lt.
    ends_none (get_or line k 0) (All-get_or IsLineByte line k 0 lt printable)) where
      ends_none : (b : ℕ) → IsLineByte b → is_line_end b ≡ false
      ends_none b is =
          let low = is.0 in
          let feed = ne_eqb b 10 (λ e. omega (arith, e, low)) in
          let back = ne_eqb b 13 (λ e. omega (arith, e, low)) in
          rw (feed, back) refl

-- A block is no line of blanks.
pub block_is_line : (line : List ℕ) (block : GsiBlock) → IsBlock line block → is_line line ≡ true
block_is_line line block is = elim (cases_Bool (is_starred line)) [
  | inl h ↦ by line h
  | inr h ↦ let words : AreWords 8 line block.words = rw h at is.words in
      words_are_line line block.words words
] where
  by : (line : List ℕ) → is_starred line ≡ true → is_line line ≡ true
  by [] h = let e : false ≡ true = h in absurd (cc)
  by (b ∷ line) h =
      let star : 42 ≡ b = eqb-true 42 b (and_parts (42 == b) true h).0 in
      subst (λ (x : ℕ). is_line (x ∷ line) ≡ true) star refl

  words_are_line : (line : List ℕ) (words : List GsiWord) → AreWords 8 line words
      → is_line line ≡ true
  words_are_line line [] are = let some = are.some_word in absurd (omega (arith, some))
  words_are_line line (w ∷ ws) are =
      let digit = ne_eqb (48 + w.index / 10) 32 (λ e. omega (arith, e)) in
      ap is_line (are.text ∙ joined w ws (replicate are.blanks 32)) ∙ rw digit refl
