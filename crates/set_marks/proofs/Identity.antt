-- Bytes with code lines woven in are a marked copy.
use Rattle.std.proofs.Common.{◌≡◌, ℕ, zero, suc, rules, ◌/◌, ◌%◌, ◌+◌, ◌-◌, ◌<◌, ◌≤◌, Bool, true}
use Rattle.std.proofs.Common.{false, List, [], ◌∷◌, ◌++◌, length, take, drop, replicate, All, inl}
use Rattle.std.proofs.Common.{inr, refl, sym, ap, subst, ◌∙◌, append_assoc, arith, get_or}
use Rattle.std.specs.Prelude.{slice_index}
use Rattle.std.specs.List.{flat_map}
use Rattle.std.proofs.Math.Seq.{take-suc}
use Rattle.std.proofs.lemmas.List.{length-drop, length-append, length-replicate, drop-drop}
use Rattle.std.proofs.lemmas.List.{take-append-drop, append-nil, get_or-drop}
use Rattle.std.proofs.lemmas.List.Elements.{All-head, All-tail, All-cons, All-nil, All-append}
use Rattle.std.proofs.lemmas.List.Elements.{All-replicate}
use Rattle.gsi_word.specs.Words.{GsiWord, IsWord, IsLineByte}
use Rattle.gsi_word.specs.Blocks.{IsBlock, BeginsBlock}
use Rattle.gsi_file.specs.Parts.{is_line_end}
use Rattle.station_book.specs.Blocks.{is_opening, role_of}
use Rattle.set_marks.specs.declared.mark.Code.{Code}
use Rattle.set_marks.specs.declared.mark.Code.TheVariants.{Station, Set, Close}
use Rattle.set_marks.specs.declared.mark.Mark.{Mark}
use Rattle.set_marks.specs.Marks.{width_of, word_of, digits, star, words_of, code_block, words_text}
use Rattle.set_marks.specs.Marks.{text_of, line_of, HasRoom}
use Rattle.set_marks.specs.Copies.{woven, AreOrdered, IsCodeLine, EndsLine, Cut, joined, IsCut}
use Rattle.set_marks.specs.Copies.{IsMarkedCopy, BeginsLine}

-- A word that is put in is a word.
is_word : (width index : ℕ) (name : List ℕ) → index < 100 → length name ≤ width
    → All IsLineByte name → IsWord width (word_of width index name)
is_word width index name small short printable = record {
  index = small;
  info_length = refl;
  info = search rules;
  content_length = length-append (replicate (width - length name) 48) name
      ∙ ap (λ (n : ℕ). n + length name) (length-replicate (width - length name) 48)
      ∙ omega arith;
  content = All-append IsLineByte (replicate (width - length name) 48) name
      (All-replicate IsLineByte (width - length name) 48 (omega arith, omega arith)) printable;
}

short_code : (wide : Bool) → 2 ≤ width_of wide
short_code true = omega arith
short_code false = omega arith

printable_digits : (n : ℕ) → n < 100 → All IsLineByte (digits n)
printable_digits n lt = All-cons IsLineByte (48 + n / 10) ((48 + n % 10) ∷ [])
    (omega arith, omega arith)
    (All-cons IsLineByte (48 + n % 10) [] (omega arith, omega arith) (All-nil IsLineByte))

-- The word of a code.
code_word : (wide : Bool) (tens : ℕ) → 48 ≤ tens → tens ≤ 57
    → IsWord (width_of wide) (word_of (width_of wide) 41 (tens ∷ 48 ∷ []))
code_word wide tens low high = is_word (width_of wide) 41 (tens ∷ 48 ∷ []) (omega arith)
    (short_code wide)
    (All-cons IsLineByte tens (48 ∷ []) (omega arith, omega arith)
    (All-cons IsLineByte 48 [] (omega arith, omega arith) (All-nil IsLineByte)))

two_words : (width : ℕ) (a b : GsiWord) → IsWord width a → IsWord width b
    → All (IsWord width) (a ∷ b ∷ [])
two_words width a b ha hb = All-cons (IsWord width) a (b ∷ []) ha
    (All-cons (IsWord width) b [] hb (All-nil (IsWord width)))

-- The words of a code line are words.
pub are_words : (wide : Bool) (code : Code) → HasRoom wide code
    → All (IsWord (width_of wide)) (words_of (width_of wide) code)
are_words wide (Station name) room = two_words (width_of wide) _ _
    (code_word wide 49 (omega arith) (omega arith))
    (is_word (width_of wide) 42 name (omega arith) room.0 room.1.printable)
are_words wide (Set number) room = two_words (width_of wide) _ _
    (code_word wide 50 (omega arith) (omega arith))
    (is_word (width_of wide) 42 (digits number) (omega arith) (short_code wide)
    (printable_digits number room))
are_words wide Close room = All-cons (IsWord (width_of wide)) _ []
    (code_word wide 51 (omega arith) (omega arith))
    (All-nil (IsWord (width_of wide)))

some_word : (width : ℕ) (code : Code) → 0 < length (words_of width code)
some_word width (Station name) = omega arith
some_word width (Set number) = omega arith
some_word width Close = omega arith

begins_block : (width : ℕ) (code : Code) → BeginsBlock (words_of width code)
begins_block width (Station name) = inr refl
begins_block width (Set number) = inr refl
begins_block width Close = inr refl

block_as : (wide : Bool) (code : Code) → HasRoom wide code
    → IsBlock (star wide ++ words_text wide code)
    (record { width = width_of wide; words = words_of (width_of wide) code })
block_as true code room = record {
  width = refl;
  words = record {
    some_word = some_word 16 code;
    each = are_words true code room;
    blanks = 0;
    text = sym (append-nil (words_text true code));
  };
  first = begins_block 16 code;
}
block_as false (Station name) room = record {
  width = refl;
  words = record {
    some_word = some_word 8 (Station name);
    each = are_words false (Station name) room;
    blanks = 0;
    text = sym (append-nil (words_text false (Station name)));
  };
  first = begins_block 8 (Station name);
}
block_as false (Set number) room = record {
  width = refl;
  words = record {
    some_word = some_word 8 (Set number);
    each = are_words false (Set number) room;
    blanks = 0;
    text = sym (append-nil (words_text false (Set number)));
  };
  first = begins_block 8 (Set number);
}
block_as false Close room = record {
  width = refl;
  words = record {
    some_word = some_word 8 Close;
    each = are_words false Close room;
    blanks = 0;
    text = sym (append-nil (words_text false Close));
  };
  first = begins_block 8 Close;
}

-- The text of a code line is its block.
pub is_block : (m : Mark) → HasRoom m.wide m.code → IsBlock (text_of m) (code_block m.wide m.code)
is_block m room = block_as m.wide m.code room

has_code_as : (wide : Bool) (code : Code)
    → is_opening (record { width = width_of wide; words = words_of (width_of wide) code }) ≡ true
unfolding role_of
has_code_as true (Station name) = refl
has_code_as true (Set number) = refl
has_code_as true Close = refl
has_code_as false (Station name) = refl
has_code_as false (Set number) = refl
has_code_as false Close = refl

-- It has code 10, 20 or 30.
pub has_code : (m : Mark) → is_opening (code_block m.wide m.code) ≡ true
has_code m = has_code_as m.wide m.code

is_code_line : (m : Mark) → HasRoom m.wide m.code → IsCodeLine (line_of m)
is_code_line m room = record {
  text = text_of m;
  block = code_block m.wide m.code;
  end = m.line_end;
  is_block = is_block m room;
  has_code = has_code m;
  ended = refl;
}

last_of : (n : ℕ) (xs : List ℕ) → n < length xs → is_line_end (get_or xs n 0) ≡ true
    → EndsLine (take (suc n) xs)
last_of n xs lt e = record { ends = inr (take n xs, get_or xs n 0, take-suc xs n 0 lt, e) }

-- What stands from a place up to where a line begins, ends a line.
ends_after : (from at : ℕ) (bytes : List ℕ) → from < at → at ≤ length bytes
    → is_line_end (slice_index bytes (at - 1)) ≡ true
    → EndsLine (take (at - from) (drop from bytes))
ends_after from at bytes lt inside e =
    let place : at - from ≡ suc (at - from - 1) = omega arith in
    let sum : from + (at - from - 1) ≡ at - 1 = omega arith in
    let long : at - from - 1 < length (drop from bytes) = omega (arith, length-drop from bytes) in
    let byte : get_or (drop from bytes) (at - from - 1) 0 ≡ get_or bytes (at - 1) 0 =
    get_or-drop from bytes (at - from - 1) 0 ∙ ap (λ (k : ℕ). get_or bytes k 0) sum in
    subst (λ (k : ℕ). EndsLine (take k (drop from bytes))) (sym place)
    (last_of (at - from - 1) (drop from bytes) long (ap is_line_end byte ∙ e))

no_piece : (n : ℕ) (xs : List ℕ) → n ≡ 0 → EndsLine (take n xs)
no_piece n xs e = subst (λ (k : ℕ). EndsLine (take k xs)) (sym e) (record { ends = inl refl })

-- A piece up to where a line begins ends a line.
pub ends_line : (from : ℕ) (bytes : List ℕ) (m : Mark) → from ≤ m.at → m.at ≤ length bytes
    → BeginsLine bytes m → EndsLine (take (m.at - from) (drop from bytes))
ends_line from bytes m le inside (inl zero_place) = no_piece (m.at - from) (drop from bytes)
    (omega arith)
ends_line from bytes m le inside (inr after) = by (m.at - from) refl where
  by : (k : ℕ) → m.at - from ≡ k → EndsLine (take (m.at - from) (drop from bytes))
  by zero e = no_piece (m.at - from) (drop from bytes) e
  by (suc k) e = ends_after from m.at bytes (omega arith) inside after.1

-- The bytes from a place on, woven, are a marked copy of these bytes.
pub woven_is_copy : (from : ℕ) (bytes : List ℕ) (ms : List Mark)
    → AreOrdered from (length bytes) ms → All (BeginsLine bytes) ms
    → IsMarkedCopy (drop from bytes) (woven from bytes ms)
woven_is_copy from bytes [] ordered begin = record {
  cuts = [];
  rest = drop from bytes;
  from = refl;
  to = refl;
  each = All-nil IsCut;
}
woven_is_copy from bytes (m ∷ ms) ordered begin =
    let tail = woven_is_copy m.at bytes ms ordered.3 (All-tail (BeginsLine bytes) m ms begin) in
    let piece = take (m.at - from) (drop from bytes) in
    let line = line_of m in
    let cut : Cut = record { piece = piece; line = line } in
    let beyond : drop (m.at - from) (drop from bytes) ≡ drop m.at bytes =
    drop-drop (m.at - from) from bytes ∙ ap (λ (k : ℕ). drop k bytes) (omega arith) in
    record {
      cuts = cut ∷ tail.cuts;
      rest = tail.rest;
      from = sym (take-append-drop (m.at - from) (drop from bytes))
          ∙ ap (λ (r : List ℕ). piece ++ r) (beyond ∙ tail.from)
          ∙ sym (append_assoc piece (flat_map (λ (c : Cut). c.piece) tail.cuts) tail.rest);
      to = ap (λ (r : List ℕ). piece ++ (line ++ r)) tail.to
          ∙ sym (append_assoc piece line (flat_map joined tail.cuts ++ tail.rest))
          ∙ sym (append_assoc (piece ++ line) (flat_map joined tail.cuts) tail.rest);
      each = All-cons IsCut cut tail.cuts (
        ends_line from bytes m ordered.0 ordered.1 (All-head (BeginsLine bytes) m ms begin),
        is_code_line m ordered.2,
      ) tail.each;
    }

-- The copy that was made is a marked copy.
pub made_is_copy : (bytes copy : List ℕ) (ms : List Mark) → AreOrdered 0 (length bytes) ms
    → All (BeginsLine bytes) ms → copy ≡ woven 0 bytes ms → IsMarkedCopy bytes copy
made_is_copy bytes copy ms ordered begin e =
    subst (λ (c : List ℕ). IsMarkedCopy bytes c) (sym e) (woven_is_copy 0 bytes ms ordered begin)
