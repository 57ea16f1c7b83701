-- Lines as most readings are written, and the blocks that they are.
use Rattle.std.proofs.Common.{◌≡◌, ◌∙◌, ℕ, zero, suc, ◌+◌, ◌-◌, ◌*◌, ◌/◌, ◌<◌, ◌≤◌, ◌⊎◌, inl, inr}
use Rattle.std.proofs.Common.{true, false, List, [], ◌∷◌}
use Rattle.std.proofs.Common.{length, get_or, take, drop, replicate, All, refl, sym, ap, subst}
use Rattle.std.proofs.Common.{arith, IsTrue}
use Rattle.std.specs.Prelude.{codes, ◌==◌, slice_index, slice_get, Ok, Some}
use Rattle.std.proofs.lemmas.Bool.{and_parts, or_cases, leb-true, eq-eqb, ne_eqb}
use Rattle.std.proofs.lemmas.List.{length-drop, drop-drop, nil_from_length}
use Rattle.std.proofs.lemmas.List.Elements.{All-nil, All-cons, All-head, All-tail, All-drop}
use Rattle.std.proofs.lemmas.List.Elements.{All-weaker}
use Rattle.gsi_word.specs.Words.{GsiWord, IsLineByte}
use Rattle.gsi_word.specs.Angles.{angle_of, decimal_value, is_input_mode}
use Rattle.gsi_word.specs.FoundWords.{found, words_with}
use Rattle.gsi_word.specs.Blocks.{GsiBlock, IsBlock, is_starred, width_of, word_bytes, AreWords}
use Rattle.gsi_word.specs.Layout.{word_of, words_from, begins_word, is_width, KeepsWords}
use Rattle.gsi_word.specs.Shapes.{IsShape}
use Rattle.gsi_word.specs.PlainLines.{load, is_first, is_later, is_wide_first, is_wide_second}
use Rattle.gsi_word.specs.PlainLines.{is_content, is_plain, is_plain_wide, is_direction, is_zenith}
use Rattle.gsi_word.specs.PlainLines.{is_wide_direction, is_wide_zenith, is_wide_angle}
use Rattle.gsi_word.specs.PlainLines.{are_more, more_words, goes_on, begins_reading}
use Rattle.gsi_word.specs.PlainLines.{is_narrow_reading, is_wide_reading, is_plain_reading, HasAngle}
use Rattle.gsi_word.specs.declared.found.Found.TheVariants.{One}
use Rattle.gsi_word.proofs.LineLaws.{same_block}
use Rattle.gsi_word.proofs.RunLaws.{Runs, run_are_words, run_places, run_room}
use Rattle.gsi_word.proofs.PlainLoads.{load_at, At, HasSize, size_of, at_least, last_ends}
use Rattle.gsi_word.proofs.PlainLoads.{last_blank, loaded, later_printable, direction_is_later}
use Rattle.gsi_word.proofs.PlainLoads.{zenith_is_later, wide_direction_is_second}
use Rattle.gsi_word.proofs.PlainLoads.{wide_zenith_is_later, wide_angle_is_content}
use Rattle.gsi_word.proofs.PlainWords.{IsMore, more_at, more_index}
use Rattle.gsi_word.proofs.PlainWords.{IsLater, Head, head_begins, LaterAt, later_of, later_at}
use Rattle.gsi_word.proofs.PlainWords.{later_head, later_index, FirstAt, first_head, first_index}
use Rattle.gsi_word.proofs.PlainWords.{IsAngleWord, direction_at, zenith_at, wide_direction_at}
use Rattle.gsi_word.proofs.PlainWords.{wide_zenith_at}

-- So many words, and what is known of them.
pub record PlainBlock (width count : ℕ) (line bytes : List ℕ) : Type 0 where
  pub printable : All IsLineByte line
  pub text : bytes ≡ word_bytes line
  pub kept : KeepsWords width bytes count
  pub block : IsBlock line (record { width = width; words = words_from width count bytes })
  pub point : (word_of (take (7 + width) bytes)).index ≡ 11
  pub later : All IsLater (drop 1 (words_from width count bytes))

-- A run of words with nothing after it is such a block.
block_of_run : (width n : ℕ) (line bytes rest : List ℕ) → IsTrue (is_width width)
    → Runs width (suc n) bytes rest → length rest ≡ 0 → All IsLineByte line → All IsLineByte bytes
    → width ≡ width_of line → bytes ≡ word_bytes line
    → (word_of (take (7 + width) bytes)).index ≡ 11
    → All IsLater (words_from width n (drop (8 + width) bytes))
    → PlainBlock width (suc n) line bytes
block_of_run width n line bytes rest known run none all printable w text first later =
    let blank : rest ≡ replicate (length rest) 32 =
    subst (λ (r : List ℕ). r ≡ replicate (length r) 32) (sym (nil_from_length rest none)) refl in
    let words : AreWords width bytes (words_from width (suc n) bytes) =
    run_are_words width (suc n) bytes rest run (omega arith) printable blank in
    record {
      printable = all;
      text = text;
      kept = record {
        width_known = known;
        some_word = omega arith;
        room = run_room width (suc n) bytes rest run;
        each = run_places width (suc n) bytes rest run printable;
      };
      block = record {
        width = w;
        words = subst (λ (v : ℕ). AreWords v (word_bytes line) (words_from width (suc n) bytes)) w
            (subst (λ (t : List ℕ). AreWords width t (words_from width (suc n) bytes)) text words);
        first = inl first;
      };
      point = first;
      later = later;
    }

three : (width : ℕ) (line bytes : List ℕ) → IsTrue (is_width width) → Head width bytes
    → Head width (drop (8 + width) bytes) → Head width (drop (8 + width) (drop (8 + width) bytes))
    → length bytes ≤ (8 + width) * 3 → All IsLineByte line → All IsLineByte bytes
    → width ≡ width_of line → bytes ≡ word_bytes line
    → (word_of (take (7 + width) bytes)).index ≡ 11
    → IsLater (word_of (take (7 + width) (drop (8 + width) bytes)))
    → IsLater (word_of (take (7 + width) (drop (8 + width) (drop (8 + width) bytes))))
    → PlainBlock width 3 line bytes
three width line bytes known a b c short all printable w text first second third =
    let n = 8 + width in
    let rest = drop n (drop n (drop n bytes)) in
    let run : Runs width 3 bytes rest = (
      head_begins width bytes a,
      (
        head_begins width (drop n bytes) b,
        (head_begins width (drop n (drop n bytes)) c, refl),
      ),
    ) in
    block_of_run width 2 line bytes rest known run (omega (
      arith,
      short,
      length-drop n (drop n (drop n bytes)),
      length-drop n (drop n bytes),
      length-drop n bytes,
    )) all printable w text first
    (All-cons IsLater (word_of (take (7 + width) (drop n bytes)))
    (word_of (take (7 + width) (drop n (drop n bytes))) ∷ []) second
    (All-cons IsLater (word_of (take (7 + width) (drop n (drop n bytes)))) [] third
    (All-nil IsLater)))

-- What a line begins with tells its width.
first_byte : (line : List ℕ) → get_or line 0 0 ≡ 49 → is_starred line ≡ false
first_byte [] e = absurd (omega (arith, e))
first_byte (a ∷ line) e = subst (λ (x : ℕ). is_starred (x ∷ line) ≡ false) (sym e) refl

first_star : (line : List ℕ) → get_or line 0 0 ≡ 42 → is_starred line ≡ true
first_star [] e = absurd (omega (arith, e))
first_star (a ∷ line) e = subst (λ (x : ℕ). is_starred (x ∷ line) ≡ true) (sym e) refl

-- The loads of a line of GSI-8.
record Loads (line : List ℕ) : Type 0 where
  pub size : HasSize 47 line
  pub first : is_first (load 0 line) ≡ true
  pub second : is_later (load 15 line) ≡ true
  pub third : is_later (load 31 line) ≡ true

loads_of : (line : List ℕ) → is_plain line ≡ true → Loads line
unfolding is_plain
loads_of line e =
    let all = and_parts _ _ e in
    let loads = and_parts _ _ all.1 in
    let later = and_parts _ _ loads.1 in
    record {
      size = size_of 47 line all.0;
      first = loads.0;
      second = later.0;
      third = later.1;
    }

-- A line of GSI-8 is a block.
block_of_loads : (line : List ℕ) → Loads line → PlainBlock 8 3 line line
block_of_loads line loads =
    let size : HasSize 47 line = loads.size in
    let long : 47 ≤ length line = (at_least 47 line size).0 in
    let short : length line ≤ 48 = (at_least 47 line size).1 in
    let by = load_at (codes "11!!!!+         ") (codes "11~~~~+~~~~~~~~ ") line 0 refl refl
    (omega (arith, long)) loads.first in
    let a : At line 0 49 49 = by 0 (omega arith) in
    let b : At line 1 49 49 = by 1 (omega arith) in
    let s : At line 6 43 43 = by 6 (omega arith) in
    let z : At line 15 32 32 = by 15 (omega arith) in
    let first : FirstAt line 0 = record {
      tens = omega (arith, a);
      ones = omega (arith, b);
      info = (
        ((by 2 (omega arith)).0, (by 3 (omega arith)).0),
        ((by 4 (omega arith)).0, (by 5 (omega arith)).0),
      );
      sign = omega (arith, s);
    } in
    let second : LaterAt line 16 = later_at line 15 (omega (arith, long)) loads.second in
    let third : LaterAt line 32 = later_at line 31 (omega (arith, long)) loads.third in
    let star = first_byte line first.tens in
    let back = drop-drop 16 16 line in
    let printable : All IsLineByte line =
    loaded (codes "11!!!!+         ") (codes "11~~~~+~~~~~~~~ ") line 15 (omega arith) refl refl
    refl refl loads.first (later_printable line 15 31 refl loads.second
    (later_printable line 31 47 refl loads.third (last_blank 47 line size))) in
    three 8 line line refl (first_head 8 line 0 first (omega (arith, long)) (omega (arith, z)))
    (later_head 8 line 16 second (omega (arith, long)) (inr third.blank))
    (subst (λ (x : List ℕ). Head 8 x) (sym back)
    (later_head 8 line 32 third (omega (arith, long)) (last_ends 47 line size)))
    (omega (arith, short)) printable printable (rw star refl) (rw star refl)
    (first_index 8 line 0 first) (later_index 8 line 16 second)
    (subst (λ (x : List ℕ). IsLater (word_of (take 15 x))) (sym back) (later_index 8 line 32 third))

pub plain_line : (line : List ℕ) → is_plain line ≡ true → PlainBlock 8 3 line line
plain_line line e = block_of_loads line (loads_of line e)

-- The loads of a line of GSI-16.
record WideLoads (line : List ℕ) : Type 0 where
  pub size : HasSize 72 line
  pub first : is_wide_first (load 0 line) ≡ true
  pub second : is_wide_second (load 16 line) ≡ true
  pub content : is_content (load 32 line) ≡ true
  pub third : is_later (load 48 line) ≡ true
  pub last : is_content (load 56 line) ≡ true

wide_loads_of : (line : List ℕ) → is_plain_wide line ≡ true → WideLoads line
unfolding is_plain_wide
wide_loads_of line e =
    let all = and_parts _ _ e in
    let loads = and_parts _ _ all.1 in
    let after = and_parts _ _ loads.1 in
    let middle = and_parts _ _ after.1 in
    let last = and_parts _ _ middle.1 in
    record {
      size = size_of 72 line all.0;
      first = loads.0;
      second = after.0;
      content = middle.0;
      third = last.0;
      last = last.1;
    }

-- A line of GSI-16 is a block.
block_of_wide : (line : List ℕ) → WideLoads line → PlainBlock 16 3 line (drop 1 line)
block_of_wide line loads =
    let size : HasSize 72 line = loads.size in
    let long : 72 ≤ length line = (at_least 72 line size).0 in
    let short : length line ≤ 73 = (at_least 72 line size).1 in
    let front = load_at (codes "*11!!!!+        ") (codes "*11~~~~+~~~~~~~~") line 0 refl refl
    (omega (arith, long)) loads.first in
    let by = load_at (codes "         20!!!!+") (codes "~~~~~~~~ 39~~~~+") line 16 refl refl
    (omega (arith, long)) loads.second in
    let star : At line 0 42 42 = front 0 (omega arith) in
    let a : At line 1 49 49 = front 1 (omega arith) in
    let b : At line 2 49 49 = front 2 (omega arith) in
    let s : At line 7 43 43 = front 7 (omega arith) in
    let first : FirstAt line 1 = record {
      tens = omega (arith, a);
      ones = omega (arith, b);
      info = (
        ((front 3 (omega arith)).0, (front 4 (omega arith)).0),
        ((front 5 (omega arith)).0, (front 6 (omega arith)).0),
      );
      sign = omega (arith, s);
    } in
    let tens : At line 25 50 51 = by 9 (omega arith) in
    let second : LaterAt line 25 = later_of line 25 (by 8 (omega arith))
    (tens.0, omega (arith, tens)) (λ four. absurd (omega (arith, tens, four))) (by 10 (omega arith)) (by 11 (omega arith)) (by 12 (omega arith)) (by 13 (omega arith))
    (by 14 (omega arith)) (by 15 (omega arith)) in
    let third : LaterAt line 49 = later_at line 48 (omega (arith, long)) loads.third in
    let is_star = first_star line (omega (arith, star)) in
    let back = drop-drop 24 1 line in
    let back_again = ap (λ (x : List ℕ). drop 24 x) back ∙ drop-drop 24 25 line in
    let content = loaded (codes "                ") (codes "~~~~~~~~~~~~~~~~") in
    let tail : All IsLineByte (drop 56 line) = content (drop 56 line) 16 (omega arith) refl refl
    refl refl loads.last
    (subst (All IsLineByte) (sym (drop-drop 16 56 line)) (last_blank 72 line size)) in
    let eighth : All IsLineByte (drop 48 line) = loaded (codes " 20!!!!+        ")
    (codes " 39~~~~+~~~~~~~~") (drop 48 line) 8 (omega arith) refl refl refl refl loads.third
    (subst (All IsLineByte) (sym (drop-drop 8 48 line)) tail) in
    let sixth : All IsLineByte (drop 32 line) = content (drop 32 line) 16 (omega arith) refl refl
    refl refl loads.content (subst (All IsLineByte) (sym (drop-drop 16 32 line)) eighth) in
    let fourth : All IsLineByte (drop 16 line) = loaded (codes "         20!!!!+")
    (codes "~~~~~~~~ 39~~~~+") (drop 16 line) 16 (omega arith) refl refl refl refl loads.second
    (subst (All IsLineByte) (sym (drop-drop 16 16 line)) sixth) in
    let printable : All IsLineByte line = loaded (codes "*11!!!!+        ")
    (codes "*11~~~~+~~~~~~~~") line 16 (omega arith) refl refl refl refl loads.first fourth in
    three 16 line (drop 1 line) refl
    (first_head 16 line 1 first (omega (arith, long)) second.blank)
    (subst (λ (x : List ℕ). Head 16 x) (sym back)
    (later_head 16 line 25 second (omega (arith, long)) (inr third.blank)))
    (subst (λ (x : List ℕ). Head 16 x) (sym back_again)
    (later_head 16 line 49 third (omega (arith, long)) (last_ends 72 line size)))
    (omega (arith, short, length-drop 1 line)) printable (All-drop IsLineByte 1 line printable)
    (rw is_star refl) (rw is_star refl) (first_index 16 line 1 first)
    (subst (λ (x : List ℕ). IsLater (word_of (take 23 x))) (sym back)
    (later_index 16 line 25 second))
    (subst (λ (x : List ℕ). IsLater (word_of (take 23 x))) (sym back_again)
    (later_index 16 line 49 third))

pub plain_wide : (line : List ℕ) → is_plain_wide line ≡ true → PlainBlock 16 3 line (drop 1 line)
plain_wide line e = block_of_wide line (wide_loads_of line e)

-- Such a line has this shape.
pub plain_is_shape : (width count : ℕ) (line bytes : List ℕ) → PlainBlock width count line bytes
    → IsShape (record { width = width; count = count }) line
plain_is_shape width count line bytes p = record {
  kept = subst (λ (t : List ℕ). KeepsWords width t count) p.text p.kept;
  block = subst
      (λ (t : List ℕ). IsBlock line (record { width = width; words = words_from width count t }))
      p.text p.block;
}

-- Further words of GSI-8 from a place on, before which a blank stands.
record Tail (n p : ℕ) (line : List ℕ) : Type 0 where
  pub run : Runs 8 n (drop (p + 1) line) (drop (p + 1 + 16 * n) line)
  pub more : All IsMore (words_from 8 n (drop (p + 1) line))
  pub printable : All IsLineByte (drop p line)
  pub before : (length line ≡ p) ⊎ (get_or line p 0 ≡ 32)
  pub short : length line ≤ p + 16 * n + 1

tail : (n p : ℕ) (line : List ℕ) → p + 16 * n ≤ length line → are_more n p line ≡ true
    → Tail n p line
unfolding are_more
tail zero p line room e =
    let size = size_of p line e in
    record {
      run = ap (λ (i : ℕ). drop i line) (omega arith);
      more = All-nil IsMore;
      printable = last_blank p line size;
      before = last_ends p line size;
      short = let s = (at_least p line size).1 in omega (arith, s);
    }
tail (suc n) p line room e =
    let both = and_parts _ _ e in
    let here = more_at line p (omega (arith, room)) both.0 in
    let rest = tail n (p + 16) line (omega (arith, room)) both.1 in
    let back : drop 16 (drop (p + 1) line) ≡ drop (p + 16 + 1) line = drop-drop 16 (p + 1) line
    ∙ ap (λ (i : ℕ). drop i line) (omega arith) in
    let last : drop (p + 16 + 1 + 16 * n) line ≡ drop (p + 1 + 16 * suc n) line =
    ap (λ (i : ℕ). drop i line) (omega arith) in
    let word = word_of (take 15 (drop (p + 1) line)) in
    let next : p + 16 ≡ p + 1 + (7 + 8) = omega arith in
    record {
      run = (
        head_begins 8 (drop (p + 1) line)
            (later_head 8 line (p + 1) here.0 (omega (arith, room))
            (subst (λ (i : ℕ). (length line ≡ i) ⊎ (get_or line i 0 ≡ 32)) next rest.before)),
        subst (λ (x : List ℕ). Runs 8 n x (drop (p + 1 + 16 * suc n) line)) (sym back)
            (subst (λ (x : List ℕ). Runs 8 n (drop (p + 16 + 1) line) x) last rest.run),
      );
      more = All-cons IsMore word (words_from 8 n (drop 16 (drop (p + 1) line)))
          (more_index line (p + 1) here.0 here.1)
          (subst (λ (x : List ℕ). All IsMore (words_from 8 n x)) (sym back) rest.more);
      printable = loaded (codes " 30!!!!+        ") (codes " 99~~~~+~~~~~~~~") (drop p line) 16
          (omega arith) refl refl refl refl (and_parts _ _ both.0).0
          (subst (All IsLineByte) (sym (drop-drop 16 p line)
          ∙ refl) (subst (λ (i : ℕ). All IsLineByte (drop i line)) (omega arith) rest.printable));
      before = inr (let same : p ≡ p + 1 - 1 = omega arith in
          subst (λ (i : ℕ). get_or line i 0 ≡ 32) (sym same) here.0.blank);
      short = let s = rest.short in omega (arith, s);
    }

-- The loads of a reading of GSI-8.
record NarrowReading (line : List ℕ) : Type 0 where
  pub long : 47 ≤ length line
  pub first : is_first (load 0 line) ≡ true
  pub second : is_direction (load 15 line) ≡ true
  pub third : is_zenith (load 31 line) ≡ true
  pub mode : is_input_mode (slice_index line 20) ≡ true
  pub other_mode : is_input_mode (slice_index line 36) ≡ true
  pub more : are_more (more_words line) 47 line ≡ true

narrow_loads : (line : List ℕ) → is_narrow_reading line ≡ true → NarrowReading line
unfolding is_narrow_reading begins_reading goes_on
narrow_loads line e =
    let all = and_parts _ _ e in
    let parts = and_parts _ _ all.1 in
    let first = and_parts _ _ parts.0 in
    let second = and_parts _ _ first.1 in
    let third = and_parts _ _ second.1 in
    let modes = and_parts _ _ third.1 in
    record {
      long = leb-true _ _ all.0;
      first = first.0;
      second = second.0;
      third = third.0;
      mode = modes.0;
      other_mode = modes.1;
      more = parts.1;
    }

-- The loads of a reading of GSI-16.
record WideReading (line : List ℕ) : Type 0 where
  pub size : HasSize 72 line
  pub first : is_wide_first (load 0 line) ≡ true
  pub second : is_wide_direction (load 16 line) ≡ true
  pub content : is_wide_angle (load 32 line) ≡ true
  pub third : is_wide_zenith (load 48 line) ≡ true
  pub last : is_wide_angle (load 56 line) ≡ true
  pub mode : is_input_mode (slice_index line 29) ≡ true
  pub other_mode : is_input_mode (slice_index line 53) ≡ true

wide_reading_loads : (line : List ℕ) → is_wide_reading line ≡ true → WideReading line
unfolding is_wide_reading
wide_reading_loads line e =
    let all = and_parts _ _ e in
    let first = and_parts _ _ all.1 in
    let second = and_parts _ _ first.1 in
    let content = and_parts _ _ second.1 in
    let third = and_parts _ _ content.1 in
    let last = and_parts _ _ third.1 in
    let modes = and_parts _ _ last.1 in
    record {
      size = size_of 72 line all.0;
      first = first.0;
      second = second.0;
      content = content.0;
      third = third.0;
      last = last.0;
      mode = modes.0;
      other_mode = modes.1;
    }

-- The words of a reading.
abbrev second_word : ℕ → List ℕ → GsiWord
second_word width bytes = word_of (take (7 + width) (drop (8 + width) bytes))

abbrev third_word : ℕ → List ℕ → GsiWord
third_word width bytes = word_of (take (7 + width) (drop (8 + width) (drop (8 + width) bytes)))

-- The words after the third.
abbrev more_from : ℕ → ℕ → List ℕ → List GsiWord
more_from width n bytes =
    words_from width n (drop (8 + width) (drop (8 + width) (drop (8 + width) bytes)))

-- What is known of a reading: its words, so many more than three, and the places of the digits of
-- its direction and of its zenith angle.
pub record ReadingLine (width n : ℕ) (line bytes : List ℕ) (d z : ℕ) : Type 0 where
  pub block : PlainBlock width (suc (suc (suc n))) line bytes
  pub long : 47 ≤ length line
  pub room : (d + 8 ≤ length line) × (z + 8 ≤ length line)
  pub ink : 33 ≤ get_or line 0 0
  pub direction : IsAngleWord 21 (second_word width bytes) line d
  pub zenith : IsAngleWord 22 (third_word width bytes) line z
  pub more : All IsMore (more_from width n bytes)

narrow_of_loads : (line : List ℕ) → NarrowReading line
    → ReadingLine 8 (more_words line) line line 23 39
narrow_of_loads line r =
    let n = more_words line in
    let long : 47 ≤ length line = r.long in
    let by = load_at (codes "11!!!!+         ") (codes "11~~~~+~~~~~~~~ ") line 0 refl refl
    (omega (arith, long)) r.first in
    let a : At line 0 49 49 = by 0 (omega arith) in
    let b : At line 1 49 49 = by 1 (omega arith) in
    let s : At line 6 43 43 = by 6 (omega arith) in
    let z : At line 15 32 32 = by 15 (omega arith) in
    let first : FirstAt line 0 = record {
      tens = omega (arith, a);
      ones = omega (arith, b);
      info = (
        ((by 2 (omega arith)).0, (by 3 (omega arith)).0),
        ((by 4 (omega arith)).0, (by 5 (omega arith)).0),
      );
      sign = omega (arith, s);
    } in
    let is_second = direction_is_later (load 15 line) r.second in
    let is_third = zenith_is_later (load 31 line) r.third in
    let second : LaterAt line 16 = later_at line 15 (omega (arith, long)) is_second in
    let third : LaterAt line 32 = later_at line 31 (omega (arith, long)) is_third in
    let rest : Tail n 47 line = tail n 47 line (omega (arith, long)) r.more in
    let short = rest.short in
    let star = first_byte line first.tens in
    let back = drop-drop 16 16 line in
    let back_again = ap (λ (x : List ℕ). drop 16 x) back ∙ drop-drop 16 32 line in
    let printable : All IsLineByte line =
    loaded (codes "11!!!!+         ") (codes "11~~~~+~~~~~~~~ ") line 15 (omega arith) refl refl
    refl refl r.first (later_printable line 15 31 refl is_second
    (later_printable line 31 47 refl is_third rest.printable)) in
    let run : Runs 8 (suc (suc (suc n))) line (drop (48 + 16 * n) line) = (
      head_begins 8 line (first_head 8 line 0 first (omega (arith, long)) (omega (arith, z))),
      (
        head_begins 8 (drop 16 line)
            (later_head 8 line 16 second (omega (arith, long)) (inr third.blank)),
        (
          subst (λ (x : List ℕ). begins_word 8 x ≡ true) (sym back)
              (head_begins 8 (drop 32 line)
              (later_head 8 line 32 third (omega (arith, long)) rest.before)),
          subst (λ (x : List ℕ). Runs 8 n x (drop (48 + 16 * n) line)) (sym back_again) rest.run,
        ),
      ),
    ) in
    let more : All IsMore (more_from 8 n line) =
    subst (λ (x : List ℕ). All IsMore (words_from 8 n x)) (sym back_again) rest.more in
    record {
      block = block_of_run 8 (suc (suc n)) line line (drop (48 + 16 * n) line) refl run
          (omega (arith, short, length-drop (48 + 16 * n) line)) printable printable (rw star refl)
          (rw star refl) (first_index 8 line 0 first)
          (All-cons IsLater (second_word 8 line) (third_word 8 line ∷ more_from 8 n line)
          (later_index 8 line 16 second)
          (All-cons IsLater (third_word 8 line) (more_from 8 n line)
          (subst (λ (x : List ℕ). IsLater (word_of (take 15 x))) (sym back)
          (later_index 8 line 32 third))
          (All-weaker IsMore IsLater (λ w m. m.0) (more_from 8 n line) more)));
      long = long;
      room = (omega (arith, long), omega (arith, long));
      ink = omega (arith, a);
      direction = direction_at line long r.second r.mode;
      zenith = subst (λ (x : List ℕ). IsAngleWord 22 (word_of (take 15 x)) line 39) (sym back)
          (zenith_at line long r.third r.other_mode);
      more = more;
    }

pub narrow_line : (line : List ℕ) → is_narrow_reading line ≡ true
    → ReadingLine 8 (more_words line) line line 23 39
narrow_line line e = narrow_of_loads line (narrow_loads line e)

wide_of_loads : (line : List ℕ) → WideReading line → ReadingLine 16 0 line (drop 1 line) 40 64
wide_of_loads line r =
    let long : 72 ≤ length line = (at_least 72 line r.size).0 in
    let star : At line 0 42 42 = load_at (codes "*11!!!!+        ") (codes "*11~~~~+~~~~~~~~") line 0
    refl refl (omega (arith, long)) r.first 0 (omega arith) in
    let back = drop-drop 24 1 line in
    let back_again = ap (λ (x : List ℕ). drop 24 x) back ∙ drop-drop 24 25 line in
    record {
      block = block_of_wide line (record {
        size = r.size;
        first = r.first;
        second = wide_direction_is_second (load 16 line) r.second;
        content = wide_angle_is_content (load 32 line) r.content;
        third = wide_zenith_is_later (load 48 line) r.third;
        last = wide_angle_is_content (load 56 line) r.last;
      });
      long = omega (arith, long);
      room = (omega (arith, long), omega (arith, long));
      ink = omega (arith, star);
      direction = subst (λ (x : List ℕ). IsAngleWord 21 (word_of (take 23 x)) line 40) (sym back)
          (wide_direction_at line long r.second r.content r.mode);
      zenith = subst (λ (x : List ℕ). IsAngleWord 22 (word_of (take 23 x)) line 64)
          (sym back_again) (wide_zenith_at line long r.third r.last r.other_mode);
      more = All-nil IsMore;
    }

pub wide_line : (line : List ℕ) → is_wide_reading line ≡ true
    → ReadingLine 16 0 line (drop 1 line) 40 64
wide_line line e = wide_of_loads line (wide_reading_loads line e)

-- A reading of either width.
pub record PlainReading (line : List ℕ) : Type 0 where
  pub width : ℕ
  pub n : ℕ
  pub bytes : List ℕ
  pub d : ℕ
  pub z : ℕ
  pub reading : ReadingLine width n line bytes d z

pub reading_line : (line : List ℕ) → is_plain_reading line ≡ true → PlainReading line
unfolding is_plain_reading
reading_line line e = elim (or_cases _ _ e) [
  | inl narrow ↦ record {
    width = 8;
    n = more_words line;
    bytes = line;
    d = 23;
    z = 39;
    reading = narrow_line line narrow;
  }
  | inr wide ↦ record {
    width = 16;
    n = 0;
    bytes = drop 1 line;
    d = 40;
    z = 64;
    reading = wide_line line wide;
  }
]

-- Its first byte tells its width.
pub narrow_begins : (line : List ℕ) → is_narrow_reading line ≡ true → get_or line 0 0 ≡ 49
narrow_begins line e =
    let r = narrow_loads line e in
    let long = r.long in
    let a : At line 0 49 49 = load_at (codes "11!!!!+         ") (codes "11~~~~+~~~~~~~~ ") line 0
    refl refl (omega (arith, long)) r.first 0 (omega arith) in omega (arith, a)

pub wide_begins : (line : List ℕ) → is_wide_reading line ≡ true → get_or line 0 0 ≡ 42
wide_begins line e =
    let r = wide_reading_loads line e in
    let long : 72 ≤ length line = (at_least 72 line r.size).0 in
    let star : At line 0 42 42 = load_at (codes "*11!!!!+        ") (codes "*11~~~~+~~~~~~~~") line 0
    refl refl (omega (arith, long)) r.first 0 (omega arith) in omega (arith, star)

pub is_starred_wide : (line : List ℕ) → is_plain_reading line ≡ true → get_or line 0 0 ≡ 42
    → is_wide_reading line ≡ true
unfolding is_plain_reading
is_starred_wide line e star = elim (or_cases _ _ e) [
  | inl narrow ↦ let one = narrow_begins line narrow in absurd (omega (arith, one, star))
  | inr wide ↦ wide
]

pub is_other_narrow : (line : List ℕ) → is_plain_reading line ≡ true
    → (get_or line 0 0 ≡ 42 → ⊥) → is_narrow_reading line ≡ true
unfolding is_plain_reading
is_other_narrow line e other = elim (or_cases _ _ e) [
  | inl narrow ↦ narrow
  | inr wide ↦ absurd (other (wide_begins line wide))
]

-- It is this block.
pub block_of_reading : (width n : ℕ) (line bytes : List ℕ) (d z : ℕ) (b : GsiBlock)
    → ReadingLine width n line bytes d z → IsBlock line b
    → (record { width = width; words = words_from width (suc (suc (suc n))) bytes }) ≡ b
block_of_reading width n line bytes d z b r is = same_block line (record {
  width = width;
  words = words_from width (suc (suc (suc n))) bytes;
}) b r.block.block is

-- Its words, and what is found among them.
none_of : (k : ℕ) → k < 30 → (w : GsiWord) → IsMore w → (w.index == k) ≡ false
none_of k small w more =
    let from = more.1 in ne_eqb w.index k (λ e. absurd (omega (arith, from, small, e)))

none_with : (k : ℕ) → k < 30 → (more : List GsiWord) → All IsMore more
    → words_with k more ≡ []
none_with k small [] all = refl
none_with k small (w ∷ more) all =
    let here : (w.index == k) ≡ false = none_of k small w (All-head IsMore w more all) in
    rw (here) (none_with k small more (All-tail IsMore w more all))

direction_found : (p d z : GsiWord) (more : List GsiWord) → p.index ≡ 11 → d.index ≡ 21
    → z.index ≡ 22 → All IsMore more → found 21 (p ∷ d ∷ z ∷ more) ≡ One d
direction_found p d z more a b c all =
    let point : (p.index == 21) ≡ false = ne_eqb p.index 21 (λ e. absurd (omega (arith, a, e))) in
    let here : (d.index == 21) ≡ true = eq-eqb d.index 21 b in
    let other : (z.index == 21) ≡ false = ne_eqb z.index 21 (λ e. absurd (omega (arith, c, e))) in
    rw (point, here, other, none_with 21 (omega arith) more all) refl

zenith_found : (p d z : GsiWord) (more : List GsiWord) → p.index ≡ 11 → d.index ≡ 21
    → z.index ≡ 22 → All IsMore more → found 22 (p ∷ d ∷ z ∷ more) ≡ One z
zenith_found p d z more a b c all =
    let point : (p.index == 22) ≡ false = ne_eqb p.index 22 (λ e. absurd (omega (arith, a, e))) in
    let other : (d.index == 22) ≡ false = ne_eqb d.index 22 (λ e. absurd (omega (arith, b, e))) in
    let here : (z.index == 22) ≡ true = eq-eqb z.index 22 c in
    rw (point, other, here, none_with 22 (omega arith) more all) refl

pub direction_of_reading : (width n : ℕ) (line bytes : List ℕ) (d z : ℕ) (b : GsiBlock)
    → ReadingLine width n line bytes d z → IsBlock line b
    → HasAngle 21 b.words (decimal_value (take 8 (drop d line)))
direction_of_reading width n line bytes d z b r is = subst
    (λ (c : GsiBlock). HasAngle 21 c.words (decimal_value (take 8 (drop d line))))
    (block_of_reading width n line bytes d z b r is) (record {
      word = second_word width bytes;
      one = direction_found (word_of (take (7 + width) bytes)) (second_word width bytes)
          (third_word width bytes) (more_from width n bytes) r.block.point r.direction.of_index
          r.zenith.of_index r.more;
      angle = r.direction.angle;
    })

pub zenith_of_reading : (width n : ℕ) (line bytes : List ℕ) (d z : ℕ) (b : GsiBlock)
    → ReadingLine width n line bytes d z → IsBlock line b
    → HasAngle 22 b.words (decimal_value (take 8 (drop z line)))
zenith_of_reading width n line bytes d z b r is = subst
    (λ (c : GsiBlock). HasAngle 22 c.words (decimal_value (take 8 (drop z line))))
    (block_of_reading width n line bytes d z b r is) (record {
      word = third_word width bytes;
      one = zenith_found (word_of (take (7 + width) bytes)) (second_word width bytes)
          (third_word width bytes) (more_from width n bytes) r.block.point r.direction.of_index
          r.zenith.of_index r.more;
      angle = r.zenith.angle;
    })

-- Its first word is a point number.
pub reading_begins : (width n : ℕ) (line bytes : List ℕ) (d z : ℕ) (b : GsiBlock)
    → ReadingLine width n line bytes d z → IsBlock line b
    → slice_get b.words 0 ≡ Some (word_of (take (7 + width) bytes))
reading_begins width n line bytes d z b r is = ap (λ (c : GsiBlock). slice_get c.words 0)
    (sym (block_of_reading width n line bytes d z b r is))

-- Its later words are none that a line begins with.
pub reading_goes_on : (width n : ℕ) (line bytes : List ℕ) (d z : ℕ) (b : GsiBlock)
    → ReadingLine width n line bytes d z → IsBlock line b → All IsLater (drop 1 b.words)
reading_goes_on width n line bytes d z b r is =
    subst (λ (c : GsiBlock). All IsLater (drop 1 c.words))
    (block_of_reading width n line bytes d z b r is) r.block.later
