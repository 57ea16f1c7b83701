-- Words of lines as most readings are written, where they stand.
use Rattle.std.proofs.Common.{◌≡◌, ◌∙◌, ℕ, suc, ◌+◌, ◌-◌, ◌*◌, ◌<◌, ◌≤◌, ◌⊎◌, inl, inr, true, false}
use Rattle.std.proofs.Common.{List, [], ◌∷◌, length, get_or, take, drop, refl, sym, ap, subst}
use Rattle.std.proofs.Common.{arith, true≢false}
use Rattle.std.specs.Prelude.{codes, nat_le, ◌==◌, slice_index, Ok}
use Rattle.std.specs.Char.{is_ascii_digit}
use Rattle.std.specs.List.{list_all}
use Rattle.std.proofs.lemmas.Bool.{and_parts, and_from, le-leb, eq-eqb, ne_eqb, not-true}
use Rattle.std.proofs.lemmas.List.{get_or-take, length-drop, drop-drop}
use Rattle.gsi_word.specs.Words.{GsiWord}
use Rattle.gsi_word.specs.Angles.{angle_of, decimal_value, is_input_mode}
use Rattle.gsi_word.specs.Layout.{begins_word, word_of}
use Rattle.gsi_word.specs.PlainLines.{load, is_later, is_direction, is_zenith, is_wide_direction}
use Rattle.gsi_word.specs.PlainLines.{is_wide_zenith, is_wide_angle, is_more}
use Rattle.gsi_word.proofs.WordLaws.{test_of_cells, at_head}
use Rattle.gsi_word.proofs.PlainLoads.{byte_from, load_at, At, moved}

-- A word is none that a line begins with: its index is 20 or more, and not 41.
abbrev pub IsLater : GsiWord → Type 0
IsLater w = (20 ≤ w.index) × (w.index ≡ 41 → ⊥)

-- Nor is it one of an angle.
abbrev pub IsMore : GsiWord → Type 0
IsMore w = IsLater w × (30 ≤ w.index)

-- What is known of the bytes of a word with a plus sign.
pub record Head (width : ℕ) (x : List ℕ) : Type 0 where
  pub long : 7 + width ≤ length x
  pub tens : (48 ≤ get_or x 0 0) × (get_or x 0 0 ≤ 57)
  pub ones : (48 ≤ get_or x 1 0) × (get_or x 1 0 ≤ 57)
  pub info : ((33 ≤ get_or x 2 0) × (33 ≤ get_or x 3 0))
      × ((33 ≤ get_or x 4 0) × (33 ≤ get_or x 5 0))
  pub sign : get_or x 6 0 ≡ 43
  pub ends : (length x ≡ 7 + width) ⊎ (get_or x (7 + width) 0 ≡ 32)

pub not_blank : (b : ℕ) → 33 ≤ b → b ≡ 32 → ⊥
not_blank b ink e = absurd (omega arith)

-- Such bytes are a word.
pub head_begins : (width : ℕ) (x : List ℕ) → Head width x → begins_word width x ≡ true
head_begins width [] h = let l = h.long in absurd (omega (arith, l))
head_begins width (a ∷ []) h = let l = h.long in absurd (omega (arith, l))
head_begins width (a ∷ b ∷ []) h = let l = h.long in absurd (omega (arith, l))
head_begins width (a ∷ b ∷ i ∷ []) h = let l = h.long in absurd (omega (arith, l))
head_begins width (a ∷ b ∷ i ∷ j ∷ []) h = let l = h.long in absurd (omega (arith, l))
head_begins width (a ∷ b ∷ i ∷ j ∷ k ∷ []) h = let l = h.long in absurd (omega (arith, l))
head_begins width (a ∷ b ∷ i ∷ j ∷ k ∷ m ∷ []) h = let l = h.long in absurd (omega (arith, l))
head_begins width (a ∷ b ∷ i ∷ j ∷ k ∷ m ∷ s ∷ rest) h =
    let l = h.long in
    test_of_cells width a b i j k m s rest (record {
      long = omega (arith, l);
      tens = h.tens;
      ones = h.ones;
      info = (
        not_blank i h.info.0.0,
        (not_blank j h.info.0.1, (not_blank k h.info.1.0, not_blank m h.info.1.1)),
      );
      sign = inl h.sign;
      ends = elim h.ends [
        | inl e ↦ inl (omega (arith, e))
        | inr e ↦ inr (sym (at_head width a b i j k m s rest) ∙ e)
      ];
    })

-- The bytes of a word from this place on, up to its sign; its index begins with 2 to 9 and not
-- with 4.
pub record LaterAt (line : List ℕ) (p : ℕ) : Type 0 where
  pub tens : (50 ≤ get_or line p 0) × (get_or line p 0 ≤ 57)
  pub not_four : get_or line p 0 ≡ 52 → ⊥
  pub ones : (48 ≤ get_or line (p + 1) 0) × (get_or line (p + 1) 0 ≤ 57)
  pub info : ((33 ≤ get_or line (p + 2) 0) × (33 ≤ get_or line (p + 3) 0))
      × ((33 ≤ get_or line (p + 4) 0) × (33 ≤ get_or line (p + 5) 0))
  pub sign : get_or line (p + 6) 0 ≡ 43
  pub blank : get_or line (p - 1) 0 ≡ 32

pub later_of : (line : List ℕ) (p : ℕ) → At line (p - 1) 32 32 → At line p 50 57
    → (get_or line p 0 ≡ 52 → ⊥) → At line (p + 1) 48 57 → At line (p + 2) 33 126 → At line (p + 3) 33 126
    → At line (p + 4) 33 126 → At line (p + 5) 33 126 → At line (p + 6) 43 43 → LaterAt line p
later_of line p z a four b i j k m s = record {
  tens = a;
  not_four = four;
  ones = b;
  info = ((i.0, j.0), (k.0, m.0));
  sign = omega (arith, s);
  blank = omega (arith, z);
}

-- After the blank at the place of a load.
pub later_at : (line : List ℕ) (at : ℕ) → at + 16 ≤ length line → is_later (load at line) ≡ true
    → LaterAt line (at + 1)
later_at line at room e =
    let by = load_at (codes " 20!!!!+        ") (codes " 39~~~~+~~~~~~~~") line at refl refl room
    e in
    let tens : At line (at + 1) 50 51 = by 1 (omega arith) in
    later_of line (at + 1)
    (moved line (at + 0) (at + 1 - 1) 32 32 (omega arith) (by 0 (omega arith)))
    (tens.0, omega (arith, tens)) (λ four. absurd (omega (arith, tens, four)))
    (moved line (at + 2) (at + 1 + 1) 48 57 (omega arith) (by 2 (omega arith)))
    (moved line (at + 3) (at + 1 + 2) 33 126 (omega arith) (by 3 (omega arith)))
    (moved line (at + 4) (at + 1 + 3) 33 126 (omega arith) (by 4 (omega arith)))
    (moved line (at + 5) (at + 1 + 4) 33 126 (omega arith) (by 5 (omega arith)))
    (moved line (at + 6) (at + 1 + 5) 33 126 (omega arith) (by 6 (omega arith)))
    (moved line (at + 7) (at + 1 + 6) 43 43 (omega arith) (by 7 (omega arith)))

-- The same of a further word.
pub more_at : (line : List ℕ) (at : ℕ) → at + 16 ≤ length line → is_more at line ≡ true
    → LaterAt line (at + 1) × (51 ≤ get_or line (at + 1) 0)
more_at line at room e =
    let both = and_parts _ _ e in
    let by = load_at (codes " 30!!!!+        ") (codes " 99~~~~+~~~~~~~~") line at refl refl room
    both.0 in
    let tens : At line (at + 1) 51 57 = by 1 (omega arith) in
    let not_four : (slice_index line (at + 1) == 52) ≡ false = not-true _ both.1 in (
      later_of line (at + 1)
          (moved line (at + 0) (at + 1 - 1) 32 32 (omega arith) (by 0 (omega arith)))
          (omega (arith, tens), tens.1)
          (λ four. true≢false (sym (eq-eqb (get_or line (at + 1) 0) 52 four) ∙ not_four))
          (moved line (at + 2) (at + 1 + 1) 48 57 (omega arith) (by 2 (omega arith)))
          (moved line (at + 3) (at + 1 + 2) 33 126 (omega arith) (by 3 (omega arith)))
          (moved line (at + 4) (at + 1 + 3) 33 126 (omega arith) (by 4 (omega arith)))
          (moved line (at + 5) (at + 1 + 4) 33 126 (omega arith) (by 5 (omega arith)))
          (moved line (at + 6) (at + 1 + 5) 33 126 (omega arith) (by 6 (omega arith)))
          (moved line (at + 7) (at + 1 + 6) 43 43 (omega arith) (by 7 (omega arith))),
      tens.0,
    )

-- A word of this width is there.
pub later_head : (width : ℕ) (line : List ℕ) (p : ℕ) → LaterAt line p
    → p + (7 + width) ≤ length line
    → (length line ≡ p + (7 + width)) ⊎ (get_or line (p + (7 + width)) 0 ≡ 32)
    → Head width (drop p line)
later_head width line p at room after =
    let a = at.tens in
    let b = at.ones in
    let i = at.info.0.0 in
    let j = at.info.0.1 in
    let k = at.info.1.0 in
    let m = at.info.1.1 in
    let front = byte_from line p 0 p (omega arith) in
    let byte = λ (n : ℕ). byte_from line p n (p + n) refl in
    record {
      long = omega (arith, room, length-drop p line);
      tens = (omega (arith, a, front), omega (arith, a, front));
      ones = (omega (arith, b, byte 1), omega (arith, b, byte 1));
      info = (
        (omega (arith, i, byte 2), omega (arith, j, byte 3)),
        (omega (arith, k, byte 4), omega (arith, m, byte 5)),
      );
      sign = byte 6 ∙ at.sign;
      ends = elim after [
        | inl n ↦ inl (omega (arith, n, length-drop p line))
        | inr z ↦ inr (byte (7 + width) ∙ z)
      ];
    }

-- It is none that a line begins with.
pub later_index : (width : ℕ) (line : List ℕ) (p : ℕ) → LaterAt line p
    → IsLater (word_of (take (7 + width) (drop p line)))
later_index width line p at =
    let x = drop p line in
    let a = at.tens in
    let b = at.ones in
    let t = get_or-take (7 + width) x 0 0 (omega arith) ∙ byte_from line p 0 p (omega arith) in
    let o = get_or-take (7 + width) x 1 0 (omega arith) ∙ byte_from line p 1 (p + 1) refl in
    (omega (arith, t, o, a, b), λ e. at.not_four (omega (arith, t, o, a, b, e)))

pub more_index : (line : List ℕ) (p : ℕ) → LaterAt line p → 51 ≤ get_or line p 0
    → IsMore (word_of (take 15 (drop p line)))
more_index line p at from =
    let x = drop p line in
    let a = at.tens in
    let b = at.ones in
    let t = get_or-take 15 x 0 0 (omega arith) ∙ byte_from line p 0 p (omega arith) in
    let o = get_or-take 15 x 1 0 (omega arith) ∙ byte_from line p 1 (p + 1) refl in
    (later_index 8 line p at, omega (arith, t, o, a, b, from))

-- A point number from this place on, up to its sign.
pub record FirstAt (line : List ℕ) (p : ℕ) : Type 0 where
  pub tens : get_or line p 0 ≡ 49
  pub ones : get_or line (p + 1) 0 ≡ 49
  pub info : ((33 ≤ get_or line (p + 2) 0) × (33 ≤ get_or line (p + 3) 0))
      × ((33 ≤ get_or line (p + 4) 0) × (33 ≤ get_or line (p + 5) 0))
  pub sign : get_or line (p + 6) 0 ≡ 43

pub first_head : (width : ℕ) (line : List ℕ) (p : ℕ) → FirstAt line p
    → p + (7 + width) ≤ length line
    → get_or line (p + (7 + width)) 0 ≡ 32 → Head width (drop p line)
first_head width line p at room after =
    let a = at.tens in
    let b = at.ones in
    let i = at.info.0.0 in
    let j = at.info.0.1 in
    let k = at.info.1.0 in
    let m = at.info.1.1 in
    let front = byte_from line p 0 p (omega arith) in
    let byte = λ (n : ℕ). byte_from line p n (p + n) refl in
    record {
      long = omega (arith, room, length-drop p line);
      tens = (omega (arith, a, front), omega (arith, a, front));
      ones = (omega (arith, b, byte 1), omega (arith, b, byte 1));
      info = (
        (omega (arith, i, byte 2), omega (arith, j, byte 3)),
        (omega (arith, k, byte 4), omega (arith, m, byte 5)),
      );
      sign = byte 6 ∙ at.sign;
      ends = inr (byte (7 + width) ∙ after);
    }

pub first_index : (width : ℕ) (line : List ℕ) (p : ℕ) → FirstAt line p
    → (word_of (take (7 + width) (drop p line))).index ≡ 11
first_index width line p at =
    let x = drop p line in
    let a = at.tens in
    let b = at.ones in
    let t = get_or-take (7 + width) x 0 0 (omega arith) ∙ byte_from line p 0 p (omega arith) in
    let o = get_or-take (7 + width) x 1 0 (omega arith) ∙ byte_from line p 1 (p + 1) refl in
    omega (arith, t, o, a, b)

-- A digit.
abbrev pub IsDigit : ℕ → Type 0
IsDigit b = (48 ≤ b) × (b ≤ 57)

pub digit_test : (b : ℕ) → IsDigit b → is_ascii_digit b ≡ true
digit_test b d = and_from (nat_le 48 b) (nat_le b 57) (le-leb 48 b d.0) (le-leb b 57 d.1)

-- So many digits, below a full turn.
pub record Below (size : ℕ) (digits : List ℕ) : Type 0 where
  pub all : list_all is_ascii_digit (take size digits) ≡ true
  pub most : decimal_value (take size digits) ≤ 39999999

-- Eight digits of which the first is at most 3 are.
pub eight_of : (a b c d e f g h : ℕ) (rest : List ℕ) → IsDigit a → a ≤ 51 → IsDigit b → IsDigit c
    → IsDigit d → IsDigit e → IsDigit f → IsDigit g → IsDigit h
    → Below 8 (a ∷ b ∷ c ∷ d ∷ e ∷ f ∷ g ∷ h ∷ rest)
eight_of a b c d e f g h rest i few j k l m n o p = record {
  all = rw (
    digit_test a i,
    digit_test b j,
    digit_test c k,
    digit_test d l,
    digit_test e m,
    digit_test f n,
    digit_test g o,
    digit_test h p,
  ) refl;
  most = omega (arith, i, few, j, k, l, m, n, o, p);
}

-- Bytes that stand so in a list.
pub record EightAt (x : List ℕ) : Type 0 where
  pub few : IsDigit (get_or x 0 0) × (get_or x 0 0 ≤ 51)
  pub b : IsDigit (get_or x 1 0)
  pub c : IsDigit (get_or x 2 0)
  pub d : IsDigit (get_or x 3 0)
  pub e : IsDigit (get_or x 4 0)
  pub f : IsDigit (get_or x 5 0)
  pub g : IsDigit (get_or x 6 0)
  pub h : IsDigit (get_or x 7 0)

pub eight_digits : (x : List ℕ) → 8 ≤ length x → EightAt x → Below 8 x
eight_digits [] l at = absurd (omega (arith, l))
eight_digits (a ∷ []) l at = absurd (omega (arith, l))
eight_digits (a ∷ b ∷ []) l at = absurd (omega (arith, l))
eight_digits (a ∷ b ∷ c ∷ []) l at = absurd (omega (arith, l))
eight_digits (a ∷ b ∷ c ∷ d ∷ []) l at = absurd (omega (arith, l))
eight_digits (a ∷ b ∷ c ∷ d ∷ e ∷ []) l at = absurd (omega (arith, l))
eight_digits (a ∷ b ∷ c ∷ d ∷ e ∷ f ∷ []) l at = absurd (omega (arith, l))
eight_digits (a ∷ b ∷ c ∷ d ∷ e ∷ f ∷ g ∷ []) l at = absurd (omega (arith, l))
eight_digits (a ∷ b ∷ c ∷ d ∷ e ∷ f ∷ g ∷ h ∷ rest) l at =
    eight_of a b c d e f g h rest at.few.0 at.few.1 at.b at.c at.d at.e at.f at.g at.h

-- Sixteen digits of which the first eight are zeros are worth what the last eight are.
pub record Sixteen (digits : List ℕ) : Type 0 where
  pub below : Below 16 digits
  pub last : Below 8 (drop 8 digits)
  pub value : decimal_value (take 16 digits) ≡ decimal_value (take 8 (drop 8 digits))

pub sixteen_of : (a b c d e f g h : ℕ) (rest : List ℕ) → a ≡ 48 → b ≡ 48 → c ≡ 48 → d ≡ 48
    → e ≡ 48 → f ≡ 48 → g ≡ 48 → h ≡ 48 → Below 8 rest
    → Sixteen (a ∷ b ∷ c ∷ d ∷ e ∷ f ∷ g ∷ h ∷ rest)
sixteen_of a b c d e f g h rest i j k l m n o p last =
    let value : decimal_value (a ∷ b ∷ c ∷ d ∷ e ∷ f ∷ g ∷ h ∷ take 8 rest)
    ≡ decimal_value (take 8 rest) = rw (i, j, k, l, m, n, o, p) refl in
    let most = last.most in
    record {
      below = record {
        all = rw (i, j, k, l, m, n, o, p, last.all) refl;
        most = omega (arith, value, most);
      };
      last = last;
      value = value;
    }

-- Zeros that stand so in a list.
pub record ZerosAt (x : List ℕ) : Type 0 where
  pub a : get_or x 0 0 ≡ 48
  pub b : get_or x 1 0 ≡ 48
  pub c : get_or x 2 0 ≡ 48
  pub d : get_or x 3 0 ≡ 48
  pub e : get_or x 4 0 ≡ 48
  pub f : get_or x 5 0 ≡ 48
  pub g : get_or x 6 0 ≡ 48
  pub h : get_or x 7 0 ≡ 48

pub sixteen_digits : (x : List ℕ) → 8 ≤ length x → ZerosAt x → Below 8 (drop 8 x) → Sixteen x
sixteen_digits [] l at last = absurd (omega (arith, l))
sixteen_digits (a ∷ []) l at last = absurd (omega (arith, l))
sixteen_digits (a ∷ b ∷ []) l at last = absurd (omega (arith, l))
sixteen_digits (a ∷ b ∷ c ∷ []) l at last = absurd (omega (arith, l))
sixteen_digits (a ∷ b ∷ c ∷ d ∷ []) l at last = absurd (omega (arith, l))
sixteen_digits (a ∷ b ∷ c ∷ d ∷ e ∷ []) l at last = absurd (omega (arith, l))
sixteen_digits (a ∷ b ∷ c ∷ d ∷ e ∷ f ∷ []) l at last = absurd (omega (arith, l))
sixteen_digits (a ∷ b ∷ c ∷ d ∷ e ∷ f ∷ g ∷ []) l at last = absurd (omega (arith, l))
sixteen_digits (a ∷ b ∷ c ∷ d ∷ e ∷ f ∷ g ∷ h ∷ rest) l at last =
    sixteen_of a b c d e f g h rest at.a at.b at.c at.d at.e at.f at.g at.h last

-- The angle of a word whose bytes are these.
pub angle_of_cells : (size a b i j k m s : ℕ) (rest : List ℕ) → is_input_mode k ≡ true → m ≡ 50
    → s ≡ 43 → Below size rest
    → angle_of (word_of (take (7 + size) (a ∷ b ∷ i ∷ j ∷ k ∷ m ∷ s ∷ rest)))
    ≡ Ok (decimal_value (take size rest))
angle_of_cells size a b i j k m s rest mode gon sign below =
    let unit : (m == 50) ≡ true = eq-eqb m 50 gon in
    let plus : (s == 45) ≡ false = ne_eqb s 45 (λ e. absurd (omega (arith, sign, e))) in
    let within : nat_le (decimal_value (take size rest)) 39999999 ≡ true =
    le-leb (decimal_value (take size rest)) 39999999 below.most in
    let cut : take (7 + size) (a ∷ b ∷ i ∷ j ∷ k ∷ m ∷ s ∷ rest)
    ≡ a ∷ b ∷ i ∷ j ∷ k ∷ m ∷ s ∷ take size rest =
    ap (λ (n : ℕ). take n (a ∷ b ∷ i ∷ j ∷ k ∷ m ∷ s ∷ rest))
    (let seven : 7 + size ≡ suc (suc (suc (suc (suc (suc (suc size)))))) = omega arith in seven) in
    let says : angle_of (word_of (a ∷ b ∷ i ∷ j ∷ k ∷ m ∷ s ∷ take size rest))
    ≡ Ok (decimal_value (take size rest)) =
    rw (unit, mode, plus, below.all, within) refl in
    ap (λ (l : List ℕ). angle_of (word_of l)) cut ∙ says

pub word_angle : (size : ℕ) (x : List ℕ) → 7 + size ≤ length x
    → is_input_mode (get_or x 4 0) ≡ true
    → get_or x 5 0 ≡ 50 → get_or x 6 0 ≡ 43 → Below size (drop 7 x)
    → angle_of (word_of (take (7 + size) x)) ≡ Ok (decimal_value (take size (drop 7 x)))
word_angle size [] l mode gon sign below = absurd (omega (arith, l))
word_angle size (a ∷ []) l mode gon sign below = absurd (omega (arith, l))
word_angle size (a ∷ b ∷ []) l mode gon sign below = absurd (omega (arith, l))
word_angle size (a ∷ b ∷ i ∷ []) l mode gon sign below = absurd (omega (arith, l))
word_angle size (a ∷ b ∷ i ∷ j ∷ []) l mode gon sign below = absurd (omega (arith, l))
word_angle size (a ∷ b ∷ i ∷ j ∷ k ∷ []) l mode gon sign below = absurd (omega (arith, l))
word_angle size (a ∷ b ∷ i ∷ j ∷ k ∷ m ∷ []) l mode gon sign below = absurd (omega (arith, l))
word_angle size (a ∷ b ∷ i ∷ j ∷ k ∷ m ∷ s ∷ rest) l mode gon sign below =
    angle_of_cells size a b i j k m s rest mode gon sign below

-- What is known of a word of a reading, from this place on.
pub record AngleAt (line : List ℕ) (p size tens ones : ℕ) : Type 0 where
  pub index : (word_of (take (7 + size) (drop p line))).index ≡ 10 * (tens - 48) + (ones - 48)
  pub angle : angle_of (word_of (take (7 + size) (drop p line)))
      ≡ Ok (decimal_value (take size (drop (p + 7) line)))

pub angle_at : (line : List ℕ) (p size tens ones : ℕ) → p + (7 + size) ≤ length line
    → At line p tens tens → At line (p + 1) ones ones → 48 ≤ tens → 48 ≤ ones
    → is_input_mode (get_or line (p + 4) 0) ≡ true → At line (p + 5) 50 50
    → At line (p + 6) 43 43 → Below size (drop (p + 7) line) → AngleAt line p size tens ones
angle_at line p size tens ones room t o low lower mode unit sign below =
    let x = drop p line in
    let byte = λ (n : ℕ). byte_from line p n (p + n) refl in
    let tens_at = get_or-take (7 + size) x 0 0 (omega arith) ∙ byte_from line p 0 p (omega arith) in
    let ones_at = get_or-take (7 + size) x 1 0 (omega arith) ∙ byte 1 in
    let back : drop 7 x ≡ drop (p + 7) line = drop-drop 7 p line in
    record {
      index = omega (arith, tens_at, ones_at, t, o, low, lower);
      angle = word_angle size x (omega (arith, room, length-drop p line))
          (subst (λ (b : ℕ). is_input_mode b ≡ true) (sym (byte 4)) mode)
          (omega (arith, byte 5, unit)) (omega (arith, byte 6, sign))
          (subst (Below size) (sym back) below)
          ∙ ap (λ (l : List ℕ). Ok (decimal_value (take size l))) back;
    }

-- A word that is an angle: its units are what the eight digits from a place of the line on write.
pub record IsAngleWord (index : ℕ) (w : GsiWord) (line : List ℕ) (at : ℕ) : Type 0 where
  pub of_index : w.index ≡ index
  pub angle : angle_of w ≡ Ok (decimal_value (take 8 (drop at line)))
  pub digits : list_all is_ascii_digit (take 8 (drop at line)) ≡ true

-- The byte at a place, as a digit from another.
pub digit_from : (line : List ℕ) (at k n : ℕ) → n ≡ at + k → At line n 48 57
    → IsDigit (get_or (drop at line) k 0)
digit_from line at k n e d = subst IsDigit (sym (byte_from line at k n e)) d

pub first_digit : (line : List ℕ) (at n : ℕ) → n ≡ at → At line n 48 51
    → IsDigit (get_or (drop at line) 0 0) × (get_or (drop at line) 0 0 ≤ 51)
first_digit line at n e d =
    let same = byte_from line at 0 n (omega (arith, e)) in
    ((omega (arith, same, d), omega (arith, same, d)), omega (arith, same, d))

-- The digits after the plus sign of such a load.
eight_at : (line : List ℕ) (at : ℕ) → at + 8 ≤ length line → At line at 48 51
    → At line (at + 1) 48 57 → At line (at + 2) 48 57 → At line (at + 3) 48 57
    → At line (at + 4) 48 57 → At line (at + 5) 48 57 → At line (at + 6) 48 57
    → At line (at + 7) 48 57 → Below 8 (drop at line)
eight_at line at room a b c d e f g h =
    eight_digits (drop at line) (omega (arith, room, length-drop at line)) (record {
      few = first_digit line at at refl a;
      b = digit_from line at 1 (at + 1) refl b;
      c = digit_from line at 2 (at + 2) refl c;
      d = digit_from line at 3 (at + 3) refl d;
      e = digit_from line at 4 (at + 4) refl e;
      f = digit_from line at 5 (at + 5) refl f;
      g = digit_from line at 6 (at + 6) refl g;
      h = digit_from line at 7 (at + 7) refl h;
    })

-- The direction and the zenith angle of a line of GSI-8.
pub direction_at : (line : List ℕ) → 47 ≤ length line
    → is_direction (load 15 line) ≡ true → is_input_mode (slice_index line 20) ≡ true
    → IsAngleWord 21 (word_of (take 15 (drop 16 line))) line 23
direction_at line long e mode =
    let by = load_at (codes " 21!!.2+00000000") (codes " 21~~32+39999999") line 15 refl refl
    (omega (arith, long)) e in
    let below = eight_at line 23 (omega (arith, long)) (by 8 (omega arith)) (by 9 (omega arith))
    (by 10 (omega arith)) (by 11 (omega arith)) (by 12 (omega arith)) (by 13 (omega arith))
    (by 14 (omega arith)) (by 15 (omega arith)) in
    let at = angle_at line 16 8 50 49 (omega (arith, long)) (by 1 (omega arith))
    (by 2 (omega arith)) (omega arith) (omega arith) mode (by 6 (omega arith)) (by 7 (omega arith))
    below in
    record { of_index = at.index; angle = at.angle; digits = below.all }

pub zenith_at : (line : List ℕ) → 47 ≤ length line
    → is_zenith (load 31 line) ≡ true → is_input_mode (slice_index line 36) ≡ true
    → IsAngleWord 22 (word_of (take 15 (drop 32 line))) line 39
zenith_at line long e mode =
    let by = load_at (codes " 22!!.2+00000000") (codes " 22~~32+39999999") line 31 refl refl
    (omega (arith, long)) e in
    let below = eight_at line 39 (omega (arith, long)) (by 8 (omega arith)) (by 9 (omega arith))
    (by 10 (omega arith)) (by 11 (omega arith)) (by 12 (omega arith)) (by 13 (omega arith))
    (by 14 (omega arith)) (by 15 (omega arith)) in
    let at = angle_at line 32 8 50 50 (omega (arith, long)) (by 1 (omega arith))
    (by 2 (omega arith)) (omega arith) (omega arith) mode (by 6 (omega arith)) (by 7 (omega arith))
    below in
    record { of_index = at.index; angle = at.angle; digits = below.all }

-- The content of an angle of GSI-16.
sixteen_at : (line : List ℕ) (at : ℕ) → at + 16 ≤ length line
    → is_wide_angle (load at line) ≡ true → Sixteen (drop at line)
sixteen_at line at room e =
    let by = load_at (codes "0000000000000000") (codes "0000000039999999") line at refl refl room
    e in
    let zero : (k : ℕ) → At line (at + k) 48 48 → get_or (drop at line) k 0 ≡ 48 = λ k a.
    byte_from line at k (at + k) refl ∙ omega (arith, a) in
    sixteen_digits (drop at line) (omega (arith, room, length-drop at line)) (record {
      a = zero 0 (by 0 (omega arith));
      b = zero 1 (by 1 (omega arith));
      c = zero 2 (by 2 (omega arith));
      d = zero 3 (by 3 (omega arith));
      e = zero 4 (by 4 (omega arith));
      f = zero 5 (by 5 (omega arith));
      g = zero 6 (by 6 (omega arith));
      h = zero 7 (by 7 (omega arith));
    })
    (subst (Below 8) (sym (drop-drop 8 at line)) (eight_at line (at + 8) (omega (arith, room))
    (by 8 (omega arith))
    (moved line (at + 9) (at + 8 + 1) 48 57 (omega arith) (by 9 (omega arith)))
    (moved line (at + 10) (at + 8 + 2) 48 57 (omega arith) (by 10 (omega arith)))
    (moved line (at + 11) (at + 8 + 3) 48 57 (omega arith) (by 11 (omega arith)))
    (moved line (at + 12) (at + 8 + 4) 48 57 (omega arith) (by 12 (omega arith)))
    (moved line (at + 13) (at + 8 + 5) 48 57 (omega arith) (by 13 (omega arith)))
    (moved line (at + 14) (at + 8 + 6) 48 57 (omega arith) (by 14 (omega arith)))
    (moved line (at + 15) (at + 8 + 7) 48 57 (omega arith) (by 15 (omega arith)))))

-- A word of GSI-16 whose content is such is worth what its last eight digits write.
wide_word : (line : List ℕ) (p tens ones units : ℕ) → units ≡ p + 15
    → AngleAt line p 16 tens ones → Sixteen (drop (p + 7) line)
    → IsAngleWord (10 * (tens - 48) + (ones - 48)) (word_of (take 23 (drop p line))) line units
wide_word line p tens ones units e at content =
    let back : drop 8 (drop (p + 7) line) ≡ drop units line = drop-drop 8 (p + 7) line
    ∙ ap (λ (i : ℕ). drop i line) (omega (arith, e)) in
    record {
      of_index = at.index;
      angle = at.angle ∙ ap (λ (n : ℕ). Ok n) (content.value
          ∙ ap (λ (l : List ℕ). decimal_value (take 8 l)) back);
      digits = subst (λ (l : List ℕ). list_all is_ascii_digit (take 8 l) ≡ true) back
          content.last.all;
    }

-- The direction and the zenith angle of a line of GSI-16.
pub wide_direction_at : (line : List ℕ) → 72 ≤ length line
    → is_wide_direction (load 16 line) ≡ true → is_wide_angle (load 32 line) ≡ true
    → is_input_mode (slice_index line 29) ≡ true
    → IsAngleWord 21 (word_of (take 23 (drop 25 line))) line 40
wide_direction_at line long e content mode =
    let by = load_at (codes "         21!!.2+") (codes "~~~~~~~~ 21~~32+") line 16 refl refl
    (omega (arith, long)) e in
    let sixteen = sixteen_at line 32 (omega (arith, long)) content in
    wide_word line 25 50 49 40 refl
    (angle_at line 25 16 50 49 (omega (arith, long)) (by 9 (omega arith)) (by 10 (omega arith))
    (omega arith) (omega arith) mode (by 14 (omega arith)) (by 15 (omega arith)) sixteen.below)
    sixteen

pub wide_zenith_at : (line : List ℕ) → 72 ≤ length line
    → is_wide_zenith (load 48 line) ≡ true → is_wide_angle (load 56 line) ≡ true
    → is_input_mode (slice_index line 53) ≡ true
    → IsAngleWord 22 (word_of (take 23 (drop 49 line))) line 64
wide_zenith_at line long e content mode =
    let by = load_at (codes " 22!!.2+00000000") (codes " 22~~32+00000000") line 48 refl refl
    (omega (arith, long)) e in
    let sixteen = sixteen_at line 56 (omega (arith, long)) content in
    wide_word line 49 50 50 64 refl
    (angle_at line 49 16 50 50 (omega (arith, long)) (by 1 (omega arith)) (by 2 (omega arith))
    (omega arith) (omega arith) mode (by 6 (omega arith)) (by 7 (omega arith)) sixteen.below)
    sixteen
