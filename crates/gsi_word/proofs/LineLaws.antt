-- A line is one block at most or has one fault at most, and never both.
use Rattle.std.proofs.Common.{◌≡◌, ◌≢◌, ℕ, zero, suc, ◌+◌, ◌-◌, ◌/◌, ◌<◌, Bool, true, false, List}
use Rattle.std.proofs.Common.{[], ◌∷◌, ◌++◌, length, get_or, take, drop, map, replicate, All, Any}
use Rattle.std.proofs.Common.{◌⊎◌, inl, inr, refl, sym, ap, subst, ◌∙◌, append_assoc, arith}
use Rattle.std.specs.Prelude.{if◌then◌else◌, nat_eq, codes}
use Rattle.std.proofs.lemmas.Bool.{eqb-true, and_parts}
use Rattle.std.specs.List.{flat_map, join_with_byte, starts_with}
use Rattle.std.proofs.lemmas.List.{drop-replicate, drop_more, get_or_default, get_or_at}
use Rattle.std.proofs.lemmas.List.{get_or-take, length-append, length-take, take-append-drop}
use Rattle.std.proofs.lemmas.List.Elements.{All-head, All-tail, All-append, All-cons}
use Rattle.std.proofs.lemmas.List.Elements.{All-from_get_or, All-replicate}
use Rattle.gsi_word.specs.Words.{GsiWord, IsLineByte, IsWord, spelled}
use Rattle.gsi_word.specs.Blocks.{GsiBlock, width_of, word_bytes, AreWords, IsBlock, BeginsBlock}
use Rattle.gsi_word.specs.LineFaults.{EndsWord, BeginsWord, followed, IsByteFault, IsWordFault}
use Rattle.gsi_word.specs.LineFaults.{IsLineFault}
use Rattle.gsi_word.specs.declared.line_fault.LineFault.{LineFault}
use Rattle.gsi_word.specs.declared.line_fault.LineFault.TheVariants.{Byte, Word, FirstWord}
use Rattle.gsi_word.proofs.WordLaws.{one_word, spelled_printable}

-- A byte that may not stand in a line, after bytes that all may, is the fault of the line.
pub byte_fault : (line : List ℕ) (place : ℕ) → place < length line
    → ((k : ℕ) → k < place → IsLineByte (get_or line k 0)) → ¬ IsLineByte (get_or line place 0)
    → IsByteFault line (place + 1)
byte_fault line place lt before wrong =
    record {
      front = take place line;
      byte = get_or line place 0;
      rest = drop (place + 1) line;
      text = sym (take-append-drop place line)
          ∙ ap (λ (r : List ℕ). take place line ++ r) (drop_more line place 0 lt);
      place = omega (arith, length-take place line, lt);
      before = All-from_get_or IsLineByte (take place line) 0 (λ k h. let below : k < place =
          omega (arith, length-take place line, h) in
          rw (get_or-take place line k 0 below) (before k below));
      fault = wrong;
    }

-- What follows the first word.
abbrev after : List GsiWord → List ℕ → List ℕ
after [] tail = tail
after (v ∷ vs) tail = 32 ∷ (join_with_byte 32 (map spelled (v ∷ vs)) ++ tail)

first_word : (w : GsiWord) (ws : List GsiWord) (tail : List ℕ)
    → join_with_byte 32 (map spelled (w ∷ ws)) ++ tail ≡ spelled w ++ after ws tail
first_word w [] tail = refl
first_word w (v ∷ vs) tail = append_assoc (spelled w)
    (32 ∷ join_with_byte 32 (map spelled (v ∷ vs))) tail

blank_at : (m i : ℕ) → ◌≡◌ {A = ℕ} (get_or (replicate m 32) i 32) 32
blank_at zero i = refl
blank_at (suc m) zero = refl
blank_at (suc m) (suc i) = blank_at m i

-- A word doesn't begin with a blank.
no_digit : (m a : ℕ) (xs : List ℕ) → ◌≡◌ {A = List ℕ} (replicate m 32) (32 ∷ (48 + a) ∷ xs) → ⊥
no_digit m a xs e =
    let d : 32 ≡ 48 + a = sym (blank_at m 1) ∙ ap (λ (r : List ℕ). get_or r 1 32) e in
    absurd (omega arith)

no_blanks : (m : ℕ) (v : GsiWord) (vs : List GsiWord) (tail : List ℕ)
    → replicate m 32 ≡ 32 ∷ (join_with_byte 32 (map spelled (v ∷ vs)) ++ tail) → ⊥
no_blanks m v vs tail e = no_digit m (v.index / 10) _ (e
    ∙ ap (λ (r : List ℕ). 32 ∷ r) (first_word v vs tail))

one_list : (width : ℕ) (ws vs : List GsiWord) (m n : ℕ) → All (IsWord width) ws
    → All (IsWord width) vs → 0 < length ws → 0 < length vs
    → join_with_byte 32 (map spelled ws) ++ replicate m 32 ≡ join_with_byte 32 (map spelled vs)
    ++ replicate n 32 → ws ≡ vs
one_list width [] vs m n a b p q e = absurd (omega arith)
one_list width (w ∷ ws) [] m n a b p q e = absurd (omega arith)
one_list width (w ∷ []) (v ∷ []) m n a b p q e =
    let o = one_word width w v _ _ (All-head (IsWord width) w [] a) (All-head (IsWord width) v [] b)
    e in
    ap (λ (u : GsiWord). u ∷ []) o.0
one_list width (w ∷ []) (v ∷ v2 ∷ vs) m n a b p q e =
    let o = one_word width w v (replicate m 32) (after (v2 ∷ vs) (replicate n 32))
    (All-head (IsWord width) w [] a) (All-head (IsWord width) v (v2 ∷ vs) b) (e
    ∙ first_word v (v2 ∷ vs) (replicate n 32)) in
    absurd (no_blanks m v2 vs (replicate n 32) o.1)
one_list width (w ∷ w2 ∷ ws) (v ∷ []) m n a b p q e =
    let o = one_word width v w (replicate n 32) (after (w2 ∷ ws) (replicate m 32))
    (All-head (IsWord width) v [] b) (All-head (IsWord width) w (w2 ∷ ws) a) (sym e
    ∙ first_word w (w2 ∷ ws) (replicate m 32)) in
    absurd (no_blanks n w2 ws (replicate m 32) o.1)
one_list width (w ∷ w2 ∷ ws) (v ∷ v2 ∷ vs) m n a b p q e =
    let o = one_word width w v (after (w2 ∷ ws) (replicate m 32)) (after (v2 ∷ vs) (replicate n 32))
    (All-head (IsWord width) w (w2 ∷ ws) a) (All-head (IsWord width) v (v2 ∷ vs) b)
    (sym (first_word w (w2 ∷ ws) (replicate m 32)) ∙ e
    ∙ first_word v (v2 ∷ vs) (replicate n 32)) in
    let t = one_list width (w2 ∷ ws) (v2 ∷ vs) m n (All-tail (IsWord width) w (w2 ∷ ws) a)
    (All-tail (IsWord width) v (v2 ∷ vs) b) (omega arith) (omega arith)
    (ap (λ (r : List ℕ). drop 1 r) o.1) in
    ap (λ (u : GsiWord). u ∷ w2 ∷ ws) o.0 ∙ ap (λ (us : List GsiWord). v ∷ us) t

-- Bytes are one list of words at most.
same_words : (width : ℕ) (bytes : List ℕ) (ws vs : List GsiWord) → AreWords width bytes ws
    → AreWords width bytes vs → ws ≡ vs
same_words width bytes ws vs a b = one_list width ws vs a.blanks b.blanks a.each b.each a.some_word
    b.some_word (sym a.text ∙ b.text)

same_parts : (n n' : ℕ) (words words' : List GsiWord) → n ≡ n' → words ≡ words'
    → ((let b : GsiBlock = record { width = n; words = words } in b)
    ≡ (record { width = n'; words = words' }))
same_parts n n' words words' a b = rw (a, b) refl

-- A line is one block at most.
pub same_block : (line : List ℕ) (a b : GsiBlock) → IsBlock line a → IsBlock line b → a ≡ b
same_block line a b p q = same_parts a.width b.width a.words b.words (p.width ∙ sym q.width)
    (same_words (width_of line) (word_bytes line) a.words b.words p.words q.words)

ends_after : (ws : List GsiWord) (m : ℕ) → EndsWord (after ws (replicate m 32))
ends_after [] zero = tt
ends_after [] (suc m) = refl
ends_after (v ∷ vs) m = refl

no_ink : (m : ℕ) (rest : List ℕ) → ◌≡◌ {A = List ℕ} (32 ∷ rest) (replicate m 32)
    → Any (λ b. b ≢ 32) rest → ⊥
no_ink m rest e ink =
    let blanks : rest ≡ replicate (m - 1) 32 = ap (λ (r : List ℕ). drop 1 r) e
    ∙ drop-replicate 1 m 32 in
    let at : get_or rest ink.0 32 ≡ 32 = ap (λ (r : List ℕ). get_or r ink.0 32) blanks
    ∙ blank_at (m - 1) ink.0 in
    ink.4 (sym ink.3 ∙ get_or_default rest ink.0 ink.1 32 ink.2 ∙ at)

-- A word with its blank, and the rest.
first_followed : (f : GsiWord) (fs : List GsiWord) (rest : List ℕ)
    → flat_map followed (f ∷ fs) ++ rest ≡ spelled f ++ 32 ∷ (flat_map followed fs ++ rest)
first_followed f fs rest = append_assoc (followed f) (flat_map followed fs) rest
    ∙ append_assoc (spelled f) (32 ∷ []) (flat_map followed fs ++ rest)

-- Two ways to go on after a word.
same_after : (width : ℕ) (f w : GsiWord) (fs ws : List GsiWord) (rest tail : List ℕ)
    → IsWord width f → IsWord width w → flat_map followed (f ∷ fs) ++ rest
    ≡ join_with_byte 32 (map spelled (w ∷ ws)) ++ tail
    → 32 ∷ (flat_map followed fs ++ rest) ≡ after ws tail
same_after width f w fs ws rest tail a b e =
    let o = one_word width f w (32 ∷ (flat_map followed fs ++ rest)) (after ws tail) a b
    (sym (first_followed f fs rest) ∙ e ∙ first_word w ws tail) in
    o.1

fault_excludes : (width : ℕ) (front : List GsiWord) (rest : List ℕ) (ws : List GsiWord) (m : ℕ)
    → All (IsWord width) front → All (IsWord width) ws → 0 < length ws → ¬ BeginsWord width rest
    → (front ≡ []) ⊎ Any (λ b. b ≢ 32) rest
    → flat_map followed front ++ rest ≡ join_with_byte 32 (map spelled ws) ++ replicate m 32 → ⊥
fault_excludes width front rest [] m a b p none ink e = absurd (omega arith)
fault_excludes width [] rest (w ∷ ws) m a b p none ink e =
    none (record {
      word = w;
      rest = after ws (replicate m 32);
      is_word = All-head (IsWord width) w ws b;
      ends = ends_after ws m;
      text = e ∙ first_word w ws (replicate m 32);
    })
fault_excludes width (f ∷ []) rest (w ∷ []) m a b p none ink e =
    let t = same_after width f w [] [] rest (replicate m 32) (All-head (IsWord width) f [] a)
    (All-head (IsWord width) w [] b) e in
    elim ink [ inl z ↦ absurd cc | inr i ↦ no_ink m rest t i ]
fault_excludes width (f ∷ g ∷ gs) rest (w ∷ []) m a b p none ink e =
    let t = same_after width f w (g ∷ gs) [] rest (replicate m 32)
    (All-head (IsWord width) f (g ∷ gs) a) (All-head (IsWord width) w [] b) e in
    no_digit m (g.index / 10) _ (sym t ∙ ap (λ (r : List ℕ). 32 ∷ r) (first_followed g gs rest))
fault_excludes width (f ∷ fs) rest (w ∷ v ∷ vs) m a b p none ink e =
    let t = same_after width f w fs (v ∷ vs) rest (replicate m 32) (All-head (IsWord width) f fs a)
    (All-head (IsWord width) w (v ∷ vs) b) e in
    fault_excludes width fs rest (v ∷ vs) m (All-tail (IsWord width) f fs a)
    (All-tail (IsWord width) w (v ∷ vs) b) (omega arith) none
    (elim ink [ inl z ↦ absurd cc | inr i ↦ inr i ]) (ap (λ (r : List ℕ). drop 1 r) t)

-- Bytes with a faulty word are no words.
word_fault_excludes : (width : ℕ) (bytes : List ℕ) (nth : ℕ) (ws : List GsiWord)
    → IsWordFault width bytes nth → AreWords width bytes ws → ⊥
word_fault_excludes width bytes nth ws f h = fault_excludes width f.words f.rest ws h.blanks f.each
    h.each h.some_word f.fault f.goes_on (sym f.text ∙ h.text)

words_printable : (width : ℕ) (ws : List GsiWord) (tail : List ℕ) → All (IsWord width) ws
    → All IsLineByte tail → All IsLineByte (join_with_byte 32 (map spelled ws) ++ tail)
words_printable width [] tail h t = t
words_printable width (w ∷ []) tail h t = All-append IsLineByte (spelled w) tail
    (spelled_printable width w (All-head (IsWord width) w [] h)) t
words_printable width (w ∷ v ∷ ws) tail h t =
    subst (λ (r : List ℕ). All IsLineByte r) (sym (first_word w (v ∷ ws) tail))
    (All-append IsLineByte (spelled w) _ (spelled_printable width w
    (All-head (IsWord width) w (v ∷ ws) h))
    (All-cons IsLineByte 32 _ (omega arith, omega arith)
    (words_printable width (v ∷ ws) tail (All-tail (IsWord width) w (v ∷ ws) h) t)))

are_words_printable : (width : ℕ) (bytes : List ℕ) (ws : List GsiWord) → AreWords width bytes ws
    → All IsLineByte bytes
are_words_printable width bytes ws h =
    subst (λ (r : List ℕ). All IsLineByte r) (sym h.text)
    (words_printable width ws (replicate h.blanks 32) h.each
    (All-replicate IsLineByte h.blanks 32 (omega arith, omega arith)))

star_printable : (b : ℕ) (bs : List ℕ) (t : Bool) → starts_with nat_eq (b ∷ bs) (codes "*") ≡ t
    → All IsLineByte (if t then bs else b ∷ bs) → All IsLineByte (b ∷ bs)
star_printable b bs true e h = let star : 42 ≡ b = eqb-true _ _ (and_parts _ _ e).0 in
    All-cons IsLineByte b bs (omega arith, omega arith) h
star_printable b bs false e h = h

-- The `*` is printable, so that the line is where its words are.
line_printable : (line : List ℕ) → All IsLineByte (word_bytes line) → All IsLineByte line
line_printable [] h = h
line_printable (b ∷ bs) h = star_printable b bs (starts_with nat_eq (b ∷ bs) (codes "*")) refl h

words_line_printable : (line : List ℕ) (ws : List GsiWord)
    → AreWords (width_of line) (word_bytes line) ws → All IsLineByte line
words_line_printable line ws h = line_printable line
    (are_words_printable (width_of line) (word_bytes line) ws h)

byte_fault_excludes : (line : List ℕ) (at : ℕ) → IsByteFault line at → All IsLineByte line → ⊥
byte_fault_excludes line at f h =
    f.fault (subst (λ (b : ℕ). IsLineByte b)
    (get_or_at f.front f.byte f.rest 0 (length f.front) refl)
    (subst (λ (r : List ℕ). All IsLineByte r) f.text h (length f.front) 0
    (omega (arith, length-append f.front (f.byte ∷ f.rest)))))

-- A block has no fault.
pub no_fault : (line : List ℕ) (block : GsiBlock) (fault : LineFault) → IsBlock line block
    → ¬ IsLineFault line fault
no_fault line block (Byte at) b f = byte_fault_excludes line at f
    (words_line_printable line block.words b.words)
no_fault line block (Word nth) b f = word_fault_excludes (width_of line) (word_bytes line) nth
    block.words f.1 b.words
no_fault line block FirstWord b f = f.fault (subst (λ (us : List GsiWord). BeginsBlock us)
    (same_words (width_of line) (word_bytes line) block.words f.words b.words f.are_words) b.first)

same_front : (f g : List ℕ) (b c : ℕ) (r s : List ℕ) → All IsLineByte f → All IsLineByte g
    → ¬ IsLineByte b → ¬ IsLineByte c → f ++ b ∷ r ≡ g ++ c ∷ s → length f ≡ length g
same_front [] [] b c r s p q x y e = refl
same_front [] (d ∷ g) b c r s p q x y e = absurd
    (x (subst (λ (n : ℕ). IsLineByte n) (sym (ap (λ (l : List ℕ). get_or l 0 0) e))
    (All-head IsLineByte d g q)))
same_front (a ∷ f) [] b c r s p q x y e = absurd
    (y (subst (λ (n : ℕ). IsLineByte n) (ap (λ (l : List ℕ). get_or l 0 0) e)
    (All-head IsLineByte a f p)))
same_front (a ∷ f) (d ∷ g) b c r s p q x y e =
    ap suc (same_front f g b c r s (All-tail IsLineByte a f p) (All-tail IsLineByte d g q) x y
    (ap (λ (l : List ℕ). drop 1 l) e))

same_byte : (line : List ℕ) (a b : ℕ) → IsByteFault line a → IsByteFault line b → a ≡ b
same_byte line a b f g = omega (
  arith,
  f.place,
  g.place,
  same_front f.front g.front f.byte g.byte f.rest g.rest f.before g.before f.fault g.fault
      (sym f.text ∙ g.text),
)

-- Bytes that begin with a word and a blank.
begins_followed : (width : ℕ) (w : GsiWord) (ws : List GsiWord) (rest tail : List ℕ)
    → IsWord width w → rest ≡ flat_map followed (w ∷ ws) ++ tail → BeginsWord width rest
begins_followed width w ws rest tail h e = record {
  word = w;
  rest = 32 ∷ (flat_map followed ws ++ tail);
  is_word = h;
  ends = refl;
  text = e ∙ first_followed w ws tail;
}

same_count : (width : ℕ) (ws vs : List GsiWord) (rest tail : List ℕ) → All (IsWord width) ws
    → All (IsWord width) vs → ¬ BeginsWord width rest → ¬ BeginsWord width tail
    → flat_map followed ws ++ rest ≡ flat_map followed vs ++ tail → length ws ≡ length vs
same_count width [] [] rest tail a b x y e = refl
same_count width [] (v ∷ vs) rest tail a b x y e =
    absurd (x (begins_followed width v vs rest tail (All-head (IsWord width) v vs b) e))
same_count width (w ∷ ws) [] rest tail a b x y e =
    absurd (y (begins_followed width w ws tail rest (All-head (IsWord width) w ws a) (sym e)))
same_count width (w ∷ ws) (v ∷ vs) rest tail a b x y e =
    let o = one_word width w v (32 ∷ (flat_map followed ws ++ rest))
    (32 ∷ (flat_map followed vs ++ tail)) (All-head (IsWord width) w ws a)
    (All-head (IsWord width) v vs b) (sym (first_followed w ws rest) ∙ e
    ∙ first_followed v vs tail) in
    ap suc (same_count width ws vs rest tail (All-tail (IsWord width) w ws a)
    (All-tail (IsWord width) v vs b) x y (ap (λ (r : List ℕ). drop 1 r) o.1))

same_nth : (width : ℕ) (bytes : List ℕ) (a b : ℕ) → IsWordFault width bytes a
    → IsWordFault width bytes b → a ≡ b
same_nth width bytes a b f g = omega (
  arith,
  f.place,
  g.place,
  same_count width f.words g.words f.rest g.rest f.each g.each f.fault g.fault (sym f.text
      ∙ g.text),
)

-- A line has one fault at most.
pub same_fault : (line : List ℕ) (a b : LineFault) → IsLineFault line a → IsLineFault line b → a ≡ b
same_fault line (Byte m) (Byte n) f g = ap Byte (same_byte line m n f g)
same_fault line (Byte m) (Word n) f g = absurd (byte_fault_excludes line m f g.0)
same_fault line (Byte m) FirstWord f g = absurd
    (byte_fault_excludes line m f (words_line_printable line g.words g.are_words))
same_fault line (Word m) (Byte n) f g = absurd (byte_fault_excludes line n g f.0)
same_fault line (Word m) (Word n) f g = ap Word
    (same_nth (width_of line) (word_bytes line) m n f.1 g.1)
same_fault line (Word m) FirstWord f g = absurd
    (word_fault_excludes (width_of line) (word_bytes line) m g.words f.1 g.are_words)
same_fault line FirstWord (Byte n) f g = absurd
    (byte_fault_excludes line n g (words_line_printable line f.words f.are_words))
same_fault line FirstWord (Word n) f g = absurd
    (word_fault_excludes (width_of line) (word_bytes line) n f.words g.1 f.are_words)
same_fault line FirstWord FirstWord f g = refl
