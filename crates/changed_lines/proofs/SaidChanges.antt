-- What a text says of a line, and where its parts stand.
use Rattle.std.proofs.Common.{◌≡◌, ℕ, zero, suc, ◌+◌, ◌-◌, ◌<◌, ◌≤◌, true, false, List, [], ◌∷◌}
use Rattle.std.proofs.Common.{◌++◌, length}
use Rattle.std.proofs.Common.{take, drop, get_or, refl, sym, ap, subst, ◌∙◌, inl, inr, arith}
use Rattle.std.proofs.Common.{Option}
use Rattle.std.proofs.Common.{Some, None, eqb-true, append_assoc, add-one, drop-cons}
use Rattle.std.specs.Prelude.{◌==◌, Bool, cond, nat_lt}
use Rattle.std.specs.Char.{is_ascii_digit}
use Rattle.std.specs.List.{position, position_or_len, list_all, slice_split, AllZip}
use Rattle.std.proofs.Math.Seq.{take-append_seam, drop-append-add}
use Rattle.std.proofs.lemmas.Bool.{cases_Bool, cases_lt, lt-ltb, and_parts, false≢true}
use Rattle.std.proofs.lemmas.List.{take-append-drop, length-append, length-drop, take_all}
use Rattle.std.proofs.lemmas.List.{length-take, get_or-take}
use Rattle.std.proofs.lemmas.List.Elements.{All-from_get_or}
use Rattle.std.proofs.lemmas.List.Splits.{slice_split_at, slice_split_none}
use Rattle.std.proofs.lemmas.List.Sums.{fails_before_first}
use Rattle.std.proofs.lemmas.List.Quantifiers.{position-Some}
use Rattle.adjust_kernel.specs.Names.{IsName}
use Rattle.changed_lines.specs.declared.change.Change.{Change}
use Rattle.changed_lines.specs.declared.change.Edit.{Edit}
use Rattle.changed_lines.specs.declared.change.Edit.TheVariants.{Out, Rename}
use Rattle.changed_lines.specs.Sayings.{SaysLine, SaysEdit, SaysChange, SayChanges, AddsChange}

-- Bytes that say a number are digits.
are_digits : (digits : List ℕ) (line : ℕ) → SaysLine digits line
    → list_all is_ascii_digit digits ≡ true
are_digits digits line says = elim (cases_Bool (list_all is_ascii_digit digits)) [
  | inl h ↦ h
  | inr h ↦ let e : None ≡ Some line = rw h at says.number in absurd (cc)
]

-- So none of them is another byte.
no_other : (digits : List ℕ) (k : ℕ) → list_all is_ascii_digit digits ≡ true → k < length digits
    → (get_or digits k 0 == 61) ≡ true → ⊥
no_other [] k all lt e = omega arith
no_other (b ∷ digits) zero all lt e =
    let digit = (and_parts (is_ascii_digit b) (list_all is_ascii_digit digits) all).0 in
    let f : is_ascii_digit 61 ≡ true = subst (λ (x : ℕ). is_ascii_digit x ≡ true)
    (eqb-true b 61 e) digit in
    let g : false ≡ true = f in absurd (cc)
no_other (b ∷ digits) (suc k) all lt e =
    no_other digits k (and_parts (is_ascii_digit b) (list_all is_ascii_digit digits) all).1
    (omega arith) e

within : (digits name : List ℕ) (k : ℕ) → k < length digits
    → get_or (digits ++ 61 ∷ name) k 0 ≡ get_or digits k 0
within [] name k lt = absurd (omega arith)
within (b ∷ digits) name zero lt = refl
within (b ∷ digits) name (suc k) lt = within digits name k (omega arith)

at_seam : (digits name : List ℕ) → get_or (digits ++ 61 ∷ name) (length digits) 0 ≡ 61
at_seam [] name = refl
at_seam (b ∷ digits) name = at_seam digits name

-- The first `=` stands after the digits.
after_digits : (text digits name : List ℕ) (at : ℕ) → text ≡ digits ++ 61 ∷ name
    → list_all is_ascii_digit digits ≡ true → position (λ b. b == 61) text ≡ Some at
    → at ≡ length digits
after_digits text digits name at are all found =
    let place = position-Some (λ b. b == 61) text at 0 found in
    elim (cases_lt at (length digits)) [
      | inl lt ↦ absurd (no_other digits at all lt
          (ap (λ (b : ℕ). b == 61) (sym (ap (λ (bs : List ℕ). get_or bs at 0) are
          ∙ within digits name at lt)) ∙ place.1))
      | inr le ↦ elim (cases_lt (length digits) at) [
        | inl lt ↦ absurd (false≢true (sym (place.2 (length digits) lt)
            ∙ ap (λ (b : ℕ). b == 61) (ap (λ (bs : List ℕ). get_or bs (length digits) 0) are
            ∙ at_seam digits name)))
        | inr ge ↦ omega (arith, le, ge)
      ]
    ]

-- The parts of a text that names a line and a point.
record Parts (text digits name : List ℕ) (at : ℕ) : Type 0 where
  of_digits : take at text ≡ digits
  of_name : drop (at + 1) text ≡ name

parts : (text digits name : List ℕ) (at : ℕ) → text ≡ digits ++ 61 ∷ name
    → list_all is_ascii_digit digits ≡ true → position (λ b. b == 61) text ≡ Some at
    → Parts text digits name at
parts text digits name at are all found =
    let place = after_digits text digits name at are all found in
    subst (λ (k : ℕ). Parts text digits name k) (sym place)
    (subst (λ (bs : List ℕ). Parts bs digits name (length digits)) (sym are) (record {
      of_digits = take-append_seam digits (61 ∷ name);
      of_name = drop-append-add digits (61 ∷ name) 1;
    }))

abbrev is_equals : ℕ → Bool
is_equals b = b == 61

missed : (p : ℕ → Bool) (bytes : List ℕ) (place : ℕ)
    → cond (nat_lt place (length bytes)) (Some place) None ≡ None → length bytes ≤ place
missed p bytes place none = elim (cases_lt place (length bytes)) [
  | inl lt ↦
      let e : Some place ≡ None = sym (ap (λ b. cond b (Some place) None)
      (lt-ltb place (length bytes) lt)) ∙ none in absurd (cc)
  | inr le ↦ le
]

-- Where there is no first of such bytes, none is one.
none_is : (p : ℕ → Bool) (bytes : List ℕ) → position p bytes ≡ None → (k : ℕ) → k < length bytes
    → p (get_or bytes k 0) ≡ false
none_is p bytes none k lt = fails_before_first p bytes k 0
    (let le = missed p bytes (position_or_len p bytes) none in omega (arith, le, lt))

-- A text without a `=` names no point.
pub unnamed : (text : List ℕ) → position (λ b. b == 61) text ≡ None
    → ((line : ℕ) → ¬ SaysLine text line) → (c : Change) → ¬ SaysChange text c
unnamed text none no_line c says = by c.edit says where
  by : (e : Edit) → SaysEdit text c.line e → ⊥
  by Out says = no_line c.line says
  by (Rename name) says =
      let e : is_equals (get_or text (length says.0) 0) ≡ false =
      none_is is_equals text none (length says.0)
      (omega (arith, ap (λ (bs : List ℕ). length bs) says.1, length-append says.0 (61 ∷ name))) in
      let f : get_or text (length says.0) 0 ≡ 61 =
      ap (λ (bs : List ℕ). get_or bs (length says.0) 0) says.1 ∙ at_seam says.0 name in
      let g : true ≡ false = sym (ap is_equals f) ∙ e in absurd (cc)

-- One with a `=` takes out no line.
no_out : (text : List ℕ) (at line : ℕ) → position (λ b. b == 61) text ≡ Some at
    → SaysEdit text line Out → ⊥
no_out text at line found says =
    let place = position-Some (λ b. b == 61) text at 0 found in
    no_other text at (are_digits text line says) place.0 place.1

-- One whose first `=` stands after no number says nothing.
pub unnumbered : (text : List ℕ) (at : ℕ) → position (λ b. b == 61) text ≡ Some at
    → ((line : ℕ) → ¬ SaysLine (take at text) line) → (c : Change) → ¬ SaysChange text c
unnumbered text at found no_line c says = by c.edit says where
  by : (e : Edit) → SaysEdit text c.line e → ⊥
  by Out says = no_out text at c.line found says
  by (Rename name) says =
      let p = parts text says.0 name at says.1 (are_digits says.0 c.line says.2) found in
      no_line c.line (subst (λ (bs : List ℕ). SaysLine bs c.line) (sym p.of_digits) says.2)

-- Nor one with no name after it.
pub nameless : (text : List ℕ) (at : ℕ) → position (λ b. b == 61) text ≡ Some at
    → ¬ IsName (drop (at + 1) text) → (c : Change) → ¬ SaysChange text c
nameless text at found no_name c says = by c.edit says where
  by : (e : Edit) → SaysEdit text c.line e → ⊥
  by Out says = no_out text at c.line found says
  by (Rename name) says =
      let p = parts text says.0 name at says.1 (are_digits says.0 c.line says.2) found in
      no_name (subst IsName (sym p.of_name) says.3)

-- Digits alone name no point.
pub not_both : (text : List ℕ) (line other : ℕ) (name : List ℕ) → SaysEdit text line Out
    → SaysEdit text other (Rename name) → ⊥
not_both text line other name out says =
    no_other text (length says.0) (are_digits text line out)
    (omega (arith, ap (λ (bs : List ℕ). length bs) says.1, length-append says.0 (61 ∷ name)))
    (ap (λ (b : ℕ). b == 61) (ap (λ (bs : List ℕ). get_or bs (length says.0) 0) says.1
    ∙ at_seam says.0 name))

-- A text around its first byte of a kind.
pub around : (byte : ℕ) (text : List ℕ) (at : ℕ) → position (λ b. b == byte) text ≡ Some at
    → text ≡ take at text ++ byte ∷ drop (at + 1) text
around byte text at found =
    let place = position-Some (λ b. b == byte) text at 0 found in
    sym (take-append-drop at text) ∙ ap (λ bs. take at text ++ bs)
    (drop-cons text at 0 place.0 ∙ ap (λ (b : ℕ). b ∷ drop (suc at) text)
    (eqb-true (get_or text at 0) byte place.1) ∙ ap (λ (k : ℕ). byte ∷ drop k text)
    (sym (add-one at)))

-- All that is left after some bytes.
pub take_rest : (n : ℕ) (text : List ℕ) → take (length text - n) (drop n text) ≡ drop n text
take_rest n text = take_all (length text - n) (drop n text) (omega (arith, length-drop n text))

-- The pieces between line feeds.
abbrev pub pieces : List ℕ → List (List ℕ)
pieces text = slice_split (λ x. x == 10) text

first_piece : (text : List ℕ) (at : ℕ) → position (λ b. b == 10) text ≡ Some at
    → pieces text ≡ take at text ∷ pieces (drop (at + 1) text)
first_piece text at found =
    let place = position-Some (λ b. b == 10) text at 0 found in
    ap pieces (around 10 text at found)
    ∙ slice_split_at (λ b. b == 10) (take at text) 10 (drop (at + 1) text)
    (All-from_get_or (λ b. (b == 10) ≡ false) (take at text) 0
    (λ k lt. let low : k < at = omega (arith, length-take at text, lt) in
    ap (λ (b : ℕ). b == 10) (get_or-take at text k 0 low) ∙ place.2 k low)) refl

last_piece : (text : List ℕ) → position (λ b. b == 10) text ≡ None → pieces text ≡ text ∷ []
last_piece text none = slice_split_none (λ b. b == 10) text
    (All-from_get_or (λ b. (b == 10) ≡ false) text 0
    (λ k lt. none_is (λ b. b == 10) text none k lt))

-- How far a text is read: what these changes and the rest say, the text says, and where the text
-- says something, the rest does.
pub record Reads (text : List ℕ) (cs : List Change) (rest : List ℕ) : Type 0 where
  pub says : (later : List Change) → AllZip SaysChange (pieces rest) later
      → AllZip SaysChange (pieces text) (cs ++ later)
  pub only : (all : List Change) → AllZip SaysChange (pieces text) all
      → (later : List Change) × AllZip SaysChange (pieces rest) later

pub starts : (text : List ℕ) → Reads text [] text
starts text = record { says = λ later h. h; only = λ all h. (all, h) }

further : (piece : List ℕ) (more : List (List ℕ)) (all : List Change)
    → AllZip SaysChange (piece ∷ more) all
    → (c : Change) × (later : List Change) × SaysChange piece c × AllZip SaysChange more later
further piece more [] h = absurd h
further piece more (c ∷ later) h = (c, later, h.0, h.1)

-- One piece more.
pub reads_on : (text : List ℕ) (cs cs' : List Change) (rest : List ℕ) (at : ℕ)
    → Reads text cs rest → position (λ b. b == 10) rest ≡ Some at
    → AddsChange cs (take at rest) cs' → Reads text cs' (drop (at + 1) rest)
reads_on text cs cs' rest at reads found adds = record {
  says = λ later h. subst (λ (xs : List Change). AllZip SaysChange (pieces text) xs)
      (sym (ap (λ xs. xs ++ later) adds.added ∙ append_assoc cs (adds.change ∷ []) later))
      (reads.says (adds.change ∷ later)
      (subst (λ (ps : List (List ℕ)). AllZip SaysChange ps (adds.change ∷ later))
      (sym (first_piece rest at found)) (adds.says, h)));
  only = λ all h.
      let l = reads.only all h in
      let f = further (take at rest) (pieces (drop (at + 1) rest)) l.0
      (subst (λ (ps : List (List ℕ)). AllZip SaysChange ps l.0) (first_piece rest at found) l.1) in
      (f.1, f.3);
}

say_of : (text : List ℕ) (cs : List Change) → 0 < length text
    → AllZip SaysChange (pieces text) cs → SayChanges text cs
say_of [] cs some h = absurd (omega arith)
say_of (b ∷ text) cs some h = h

of_say : (text : List ℕ) (cs : List Change) → 0 < length text → SayChanges text cs
    → AllZip SaysChange (pieces text) cs
of_say [] cs some h = absurd (omega arith)
of_say (b ∷ text) cs some h = h

-- The last piece.
pub reads_last : (text : List ℕ) (cs cs' : List Change) (rest : List ℕ) → 0 < length text
    → Reads text cs rest → position (λ b. b == 10) rest ≡ None → AddsChange cs rest cs'
    → SayChanges text cs'
reads_last text cs cs' rest some reads none adds = say_of text cs' some
    (subst (λ (xs : List Change). AllZip SaysChange (pieces text) xs) (sym adds.added)
    (reads.says (adds.change ∷ [])
    (subst (λ (ps : List (List ℕ)). AllZip SaysChange ps (adds.change ∷ []))
    (sym (last_piece rest none)) (adds.says, tt))))

-- A piece that says nothing.
pub says_nothing : (text : List ℕ) (cs : List Change) (rest : List ℕ) (at : ℕ) → 0 < length text
    → Reads text cs rest → position (λ b. b == 10) rest ≡ Some at
    → ((c : Change) → ¬ SaysChange (take at rest) c) → (all : List Change)
    → ¬ SayChanges text all
says_nothing text cs rest at some reads found none all say =
    let l = reads.only all (of_say text all some say) in
    let f = further (take at rest) (pieces (drop (at + 1) rest)) l.0
    (subst (λ (ps : List (List ℕ)). AllZip SaysChange ps l.0) (first_piece rest at found) l.1) in
    none f.0 f.2

-- Or a last one.
pub last_says_nothing : (text : List ℕ) (cs : List Change) (rest : List ℕ) → 0 < length text
    → Reads text cs rest → position (λ b. b == 10) rest ≡ None
    → ((c : Change) → ¬ SaysChange rest c) → (all : List Change) → ¬ SayChanges text all
last_says_nothing text cs rest some reads found none all say =
    let l = reads.only all (of_say text all some say) in
    let f = further rest [] l.0
    (subst (λ (ps : List (List ℕ)). AllZip SaysChange ps l.0) (last_piece rest found) l.1) in
    none f.0 f.2

-- What is nothing else is none.
pub none_of : (o : Option ℕ) → ((x : ℕ) → o ≡ Some x → ⊥) → o ≡ None
none_of None other = refl
none_of (Some x) other = absurd (other x refl)
