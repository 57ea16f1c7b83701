-- The line of a note is none that the head has under a label of its own.
use Rattle.std.proofs.Common.{◌≡◌, ◌≢◌, ◌∙◌, ◌-◌, ◌<◌, ◌≤◌, ℕ, zero, suc, Bool, true, false, not}
use Rattle.std.proofs.Common.{◌&&◌, ◌||◌, ◌==◌, List, [], ◌∷◌, ◌++◌, length, replicate, ap, arith}
use Rattle.std.proofs.lemmas.Bool.{leb-true}
use Rattle.std.proofs.Common.{append_assoc, codes, flat_map, inl, inr, refl, subst, sym}
use Rattle.std.proofs.Common.{true≢false}
use Rattle.std.proofs.lemmas.List.Sums.{count_by-le-length}
use Rattle.std.specs.List.{list_any}
use Rattle.std.specs.Char.{encode_utf8}
use Rattle.std.specs.Prelude.{if◌then◌else◌, nat_le}
use Rattle.byte_digests.specs.DigestLines.{is_escaped}
use Rattle.byte_digests.specs.NameTexts.{is_coded, name_text, shown}
use Rattle.report_notes.specs.Stated.{IsFree, IsOwnLabel, is_spaced}
use Rattle.report_phrases.specs.Phrases.{said}
use Rattle.report_phrases.specs.declared.language.Language.{Language}
use Rattle.report_phrases.specs.declared.language.Language.TheVariants.{English, French, German}
use Rattle.report_phrases.specs.declared.phrase.Phrase.TheVariants as phrase
use Rattle.station_report.specs.NoteTexts.{begins_character, characters_of, label_text, note_text}
use Rattle.station_report.specs.ReportTexts.{entry_text}

and_left : (a b : Bool) → (a && b) ≡ true → a ≡ true
and_left true b e = refl
and_left false b e = absurd cc

and_right : (a b : Bool) → (a && b) ≡ true → b ≡ true
and_right true b e = e
and_right false b e = absurd cc

or_left : (a b : Bool) → (a || b) ≡ false → a ≡ false
or_left true b e = absurd cc
or_left false b e = refl

or_right : (a b : Bool) → (a || b) ≡ false → b ≡ false
or_right true b e = absurd cc
or_right false b e = e

-- What stands after a byte has its blanks one at a time too.
spaced_next : (after : Bool) (b : ℕ) (text : List ℕ) → is_spaced after (b ∷ text) ≡ true
    → is_spaced (b == 32) text ≡ true
spaced_next after b text h = by (b == 32) h
  where
    by : (v : Bool)
        → (if v then not after && is_spaced true text else is_spaced false text) ≡ true
        → is_spaced v text ≡ true
    by true e = and_right (not after) (is_spaced true text) e
    by false e = e

-- After a blank none follows, nor does the text end.
follows : (text rest more : List ℕ) → is_spaced true text ≡ true → text ++ rest ≢ 32 ∷ more
follows [] rest more h e = absurd cc
follows (b ∷ text) rest more h e =
    let blank : b ≡ 32 = cc in
    let none : false ≡ true = subst (λ (c : ℕ). is_spaced true (c ∷ text) ≡ true) blank h in
    absurd cc

-- After a byte that is a blank.
after_blank : (after : Bool) (b : ℕ) (text : List ℕ) → is_spaced after (b ∷ text) ≡ true → b ≡ 32
    → is_spaced true text ≡ true
after_blank after b text h e =
    subst (λ (c : ℕ). is_spaced (c == 32) text ≡ true) e (spaced_next after b text h)

-- A text that a blank follows, and if it is the shorter two, is one that two blanks follow.
same_label : (after : Bool) (key label more rest : List ℕ) → is_spaced after key ≡ true
    → is_spaced after label ≡ true
    → (length key < length label → (left : List ℕ) × (more ≡ 32 ∷ left))
    → key ++ (32 ∷ more) ≡ label ++ (32 ∷ 32 ∷ rest) → key ≡ label
same_label after [] [] more rest k l two e = refl
same_label after [] (b ∷ label) more rest k l two e =
    let blank : b ≡ 32 = cc in
    let left : more ≡ label ++ (32 ∷ 32 ∷ rest) = cc in
    let blanks = two (omega arith) in
    absurd (follows label (32 ∷ 32 ∷ rest) blanks.0 (after_blank after b label l blank)
    (sym left ∙ blanks.1))
same_label after (b ∷ key) [] more rest k l two e =
    let blank : b ≡ 32 = cc in
    let left : key ++ (32 ∷ more) ≡ 32 ∷ rest = cc in
    absurd (follows key (32 ∷ more) rest (after_blank after b key k blank) left)
same_label after (b ∷ key) (c ∷ label) more rest k l two e =
    let same : b ≡ c = cc in
    let left : key ++ (32 ∷ more) ≡ label ++ (32 ∷ 32 ∷ rest) = cc in
    let others : key ≡ label =
    same_label (b == 32) key label more rest (spaced_next after b key k)
    (subst (λ (d : ℕ). is_spaced (d == 32) label ≡ true) (sym same) (spaced_next after c label l))
    (λ h. two (omega (arith, h))) left in
    (λ i. same i ∷ others i)

-- Blanks up to the end of a column, and one more: one at least, and two where the column isn't full.
blanks_first : (count : ℕ) (rest : List ℕ) → (more : List ℕ)
    × ((replicate count 32 ++ codes " ") ++ rest ≡ 32 ∷ more)
    × (1 ≤ count → (left : List ℕ) × (more ≡ 32 ∷ left))
blanks_first zero rest = (rest, refl, λ h. absurd (omega (arith, h)))
blanks_first (suc zero) rest = (32 ∷ rest, refl, λ h. (rest, refl))
blanks_first (suc (suc count)) rest = (
  32 ∷ ((replicate count 32 ++ codes " ") ++ rest),
  refl,
  λ h. ((replicate count 32 ++ codes " ") ++ rest, refl),
)

-- A byte that stands for itself.
shown_itself : (b : ℕ) → is_escaped b ≡ false → is_coded b ≡ false → shown b ≡ b ∷ []
shown_itself b e c =
    let back : (b == 92) ≡ false = or_left (b == 92) ((b == 10) || (b == 13)) e in
    let others = or_right (b == 92) ((b == 10) || (b == 13)) e in
    let feed : (b == 10) ≡ false = or_left (b == 10) (b == 13) others in
    let carriage : (b == 13) ≡ false = or_right (b == 10) (b == 13) others in
    rw (c, back, feed, carriage) refl

-- Bytes that do.
all_shown : (name : List ℕ) → list_any is_escaped name ≡ false → list_any is_coded name ≡ false
    → flat_map shown name ≡ name
all_shown [] e c = refl
all_shown (b ∷ name) e c =
    let first = shown_itself b (or_left (is_escaped b) (list_any is_escaped name) e)
    (or_left (is_coded b) (list_any is_coded name) c) in
    let others = all_shown name (or_right (is_escaped b) (list_any is_escaped name) e)
    (or_right (is_coded b) (list_any is_coded name) c) in
    (λ i. first i ++ others i)

module _ (label key words line rest : List ℕ) (first : ℕ) (after_first : List ℕ)
    (begins : label ≡ first ∷ after_first) (is_no_mark : first ≢ 92)
    (spaced_label : is_spaced true label ≡ true) (short : length label ≤ 21)
    (spaced_key : is_spaced true key ≡ true) (other : key ≢ label)
    (line_is : line ≡ label ++ (32 ∷ 32 ∷ rest)) where
  text : List ℕ
  text = name_text words ++ codes "\n"

  -- The key stands for itself.
  plain : name_text key ≡ key → note_text key words ≢ line
  unfolding text
  plain same e =
      let count = 21 - characters_of key in
      let blanks = blanks_first count text in
      let there : note_text key words ≡ key ++ (32 ∷ blanks.0) =
      ap (λ (k : List ℕ). label_text k ++ text) same
      ∙ (append_assoc key (replicate count 32 ++ codes " ") text
      ∙ ap (λ (l : List ℕ). key ++ l) blanks.1) in
      let few : characters_of key ≤ length key = count_by-le-length begins_character key in
      other (same_label true key label blanks.0 rest spaced_key spaced_label
      (λ h. blanks.2 (omega (arith, few, h, short))) (sym there ∙ (e ∙ line_is)))

  -- The key has a mark before it.
  marked : (shown_key : List ℕ) → name_text key ≡ 92 ∷ shown_key → note_text key words ≢ line
  unfolding text
  marked shown_key mark e =
      let there : label_text (92 ∷ shown_key) ++ text ≡ (first ∷ after_first) ++ (32 ∷ 32 ∷ rest) =
      sym (ap (λ (k : List ℕ). label_text k ++ text) mark)
      ∙ (e ∙ (line_is ∙ ap (λ (l : List ℕ). l ++ (32 ∷ 32 ∷ rest)) begins)) in
      let same : 92 ≡ first = cc in
      is_no_mark (sym same)

  pub no_line : note_text key words ≢ line
  no_line = by (list_any is_escaped key) (list_any is_coded key) refl refl
    where
      by : (a b : Bool) → list_any is_escaped key ≡ a → list_any is_coded key ≡ b
          → note_text key words ≢ line
      by true b e c = marked (flat_map shown key) (rw (e) refl)
      by false true e c = marked (flat_map shown key) (rw (e, c) refl)
      by false false e c = plain (rw (e, c) (all_shown key e c))

-- Whether a label is as those of the head: with blanks one at a time and inside alone, without a
-- mark before it, and with room for two blanks after it.
abbrev fits : List ℕ → Bool
fits [] = false
fits (byte ∷ label) =
    not (byte == 92) && (is_spaced true (byte ∷ label) && (nat_le (length (byte ∷ label)) 21
    && nat_le (characters_of (byte ∷ label)) 20))

not_true : (a : Bool) → not a ≡ true → a ≡ false
not_true true e = absurd cc
not_true false e = refl

-- The line of a label that fits has two blanks after it.
line_of : (label entry : List ℕ) → characters_of label ≤ 20
    → (rest : List ℕ) × (entry_text label entry ≡ label ++ (32 ∷ 32 ∷ rest))
line_of label entry few =
    let text = entry ++ codes "\n" in
    let count = 21 - characters_of label in
    let blanks = blanks_first count text in
    let two = blanks.2 (omega (arith, few)) in (
      two.0,
      append_assoc label (replicate count 32 ++ codes " ") text
          ∙ ap (λ (l : List ℕ). label ++ l) (blanks.1 ∙ ap (λ (l : List ℕ). 32 ∷ l) two.1),
    )

own : (label key words entry : List ℕ) → fits label ≡ true → is_spaced true key ≡ true
    → key ≢ label → note_text key words ≢ entry_text label entry
own [] key words entry fit spaced other = absurd cc
own (byte ∷ label) key words entry fit spaced other =
    let here : List ℕ = byte ∷ label in
    let narrow = nat_le (length here) 21 && nat_le (characters_of here) 20 in
    let rest = and_right (not (byte == 92)) (is_spaced true here && narrow) fit in
    let both = and_right (is_spaced true here) narrow rest in
    let no_mark : (byte == 92) ≡ false =
    not_true (byte == 92) (and_left (not (byte == 92)) (is_spaced true here && narrow) fit) in
    let short : length here ≤ 21 = leb-true (length here) 21
    (and_left (nat_le (length here) 21) (nat_le (characters_of here) 20) both) in
    let few : characters_of here ≤ 20 = leb-true (characters_of here) 20
    (and_right (nat_le (length here) 21) (nat_le (characters_of here) 20) both) in
    let line = line_of here entry few in
    no_line here key words (entry_text here entry) line.0 byte label refl
    (λ e. true≢false (subst (λ (b : ℕ). (b == 92) ≡ false) e no_mark))
    (and_left (is_spaced true here) narrow rest) short spaced other line.1

-- All labels of the head fit, in each language.
all_fit : (language : Language) → (fits (said language phrase.FieldFile) ≡ true)
    × (fits (said language phrase.Station) ≡ true) × (fits (said language phrase.Date) ≡ true)
    × (fits (said language phrase.Sets) ≡ true) × (fits (said language phrase.Targets) ≡ true)
    × (fits (said language phrase.TwoFaceDirections) ≡ true)
    × (fits (said language phrase.MissingDirections) ≡ true)
    × (fits (said language phrase.LimitOfTwoC) ≡ true)
    × (fits (said language phrase.LimitOfTwoI) ≡ true)
    × (fits (said language phrase.LimitOfResiduals) ≡ true)
unfolding encode_utf8
all_fit English = (refl, refl, refl, refl, refl, refl, refl, refl, refl, refl)
all_fit German = (refl, refl, refl, refl, refl, refl, refl, refl, refl, refl)
all_fit French = (refl, refl, refl, refl, refl, refl, refl, refl, refl, refl)

fit : (language : Language) (label : List ℕ) → IsOwnLabel language label → fits label ≡ true
fit language label (inl is) = ap fits is ∙ (all_fit language).0
fit language label (inr (inl is)) = ap fits is ∙ (all_fit language).1
fit language label (inr (inr (inl is))) = ap fits is ∙ (all_fit language).2
fit language label (inr (inr (inr (inl is)))) = ap fits is ∙ (all_fit language).3
fit language label (inr (inr (inr (inr (inl is))))) = ap fits is ∙ (all_fit language).4
fit language label (inr (inr (inr (inr (inr (inl is)))))) = ap fits is ∙ (all_fit language).5
fit language label (inr (inr (inr (inr (inr (inr (inl is))))))) =
    ap fits is ∙ (all_fit language).6
fit language label (inr (inr (inr (inr (inr (inr (inr (inl is)))))))) =
    ap fits is ∙ (all_fit language).7
fit language label (inr (inr (inr (inr (inr (inr (inr (inr (inl is))))))))) =
    ap fits is ∙ (all_fit language).8
fit language label (inr (inr (inr (inr (inr (inr (inr (inr (inr is))))))))) =
    ap fits is ∙ (all_fit language).9

pub apart : (language : Language) (label key words entry : List ℕ) → IsOwnLabel language label
    → IsFree language key → note_text key words ≢ entry_text label entry
apart language label key words entry label_is free =
    own label key words entry (fit language label label_is) free.0
    (λ e. free.1 (subst (IsOwnLabel language) (sym e) label_is))
