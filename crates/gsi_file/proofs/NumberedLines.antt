-- The numbered lines of pieces of a file.
use Rattle.std.proofs.Common.{◌≡◌, ℕ, true, false, List, [], ◌∷◌, ◌++◌, filter, refl, sym, ap}
use Rattle.std.proofs.Common.{subst, ◌∙◌, inl, inr, ◌⊎◌}
use Rattle.std.specs.Prelude.{⊤}
use Rattle.std.specs.List.{onto_first}
use Rattle.std.proofs.lemmas.Bool.{cases_Bool}
use Rattle.std.proofs.lemmas.List.{append-nil}
use Rattle.std.proofs.lemmas.List.Elements.{filter-append, All-nil, All-cons}
use Rattle.std.proofs.lemmas.List.Splits.{slice_split_at, slice_split_none}
use Rattle.gsi_file.specs.Parts.{parts, is_line, is_line_end, numbered_lines, HasNoEnd}
use Rattle.gsi_file.specs.declared.beside.LineEnd.{LineEnd}
use Rattle.gsi_file.specs.declared.beside.LineEnd.TheVariants.{LineFeed, CarriageReturn, Both}
use Rattle.gsi_file.specs.Beside.{end_bytes}

-- The last of these bytes, where there is one, ends a line.
abbrev pub LastEnds : List ℕ → Type 0
LastEnds [] = ⊤
LastEnds (b ∷ []) = is_line_end b ≡ true
LastEnds (b ∷ c ∷ bytes) = LastEnds (c ∷ bytes)

-- The parts of a piece that ends a line, and of the piece with more after it.
record HasParts (a b : List ℕ) : Type 0 where
  pub first : List ℕ
  pub more : List (List ℕ)
  pub alone : parts a ≡ (first ∷ more) ++ [] ∷ []
  pub joined : parts (a ++ b) ≡ (first ∷ more) ++ parts b

has_parts : (x : ℕ) (a b : List ℕ) → LastEnds (x ∷ a) → HasParts (x ∷ a) b
has_parts x [] b last = record
    { first = []; more = []; alone = rw last refl; joined = rw last refl }
has_parts x (y ∷ a) b last =
    let r = has_parts y a b last in elim (cases_Bool (is_line_end x)) [
      | inl h ↦ record {
        first = [];
        more = r.first ∷ r.more;
        alone = rw h (ap (λ ps. [] ∷ ps) r.alone);
        joined = rw h (ap (λ ps. [] ∷ ps) r.joined);
      }
      | inr h ↦ record {
        first = x ∷ r.first;
        more = r.more;
        alone = rw h (ap (λ ps. onto_first x ps) r.alone);
        joined = rw h (ap (λ ps. onto_first x ps) r.joined);
      }
    ]

-- The numbered lines of a piece that ends a line, and then those of the next.
pub numbered_append : (a b : List ℕ) → LastEnds a
    → numbered_lines (a ++ b) ≡ numbered_lines a ++ numbered_lines b
numbered_append [] b last = refl
numbered_append (x ∷ a) b last =
    let h = has_parts x a b last in
    ap (λ ps. filter is_line ps) h.joined ∙ filter-append is_line (h.first ∷ h.more) (parts b)
    ∙ ap (λ ls. ls ++ numbered_lines b) (sym (ap (λ ps. filter is_line ps) h.alone
    ∙ filter-append is_line (h.first ∷ h.more) ([] ∷ [])
    ∙ append-nil (filter is_line (h.first ∷ h.more))))

-- A text that ends no line and is not blank, with what ends it, is one line.
pub one_numbered : (text : List ℕ) (end : LineEnd) → HasNoEnd text → is_line text ≡ true
    → numbered_lines (text ++ end_bytes end) ≡ text ∷ []
one_numbered text LineFeed none line =
    ap (λ ps. filter is_line ps) (slice_split_at is_line_end text 10 [] none refl) ∙ rw line refl
one_numbered text CarriageReturn none line =
    ap (λ ps. filter is_line ps) (slice_split_at is_line_end text 13 [] none refl) ∙ rw line refl
one_numbered text Both none line =
    ap (λ ps. filter is_line ps) (slice_split_at is_line_end text 13 (10 ∷ []) none refl)
    ∙ rw line refl

-- Bytes of which none ends a line are one part.
pub one_part : (text : List ℕ) → HasNoEnd text → parts text ≡ text ∷ []
one_part text none = slice_split_none is_line_end text none

-- The first part of some bytes, and what stands after it.
pub record IsCut (tail part : List ℕ) (more : List (List ℕ)) : Type 0 where
  pub end : ℕ
  pub rest : List ℕ
  pub is : tail ≡ part ++ end ∷ rest
  pub none : HasNoEnd part
  pub ends : is_line_end end ≡ true
  pub beyond : parts rest ≡ more

-- The bytes are one part, or are cut by a byte that ends a line.
pub record IsAlone (tail part : List ℕ) (more : List (List ℕ)) : Type 0 where
  pub is : tail ≡ part
  pub none : HasNoEnd part
  pub beyond : more ≡ []

cut_or_alone : (tail : List ℕ)
    → IsAlone tail tail [] ⊎ ((part : List ℕ) × (rest : List (List ℕ))
    × (parts tail ≡ part ∷ rest) × IsCut tail part rest)
cut_or_alone [] = inl
    (record { is = refl; none = All-nil (λ b. is_line_end b ≡ false); beyond = refl })
cut_or_alone (x ∷ xs) = elim (cases_Bool (is_line_end x)) [
  | inl h ↦ inr (
    [],
    parts xs,
    (rw h refl),
    record {
      end = x;
      rest = xs;
      is = refl;
      none = All-nil (λ b. is_line_end b ≡ false);
      ends = h;
      beyond = refl;
    },
  )
  | inr h ↦ elim (cut_or_alone xs) [
    | inl a ↦ inl (record {
      is = refl;
      none = All-cons (λ b. is_line_end b ≡ false) x xs h a.none;
      beyond = refl;
    })
    | inr c ↦
        let cut = c.3 in
        inr (
          x ∷ c.0,
          c.1,
          (rw (h, c.2) refl),
          record {
            end = cut.end;
            rest = cut.rest;
            is = ap (λ bs. x ∷ bs) cut.is;
            none = All-cons (λ b. is_line_end b ≡ false) x c.0 h cut.none;
            ends = cut.ends;
            beyond = cut.beyond;
          },
        )
  ]
]

-- Where the bytes have these parts, they are the first, or it is cut off.
pub first_cut : (tail part : List ℕ) (more : List (List ℕ)) → parts tail ≡ part ∷ more
    → IsAlone tail part more ⊎ IsCut tail part more
first_cut tail part more e = elim (cut_or_alone tail) [
  | inl a ↦
      let f : tail ∷ [] ≡ part ∷ more = sym (one_part tail a.none) ∙ e in
      let g : tail ≡ part = cc in
      let h : [] ≡ more = cc in
      inl (record { is = g; none = subst HasNoEnd g a.none; beyond = sym h })
  | inr c ↦
      let f : c.0 ∷ c.1 ≡ part ∷ more = sym c.2 ∙ e in
      let g : c.0 ≡ part = cc in
      let h : c.1 ≡ more = cc in
      inr (subst (λ (p : List ℕ). IsCut tail p more) g
      (subst (λ (ps : List (List ℕ)). IsCut tail c.0 ps) h c.3))
]

-- There is a part.
pub some_part : (tail : List ℕ) → parts tail ≡ [] → ⊥
some_part tail e = elim (cut_or_alone tail) [
  | inl a ↦ none_left tail [] (sym (one_part tail a.none) ∙ e)
  | inr c ↦ none_left c.0 c.1 (sym c.2 ∙ e)
] where
  none_left : (p : List ℕ) (ps : List (List ℕ)) → p ∷ ps ≡ [] → ⊥
  none_left p ps e = cc
