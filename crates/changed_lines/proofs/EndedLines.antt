-- What the lines of a file are: a text, and what ends it; the last may have no end.
use Rattle.std.proofs.Common.{◌≡◌, ℕ, true, false, List, [], ◌∷◌, ◌++◌, refl, sym, ap, subst, inl}
use Rattle.std.proofs.Common.{inr}
use Rattle.std.proofs.Common.{eqb-true, Bool, ◌∙◌}
use Rattle.std.specs.Prelude.{⊤, ◌⊎◌, ◌==◌, ◌&&◌, not}
use Rattle.std.proofs.lemmas.Bool.{cases_Bool, and_parts, and_cases}
use Rattle.std.proofs.lemmas.List.Elements.{All-nil, All-cons}
use Rattle.gsi_file.specs.Parts.{HasNoEnd, is_line_end}
use Rattle.gsi_file.specs.Beside.{end_bytes}
use Rattle.gsi_file.specs.declared.beside.LineEnd.{LineEnd}
use Rattle.gsi_file.specs.declared.beside.LineEnd.TheVariants.{LineFeed, CarriageReturn, Both}
use Rattle.set_marks.specs.Unmarked.{begins_with_feed, ends_line, whole_lines, with_first}

-- A text that ends no line, and what ends it.
pub record IsEnded (whole : List ℕ) : Type 0 where
  pub text : List ℕ
  pub end : LineEnd
  pub is : whole ≡ text ++ end_bytes end
  pub none : HasNoEnd text

-- Lines of which each is ended, but for the last.
abbrev pub AreEnded : List (List ℕ) → Type 0
AreEnded [] = ⊤
AreEnded (l ∷ []) = IsEnded l ⊎ HasNoEnd l
AreEnded (l ∷ k ∷ ls) = IsEnded l × AreEnded (k ∷ ls)

one_more : (l : List ℕ) (ls : List (List ℕ)) → IsEnded l → AreEnded ls → AreEnded (l ∷ ls)
one_more l [] is are = inl is
one_more l (k ∷ ls) is are = (is, are)

-- All but the first.
pub after_first : (l : List ℕ) (ls : List (List ℕ)) → AreEnded (l ∷ ls) → AreEnded ls
after_first l [] are = tt
after_first l (k ∷ ls) are = are.1

ended_by : (b : ℕ) → is_line_end b ≡ true → IsEnded (b ∷ [])
ended_by b e = elim (cases_Bool (b == 10)) [
  | inl h ↦ record {
    text = [];
    end = LineFeed;
    is = ap (λ (x : ℕ). x ∷ []) (eqb-true b 10 h);
    none = All-nil (λ c. is_line_end c ≡ false);
  }
  | inr h ↦ record {
    text = [];
    end = CarriageReturn;
    is = ap (λ (x : ℕ). x ∷ []) (eqb-true b 13 (rw h at e));
    none = All-nil (λ c. is_line_end c ≡ false);
  }
]

longer : (b : ℕ) (l : List ℕ) → is_line_end b ≡ false → IsEnded l → IsEnded (b ∷ l)
longer b l e is = record {
  text = b ∷ is.text;
  end = is.end;
  is = ap (λ bs. b ∷ bs) is.is;
  none = All-cons (λ c. is_line_end c ≡ false) b is.text e is.none;
}

longer_first : (b : ℕ) (ls : List (List ℕ)) → is_line_end b ≡ false → AreEnded ls
    → AreEnded (with_first b ls)
longer_first b [] e are = inr (All-cons (λ c. is_line_end c ≡ false) b [] e
    (All-nil (λ c. is_line_end c ≡ false)))
longer_first b (l ∷ []) e are = elim are [
  | inl is ↦ inl (longer b l e is)
  | inr none ↦ inr (All-cons (λ c. is_line_end c ≡ false) b l e none)
]
longer_first b (l ∷ k ∷ ls) e are = (longer b l e are.0, are.1)

is_true : (b : Bool) → not b ≡ false → b ≡ true
is_true true e = refl
is_true false e = let f : true ≡ false = e in absurd (cc)

-- A byte that could end a line and doesn't is a carriage return before a line feed.
feed_after : (b : ℕ) (bytes : List ℕ) → is_line_end b ≡ true → ends_line b bytes ≡ false
    → (b ≡ 13) × (begins_with_feed bytes ≡ true)
feed_after b bytes e not_ended =
    elim (and_cases (is_line_end b) (not ((b == 13) && begins_with_feed bytes)) not_ended) [
      | inl f ↦ let g : true ≡ false = sym e ∙ f in absurd (cc)
      | inr f ↦
          let both = and_parts (b == 13) (begins_with_feed bytes)
          (is_true ((b == 13) && begins_with_feed bytes) f) in (eqb-true b 13 both.0, both.1)
    ]

both_end : (b : ℕ) → b ≡ 13 → IsEnded (b ∷ 10 ∷ [])
both_end b e = record {
  text = [];
  end = Both;
  is = ap (λ (x : ℕ). x ∷ 10 ∷ []) e;
  none = All-nil (λ c. is_line_end c ≡ false);
}

returned : (b : ℕ) (bytes : List ℕ) → (b ≡ 13) × (begins_with_feed bytes ≡ true)
    → AreEnded (whole_lines bytes) → AreEnded (with_first b (whole_lines bytes))
returned b [] feed are = let f : false ≡ true = feed.1 in absurd (cc)
returned b (c ∷ bytes) feed are =
    let is_feed : 10 ≡ c = sym (eqb-true c 10 feed.1) in
    subst (λ (x : ℕ). AreEnded (whole_lines (x ∷ bytes))
    → AreEnded (with_first b (whole_lines (x ∷ bytes)))) is_feed
    (λ are. one_more (b ∷ 10 ∷ []) (whole_lines bytes) (both_end b feed.0)
    (after_first (10 ∷ []) (whole_lines bytes) are)) are

-- So are the lines of a file.
pub are_ended : (bytes : List ℕ) → AreEnded (whole_lines bytes)
are_ended [] = tt
are_ended (b ∷ bytes) = elim (cases_Bool (ends_line b bytes)) [
  | inl h ↦ rw h (one_more (b ∷ []) (whole_lines bytes)
      (ended_by b (and_parts (is_line_end b)
      (not ((b == 13) && begins_with_feed bytes)) h).0) (are_ended bytes))
  | inr h ↦ rw h (elim (cases_Bool (is_line_end b)) [
    | inl e ↦ returned b bytes (feed_after b bytes e h) (are_ended bytes)
    | inr e ↦ longer_first b (whole_lines bytes) e (are_ended bytes)
  ])
]
