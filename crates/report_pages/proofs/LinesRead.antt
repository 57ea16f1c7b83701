-- The lines that are split off a text.
use Rattle.std.proofs.Common.{◌≡◌, ◌∙◌, ℕ, ◌<◌, ◌+◌, Bool, List, [], ◌∷◌, ◌++◌}
use Rattle.std.proofs.Common.{ap, arith, drop, length, refl, subst, suc, sym, take, zero, Bor}
use Rattle.std.proofs.Common.{Option}
use Rattle.std.proofs.lemmas.Fn.{always_returns_same}
use Rattle.std.proofs.lemmas.Iterator.{YieldsList}
use Rattle.std.proofs.lemmas.Iterator.Splits.{YieldsList-from_shown_while}
use Rattle.std.proofs.lemmas.List.{drop_at, drop_min, nil_from_length, take_at, take_min}
use Rattle.std.specs.Fn.{CalledAt, ComputesKey}
use Rattle.std.specs.Prelude.{◌==◌, if◌then◌else◌, min, MatchOption}
use Rattle.std.specs.List.{IsFirstMatchOrLen, onto_first}
use Rattle.std.specs.Slice.Iter.{split_inclusive_callee, split_inclusive_rest}
use Rattle.std.specs.declared.slice.SplitInclusive.{SplitInclusive}
use Rattle.report_pages.specs.Lines.{lines}
use Rattle.report_pages.specs.declared.lines.TheConstants.{LINE_FEED}
use denote.Param.Members.{Mut}

-- The first line ends with the first line feed, or with the text.
first_to : (xs : List ℕ) (i : ℕ) → 0 < length xs
    → IsFirstMatchOrLen (λ b. b == LINE_FEED) xs i
    → lines xs ≡ take (suc i) xs ∷ lines (drop (suc i) xs)
first_to [] i some first = absurd (omega (arith, some))
first_to (b ∷ bs) zero some first =
    ap (λ (ends : Bool). if ends then (b ∷ []) ∷ lines bs else onto_first b (lines bs))
    (first.1 (omega arith) 0)
first_to (b ∷ []) (suc i) some first =
    ap (λ (ends : Bool). if ends then (b ∷ []) ∷ [] else onto_first b [])
    (first.0 0 0 (omega arith) (omega arith))
first_to (b ∷ (b' ∷ bs)) (suc i) some first =
    let xs = b' ∷ bs in
    ap (λ (ends : Bool). if ends then (b ∷ []) ∷ lines xs else onto_first b (lines xs))
    (first.0 0 0 (omega arith) (omega arith))
    ∙ ap (onto_first b) (first_to xs i (omega arith) (
      λ k d low high. first.0 (suc k) d (omega arith) (omega (arith, high)),
      λ inside d. first.1 (omega (arith, inside)) d,
    ))

-- So it is where the text is parted there.
first_line : (xs x ys : List ℕ) (i : ℕ) → xs ≡ x ++ ys
    → length x ≡ min (i + 1) (length xs) → 0 < length xs
    → IsFirstMatchOrLen (λ b. b == LINE_FEED) xs i → lines xs ≡ x ∷ lines ys
first_line xs x ys i parted long some first =
    let front : take (i + 1) xs ≡ x =
    sym (take_min (i + 1) xs) ∙ ap (λ (n : ℕ). take n xs) (sym long)
    ∙ ap (take (length x)) parted ∙ take_at x ys (length x) refl in
    let back : drop (i + 1) xs ≡ ys =
    sym (drop_min (i + 1) xs) ∙ ap (λ (n : ℕ). drop n xs) (sym long)
    ∙ ap (drop (length x)) parted ∙ drop_at x ys (length x) refl in
    let next : suc i ≡ i + 1 = omega arith in
    first_to xs i some first
    ∙ ap (λ (n : ℕ). take n xs ∷ lines (drop n xs)) next
    ∙ ap (λ (l : List ℕ). l ∷ lines (drop (i + 1) xs)) front
    ∙ ap (λ (t : List ℕ). x ∷ lines t) back

-- What each step of the split gives.
abbrev inclusive_steps : {F : Type 0} → Mut F (Bor ℕ × Unit {0}) Bool → SplitInclusive ℕ F
    → Option (Bor (List ℕ)) → SplitInclusive ℕ F → Type 0
inclusive_steps g s r t =
    MatchOption r ((length (split_inclusive_rest s) ≡ 0) × (t ≡ s))
    (λ x. (split_inclusive_rest s ≡ x.now ++ split_inclusive_rest t)
    × ((i : ℕ) × (length x.now ≡ min (i + 1) (length (split_inclusive_rest s)))
    × ((p : ℕ → Bool) → ComputesKey g p (split_inclusive_callee s)
    → ComputesKey g p (split_inclusive_callee t)
    × IsFirstMatchOrLen p (split_inclusive_rest s) i))
    × (0 < length (split_inclusive_rest s)))

-- The split gives the lines of a text.
pub lines_split : {F : Type 0} {s : _} (g : Mut F (Bor ℕ × Unit {0}) Bool) {f : F} (text : List ℕ)
    → split_inclusive_rest s ≡ text → split_inclusive_callee s ≡ f
    → ((x : ℕ) (b : Bool) (q : F) → CalledAt g f x b q → (q ≡ f) × (b ≡ (x == LINE_FEED)))
    → YieldsList (inclusive_steps g) (λ x. x.now) s (lines text)
lines_split {s = s} g {f} text rest closure tests =
    let ends = λ (b : ℕ). b == LINE_FEED in
    let shown = λ (t : SplitInclusive ℕ _). lines (split_inclusive_rest t) in
    subst (YieldsList (inclusive_steps g) (λ x. x.now) s) (ap lines rest)
    (YieldsList-from_shown_while (inclusive_steps g) (λ x. x.now) shown
    (λ t. ComputesKey g ends (split_inclusive_callee t))
    (λ t u h k. ap (λ (xs : List ℕ). length (lines xs)) (nil_from_length _ k.0))
    (λ t x u h k. (
      (k.1.2 ends h).0,
      first_line _ x.now _ k.1.0 k.0 k.1.1 k.2 (k.1.2 ends h).1,
    ))
    s (subst (ComputesKey g ends) (sym closure) (always_returns_same g
    (λ a r. r ≡ ends a.0.now) f (λ a r q k.
    let m = tests a.0.now r q (record { shown = a.0; shows = refl; called = k }) in
    (m.1, m.0)))))
