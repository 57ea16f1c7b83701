-- The text of a sheet is that of its rows, and of no other sheet.
use Rattle.std.proofs.Common.{◌≡◌, ℕ, suc, ◌+◌, ◌-◌, ◌*◌, ◌^◌, ◌<◌, ◌≤◌, true}
use Rattle.std.proofs.Common.{List, [], ◌∷◌, ◌++◌, map, Some, None, refl}
use Rattle.std.proofs.Common.{sym, ap, ◌∙◌, subst, arith, rules}
use Rattle.std.specs.Prelude.{codes, fold, ℤ, pos, negsuc, neg_ℤ, ◌≤ℤ◌, ⊤}
use Rattle.std.specs.Char.{is_ascii_digit}
use Rattle.std.specs.Fmt.{decimal, signed_decimal}
use Rattle.std.specs.List.{All, AllZip, list_all}
use Rattle.std.proofs.lemmas.Bool.{false≢true}
use Rattle.std.proofs.lemmas.Slice.Eq.{bytes_eq-Decides}
use Rattle.std.proofs.lemmas.Fmt.{decimal_is_IsNumeral_wide}
use Rattle.std.proofs.lemmas.Str.Parse.{IsNumeralModel, numerals_by_fold}
use Rattle.std.proofs.lemmas.Int.{ints}
use Rattle.std.proofs.lemmas.List.{append-nil}
use Rattle.gsi_word.specs.Angles.{decimal_number, decimal_value}
use Rattle.adjust_kernel.specs.declared.bounds.TheConstants.{LARGEST_ANGLE, LARGEST_TURN}
use Rattle.adjust_kernel.specs.Sheets.{SheetValue, IsDirection, IsOrientation, IsRow}
use Rattle.adjust_kernel.specs.Within.{IsWithin}
use Rattle.adjust_kernel.specs.declared.row.Direction.{Direction}
use Rattle.adjust_kernel.specs.declared.row.Orientation.{Orientation}
use Rattle.adjust_kernel.specs.declared.row.Row.{Row}
use Rattle.sheet_format.specs.Rows.{IsSheetText, target_fields, set_fields, obs_fields}
use Rattle.sheet_format.specs.Versions.{version_text}
use Rattle.sheet_promise.specs.SheetRows.{HasNumber, IsTargetRow, IsSetRow, IsObsRow, AreOfSheet}

-- Bytes that are all digits have the number that they write.
numerals : IsNumeralModel (λ ds. list_all is_ascii_digit ds ≡ true) decimal_value
numerals = numerals_by_fold _ (search rules) (λ n ds. fold (λ m b. 10 * m + (b - 48)) n ds)
    (record {
      empty = λ n. refl;
      more = λ n c cs in_range.
          let e : 10 * n + (c - 48) ≡ n * 10 + (c - 48) = omega arith in
          ap (λ (k : ℕ). fold (λ m b. 10 * m + (b - 48)) k cs) e;
    })

number_is : (n : ℕ) → n < 10 ^ 64 → decimal_number (decimal n) ≡ Some n
number_is n small =
    let h = decimal_is_IsNumeral_wide n small in
    rw (numerals.from (decimal n) h.0.1)
    (ap (λ (k : ℕ). Some k) (numerals.same (decimal n) h.0.1 ∙ h.1))

signed_is : (z most : ℤ) (m : ℕ) → most ≡ pos m → m < 10 ^ 64 → IsWithin most z
    → HasNumber (signed_decimal z) z
signed_is (pos n) most m e small is =
    let high : pos n ≤ℤ pos m = subst (λ (b : ℤ). pos n ≤ℤ b) e is.high in
    number_is n (omega (arith, ints, high, small))
signed_is (negsuc n) most m e small is =
    let low : neg_ℤ (pos m) ≤ℤ negsuc n = subst (λ (b : ℤ). neg_ℤ b ≤ℤ negsuc n) e is.low in
    (decimal (suc n), refl, number_is (suc n) (omega (arith, ints, low, small)))

target_rows : (ds : List Direction) → All IsDirection ds
    → AllZip IsTargetRow (map target_fields ds) ds
target_rows [] all = tt
target_rows (d ∷ ds) all = (
  record {
    value = signed_decimal d.value;
    text = refl;
    has_value = signed_is d.value LARGEST_ANGLE _ refl (omega arith) (all 0 d (omega arith)).value;
  },
  target_rows ds (λ k e below. all (suc k) e (omega (arith, below))),
)

set_rows : (os : List Orientation) → All IsOrientation os → AllZip IsSetRow (map set_fields os) os
set_rows [] all = tt
set_rows (o ∷ os) all =
    let own = all 0 o (omega arith) in
    let high = own.set.1 in (
      record {
        set = decimal o.set;
        value = signed_decimal o.value;
        text = refl;
        has_set = number_is o.set (omega (arith, high));
        has_value = signed_is o.value LARGEST_ANGLE _ refl (omega arith) own.value;
      },
      set_rows os (λ k e below. all (suc k) e (omega (arith, below))),
    )

obs_rows : (rs : List Row) → All IsRow rs → AllZip IsObsRow (map obs_fields rs) rs
obs_rows [] all = tt
obs_rows (r ∷ rs) all =
    let own = all 0 r (omega arith) in
    let high = own.set.1 in
    let below = own.value in (
      record {
        set = decimal r.set;
        value = decimal r.value;
        turn = signed_decimal r.turn;
        text = refl;
        has_set = number_is r.set (omega (arith, high));
        has_value = number_is r.value (omega (arith, below));
        has_turn = signed_is r.turn LARGEST_TURN _ refl (omega arith) own.turn;
      },
      obs_rows rs (λ k e inside. all (suc k) e (omega (arith, inside))),
    )

-- The text of a sheet has its rows.
pub of_sheet_text : (bytes : List ℕ) (sheet : SheetValue) → IsSheetText bytes sheet
    → AreOfSheet bytes sheet
of_sheet_text bytes sheet x =
    let high = x.sheet.denominator.1 in
    record {
      version = version_text x.version;
      denominator = decimal sheet.denominator;
      targets = map target_fields sheet.directions;
      sets = map set_fields sheet.orientations;
      observations = map obs_fields sheet.rows;
      rows = x.rows;
      has_denominator = number_is sheet.denominator (omega (arith, high));
      some_denominator = x.sheet.denominator.0;
      of_targets = target_rows sheet.directions x.sheet.directions.each;
      of_sets = set_rows sheet.orientations x.sheet.orientations.each;
      of_observations = obs_rows sheet.rows x.sheet.rows.each;
    }

same_some : (a b : ℕ) → Some a ≡ Some b → a ≡ b
same_some a b e = cc

no_digit : (ds : List ℕ) (n : ℕ) → decimal_number (45 ∷ ds) ≡ Some n → ⊥
no_digit ds n e = let bad : None ≡ Some n = e in cc

-- A field has one number.
one_number : (field other : List ℕ) (y z : ℤ) → field ≡ other → HasNumber field y
    → HasNumber other z → y ≡ z
one_number field other (pos m) (pos n) e a b =
    ap pos (same_some m n (sym a ∙ ap decimal_number e ∙ b))
one_number field other (pos m) (negsuc n) e a b =
    absurd (no_digit b.0 m (ap decimal_number (sym (e ∙ b.1)) ∙ a))
one_number field other (negsuc m) (pos n) e a b =
    absurd (no_digit a.0 n (ap decimal_number (sym (sym e ∙ a.1)) ∙ b))
one_number field other (negsuc m) (negsuc n) e a b =
    let texts : 45 ∷ a.0 ≡ 45 ∷ b.0 = sym a.1 ∙ e ∙ b.1 in
    let digits : a.0 ≡ b.0 = cc in
    let number : suc m ≡ suc n = same_some (suc m) (suc n) (sym a.2 ∙ ap decimal_number digits ∙ b.2)
    in
    let same : m ≡ n = omega (arith, number) in ap negsuc same

one_natural : (field other : List ℕ) (m n : ℕ) → field ≡ other → decimal_number field ≡ Some m
    → decimal_number other ≡ Some n → m ≡ n
one_natural field other m n e a b = same_some m n (sym a ∙ ap decimal_number e ∙ b)

one_direction : (x : List (List ℕ)) (d e : Direction) → IsTargetRow x d → IsTargetRow x e → d ≡ e
one_direction x d e a b =
    let texts = sym a.text ∙ b.text in
    let name : d.name ≡ e.name = cc in
    let value : a.value ≡ b.value = cc in
    let number = one_number a.value b.value d.value e.value value a.has_value b.has_value in
    λ i. record { name = name i; value = number i }

one_orientation : (x : List (List ℕ)) (o p : Orientation) → IsSetRow x o → IsSetRow x p → o ≡ p
one_orientation x o p a b =
    let texts = sym a.text ∙ b.text in
    let sets : a.set ≡ b.set = cc in
    let value : a.value ≡ b.value = cc in
    let set = one_natural a.set b.set o.set p.set sets a.has_set b.has_set in
    let number = one_number a.value b.value o.value p.value value a.has_value b.has_value in
    λ i. record { set = set i; value = number i }

one_row : (x : List (List ℕ)) (r s : Row) → IsObsRow x r → IsObsRow x s → r ≡ s
one_row x r s a b =
    let texts = sym a.text ∙ b.text in
    let sets : a.set ≡ b.set = cc in
    let target : r.target ≡ s.target = cc in
    let values : a.value ≡ b.value = cc in
    let turns : a.turn ≡ b.turn = cc in
    let set = one_natural a.set b.set r.set s.set sets a.has_set b.has_set in
    let value = one_natural a.value b.value r.value s.value values a.has_value b.has_value in
    let turn = one_number a.turn b.turn r.turn s.turn turns a.has_turn b.has_turn in
    λ i. record { target = target i; value = value i; set = set i; turn = turn i }

-- The first of these rows, if there is one, is not such a row.
abbrev NoneFirst : {D : Type 0} → (List (List ℕ) → D → Type 0) → List (List (List ℕ)) → Type 0
NoneFirst {D} R [] = ⊤
NoneFirst {D} R (x ∷ xs) = (d : D) → R x d → ⊥

module _ {D : Type 0} (R : List (List ℕ) → D → Type 0)
    (one : (x : List (List ℕ)) (d e : D) → R x d → R x e → d ≡ e) where
  -- Rows of one kind before others are told apart from these.
  parts_are : (xs ys : List (List (List ℕ))) (ds es : List D) (p q : List (List (List ℕ)))
      → AllZip R xs ds → AllZip R ys es → NoneFirst R p → NoneFirst R q → xs ++ p ≡ ys ++ q
      → (ds ≡ es) × (p ≡ q)
  parts_are [] [] [] [] p q a b np nq e = (refl, e)
  parts_are [] [] (d ∷ ds) es p q a b np nq e = absurd a
  parts_are [] [] [] (d ∷ es) p q a b np nq e = absurd b
  parts_are [] (y ∷ ys) ds [] p q a b np nq e = absurd b
  parts_are [] (y ∷ ys) (d ∷ ds) (f ∷ es) p q a b np nq e = absurd a
  parts_are [] (y ∷ ys) [] (f ∷ es) [] q a b np nq e = cc
  parts_are [] (y ∷ ys) [] (f ∷ es) (x ∷ p) q a b np nq e =
      let head : x ≡ y = cc in
      absurd (np f (subst (λ (z : List (List ℕ)). R z f) (sym head) b.0))
  parts_are (x ∷ xs) [] [] es p q a b np nq e = absurd a
  parts_are (x ∷ xs) [] (d ∷ ds) (f ∷ es) p q a b np nq e = absurd b
  parts_are (x ∷ xs) [] (d ∷ ds) [] p [] a b np nq e = cc
  parts_are (x ∷ xs) [] (d ∷ ds) [] p (y ∷ q) a b np nq e =
      let head : x ≡ y = cc in absurd (nq d (subst (λ (z : List (List ℕ)). R z d) head a.0))
  parts_are (x ∷ xs) (y ∷ ys) [] es p q a b np nq e = absurd a
  parts_are (x ∷ xs) (y ∷ ys) (d ∷ ds) [] p q a b np nq e = absurd b
  parts_are (x ∷ xs) (y ∷ ys) (d ∷ ds) (f ∷ es) p q a b np nq e =
      let head : x ≡ y = cc in
      let rest : xs ++ p ≡ ys ++ q = cc in
      let first = one y d f (subst (λ (z : List (List ℕ)). R z d) head a.0) b.0 in
      let more = parts_are xs ys ds es p q a.1 b.1 np nq rest in
      ((λ i. first i ∷ more.0 i), more.1)

set_no_target : (x : List (List ℕ)) (o : Orientation) (d : Direction) → IsSetRow x o
    → IsTargetRow x d → ⊥
set_no_target x o d a b =
    let texts = sym a.text ∙ b.text in
    let tags : codes "set" ≡ codes "target" = cc in
    false≢true ((bytes_eq-Decides (codes "set") (codes "target")).1 tags)

obs_no_target : (x : List (List ℕ)) (r : Row) (d : Direction) → IsObsRow x r
    → IsTargetRow x d → ⊥
obs_no_target x r d a b =
    let texts = sym a.text ∙ b.text in
    let tags : codes "obs" ≡ codes "target" = cc in
    false≢true ((bytes_eq-Decides (codes "obs") (codes "target")).1 tags)

obs_no_set : (x : List (List ℕ)) (r : Row) (o : Orientation) → IsObsRow x r
    → IsSetRow x o → ⊥
obs_no_set x r o a b =
    let texts = sym a.text ∙ b.text in
    let tags : codes "obs" ≡ codes "set" = cc in
    false≢true ((bytes_eq-Decides (codes "obs") (codes "set")).1 tags)

no_set_first : (xs : List (List (List ℕ))) (rs : List Row) → AllZip IsObsRow xs rs
    → NoneFirst IsSetRow xs
no_set_first [] rs all = tt
no_set_first (x ∷ xs) [] all = absurd all
no_set_first (x ∷ xs) (r ∷ rs) all = λ o is. obs_no_set x r o all.0 is

no_target_first : (xs ys : List (List (List ℕ))) (os : List Orientation) (rs : List Row)
    → AllZip IsSetRow xs os → AllZip IsObsRow ys rs → NoneFirst IsTargetRow (xs ++ ys)
no_target_first [] [] os rs a b = tt
no_target_first [] (y ∷ ys) os [] a b = absurd b
no_target_first [] (y ∷ ys) os (r ∷ rs) a b = λ d is. obs_no_target y r d b.0 is
no_target_first (x ∷ xs) ys [] rs a b = absurd a
no_target_first (x ∷ xs) ys (o ∷ os) rs a b = λ d is. set_no_target x o d a.0 is

-- Bytes are those of one sheet at most.
pub one_sheet_of : (bytes : List ℕ) (s t : SheetValue) → AreOfSheet bytes s → AreOfSheet bytes t
    → s ≡ t
one_sheet_of bytes s t a b =
    let rows = sym a.rows ∙ b.rows in
    let name : s.name ≡ t.name = cc in
    let text : a.denominator ≡ b.denominator = cc in
    let denominator = one_natural a.denominator b.denominator s.denominator t.denominator text
    a.has_denominator b.has_denominator in
    let body : a.targets ++ (a.sets ++ a.observations) ≡ b.targets ++ (b.sets ++ b.observations) =
    cc in
    let targets = parts_are IsTargetRow one_direction a.targets b.targets s.directions t.directions
    (a.sets ++ a.observations) (b.sets ++ b.observations) a.of_targets b.of_targets
    (no_target_first a.sets a.observations s.orientations s.rows a.of_sets a.of_observations)
    (no_target_first b.sets b.observations t.orientations t.rows b.of_sets b.of_observations) body in
    let sets = parts_are IsSetRow one_orientation a.sets b.sets s.orientations t.orientations
    a.observations b.observations a.of_sets b.of_sets
    (no_set_first a.observations s.rows a.of_observations)
    (no_set_first b.observations t.rows b.of_observations) targets.1 in
    let observations = parts_are IsObsRow one_row a.observations b.observations s.rows t.rows [] []
    a.of_observations b.of_observations tt tt
    (append-nil a.observations ∙ sets.1 ∙ sym (append-nil b.observations)) in
    λ i. record {
      name = name i;
      denominator = denominator i;
      directions = targets.0 i;
      orientations = sets.0 i;
      rows = observations.0 i;
    }
