-- Rows that are not none have one lower median, and it is found.
use Rattle.std.specs.Prelude.{cond, int_le, int_lt, nat_le, nat_lt, ◌&&◌}
use Rattle.std.specs.List.{count_by, find, list_any}
use Rattle.std.proofs.Common.{int_eq}
use Rattle.std.proofs.lemmas.List.Recursion.{is_count_by}
use Rattle.std.proofs.Common.{◌≡◌, ℕ, zero, suc, ◌+◌, ◌*◌, ◌≤◌, ◌<◌, Bool, true, false, List, []}
use Rattle.std.proofs.Common.{◌∷◌, length, ap, arith, inl, inr, refl, ℤ}
use Rattle.std.proofs.lemmas.Bool.{cases_Bool, cases_lt}
use Rattle.std.proofs.lemmas.Bool.Decides.{Decides-int_eq}
use Rattle.std.proofs.lemmas.Int.{ints}
use Rattle.std.proofs.lemmas.List.Sums.{count_by-le-length}
use Rattle.station_differences.specs.Medians.{below, difference_of, is_median, median_of, not_above}
use Rattle.station_differences.specs.declared.compared.TargetDifference.{TargetDifference}

-- The order of whole numbers, by its tests.
lt-not : (x : ℤ) → int_lt x x ≡ false
lt-not x = grind (arith, ints)

le-lt : (x a b : ℤ) → int_le x a ≡ true → int_lt a b ≡ true → int_lt x b ≡ true
le-lt x a b h k = grind (arith, ints)

lt-lt : (x a b : ℤ) → int_lt a b ≡ true → int_lt x a ≡ true → int_lt x b ≡ true
lt-lt x a b h k = grind (arith, ints)

lt-le : (x y : ℤ) → int_lt x y ≡ true → int_le x y ≡ true
lt-le x y h = grind (arith, ints)

not-le : (x y : ℤ) → int_le x y ≡ false → int_lt y x ≡ true
not-le x y h = grind (arith, ints)

same : (x y : ℤ) → int_lt x y ≡ false → int_lt y x ≡ false → x ≡ y
same x y h k = grind (arith, ints)

-- How many pass a test, counted from the end.
abbrev count : {X : Type 0} → (X → Bool) → List X → ℕ
count p [] = 0
count p (x ∷ xs) = cond (p x) (1 + count p xs) (count p xs)

count-is : {X : Type 0} (p : X → Bool) (xs : List X) → count p xs ≡ count_by p xs
count-is p xs = is_count_by (count p) p refl (λ y ys. refl) xs

-- The rows with a difference below one, and with one that is not above it.
abbrev fewer : List TargetDifference → ℤ → ℕ
fewer rows y = count (λ row. int_lt row.difference y) rows

abbrev up_to : List TargetDifference → ℤ → ℕ
up_to rows y = count (λ row. int_le row.difference y) rows

-- What passes wherever another test passes passes as often at least.
mono : {X : Type 0} (p q : X → Bool) (xs : List X) → ((x : X) → p x ≡ true → q x ≡ true)
    → count p xs ≤ count q xs
mono p q [] h = omega arith
mono p q (x ∷ xs) h =
    let rest = mono p q xs h in
    elim (cases_Bool (p x)) [
      | inl e ↦ rw (e, h x e) (omega (arith, rest))
      | inr e ↦ rw e (elim (cases_Bool (q x)) [
        | inl f ↦ rw f (omega (arith, rest))
        | inr f ↦ rw f rest
      ])
    ]

-- Whether some row has this difference.
abbrev has : List TargetDifference → ℤ → Bool
has rows y = list_any (λ row. int_eq row.difference y) rows

up : (rows : List TargetDifference) (a b : ℤ) → int_lt a b ≡ true
    → up_to rows a ≤ fewer rows b
up rows a b less = mono _ _ rows (λ row e. le-lt row.difference a b e less)

further : (rows : List TargetDifference) (a b : ℤ) → int_lt a b ≡ true → fewer rows a ≤ fewer rows b
further rows a b less = mono _ _ rows (λ row e. lt-lt row.difference a b less e)

-- The least difference of rows.
record Least (rows : List TargetDifference) : Type 0 where
  y : ℤ
  there : has rows y ≡ true
  none : fewer rows y ≡ 0

same-there : (row : TargetDifference) → int_eq row.difference row.difference ≡ true
same-there row = (Decides-int_eq row.difference row.difference).1 refl

least : (row : TargetDifference) (rows : List TargetDifference) → Least (row ∷ rows)
least row [] = record {
  y = row.difference;
  there = rw (same-there row) refl;
  none = rw (lt-not row.difference) refl;
}
least row (next ∷ rows) =
    let rest = least next rows in
    elim (cases_Bool (int_lt row.difference rest.y)) [
      | inl e ↦ record {
        y = row.difference;
        there = rw (same-there row) refl;
        none = rw (lt-not row.difference)
            (let less = further (next ∷ rows) row.difference rest.y e in
            omega (arith, less, rest.none));
      }
      | inr e ↦ record {
        y = rest.y;
        there = elim (cases_Bool (int_eq row.difference rest.y)) [
          | inl f ↦ rw f refl
          | inr f ↦ rw f rest.there
        ];
        none = rw e rest.none;
      }
    ]

-- The least difference above one, where some row has one above it.
record Next (rows : List TargetDifference) (x : ℤ) : Type 0 where
  y : ℤ
  more : int_lt x y ≡ true
  there : has rows y ≡ true
  count : fewer rows y ≡ up_to rows x

-- It is that of the rows after one that is not above, and one that is above may be it.
later : (row : TargetDifference) (rows : List TargetDifference) (x : ℤ)
    → int_le row.difference x ≡ true → Next rows x → Next (row ∷ rows) x
later row rows x e rest = record {
  y = rest.y;
  more = rest.more;
  there = elim (cases_Bool (int_eq row.difference rest.y)) [
    | inl f ↦ rw f refl
    | inr f ↦ rw f rest.there
  ];
  count = rw (e, le-lt row.difference x rest.y e rest.more) (ap (λ n. 1 + n) rest.count);
}

nearer : (row : TargetDifference) (rows : List TargetDifference) (x : ℤ)
    → int_le row.difference x ≡ false → Next rows x → Next (row ∷ rows) x
nearer row rows x e rest =
    let above = not-le row.difference x e in
    elim (cases_Bool (int_lt row.difference rest.y)) [
      | inl f ↦ record {
        y = row.difference;
        more = above;
        there = rw (same-there row) refl;
        count = rw (e, lt-not row.difference)
            (let few = up rows x row.difference above in
            let many = further rows row.difference rest.y f in
            omega (arith, few, many, rest.count));
      }
      | inr f ↦ record {
        y = rest.y;
        more = rest.more;
        there = elim (cases_Bool (int_eq row.difference rest.y)) [
          | inl g ↦ rw g refl
          | inr g ↦ rw g rest.there
        ];
        count = rw (e, f) rest.count;
      }
    ]

alone : (row : TargetDifference) (rows : List TargetDifference) (x : ℤ)
    → int_le row.difference x ≡ false → length rows ≤ up_to rows x → Next (row ∷ rows) x
alone row rows x e past =
    let above = not-le row.difference x e in
    record {
      y = row.difference;
      more = above;
      there = rw (same-there row) refl;
      count = rw (e, lt-not row.difference)
          (let few = up rows x row.difference above in
          let most = count_by-le-length
          (λ (r : TargetDifference). int_lt r.difference row.difference) rows in
          let is = count-is
          (λ (r : TargetDifference). int_lt r.difference row.difference) rows in
          omega (arith, few, most, is, past));
    }

next-of : (rows : List TargetDifference) (x : ℤ) → up_to rows x < length rows → Next rows x
next-of [] x h = absurd (omega (arith, h))
next-of (row ∷ rows) x h = elim (cases_Bool (int_le row.difference x)) [
  | inl e ↦ let less = rw e at h in later row rows x e (next-of rows x (omega (arith, less)))
  | inr e ↦ elim (cases_lt (up_to rows x) (length rows)) [
    | inl inside ↦ nearer row rows x e (next-of rows x inside)
    | inr past ↦ alone row rows x e past
  ]
]

-- A row with a difference is one more that is not above it.
one-more : (rows : List TargetDifference) (y : ℤ) → has rows y ≡ true
    → fewer rows y + 1 ≤ up_to rows y
one-more [] y h = cc h
one-more (row ∷ rows) y h =
    let few = mono (λ (r : TargetDifference). int_lt r.difference y)
    (λ (r : TargetDifference). int_le r.difference y) rows (λ r e. lt-le r.difference y e) in
    elim (cases_Bool (int_eq row.difference y)) [
      | inl e ↦
          let is = (Decides-int_eq row.difference y).0 e in
          let no : int_lt row.difference y ≡ false = rw is (lt-not y) in
          let yes : int_le row.difference y ≡ true = rw is (grind (arith, ints)) in
          rw (no, yes) (omega (arith, few))
      | inr e ↦
          let rest = one-more rows y (rw e at h) in
          elim (cases_Bool (int_lt row.difference y)) [
            | inl f ↦ rw (f, lt-le row.difference y f) (omega (arith, rest))
            | inr f ↦ rw f (elim (cases_Bool (int_le row.difference y)) [
              | inl g ↦ rw g (omega (arith, rest))
              | inr g ↦ rw g rest
            ])
          ]
    ]

-- What passes the test of a difference is found.
passes : (rows : List TargetDifference) (y : ℤ) (p : ℤ → Bool) → has rows y ≡ true → p y ≡ true
    → p (difference_of (find (λ row. p row.difference) rows)) ≡ true
passes [] y p h k = cc h
passes (row ∷ rows) y p h k = elim (cases_Bool (p row.difference)) [
  | inl e ↦ rw e e
  | inr e ↦ rw e (elim (cases_Bool (int_eq row.difference y)) [
    | inl f ↦ cc ((Decides-int_eq row.difference y).0 f, e, k)
    | inr f ↦ passes rows y p (rw f at h) k
  ])
]

-- Both halves of being the median.
halves-make : (b n k : ℕ) → 2 * b < n → n ≤ 2 * k → (nat_lt (2 * b) n && nat_le n (2 * k)) ≡ true
halves-make b n k h l = grind arith

halves-break : (b n k : ℕ) → (nat_lt (2 * b) n && nat_le n (2 * k)) ≡ true
    → (2 * b < n) × (n ≤ 2 * k)
halves-break b n k h = grind arith

both : (rows : List TargetDifference) (y : ℤ) → 2 * fewer rows y < length rows
    → length rows ≤ 2 * up_to rows y → is_median rows y ≡ true
both rows y h k =
    let few = count-is (λ (r : TargetDifference). int_lt r.difference y) rows in
    let many = count-is (λ (r : TargetDifference). int_le r.difference y) rows in
    let b : 2 * below rows y < length rows = omega (arith, h, few) in
    let n : length rows ≤ 2 * not_above rows y = omega (arith, k, many) in
    halves-make _ _ _ b n

climb : (fuel : ℕ) (rows : List TargetDifference) (x : ℤ) → has rows x ≡ true
    → 2 * fewer rows x < length rows → length rows ≤ fuel + up_to rows x
    → is_median rows (median_of rows) ≡ true
climb zero rows x there few enough =
    passes rows x (is_median rows) there (both rows x few (omega (arith, enough)))
climb (suc fuel) rows x there few enough =
    elim (cases_lt (2 * up_to rows x) (length rows)) [
      | inl less ↦
          let next = next-of rows x (omega (arith, less)) in
          let one = one-more rows next.y next.there in
          climb fuel rows next.y next.there (omega (arith, less, next.count))
          (omega (arith, enough, one, next.count))
      | inr enough ↦ passes rows x (is_median rows) there (both rows x few enough)
    ]

-- The median that is found is one.
pub is : (rows : List TargetDifference) → 1 ≤ length rows → is_median rows (median_of rows) ≡ true
is [] some = absurd (omega (arith, some))
is (row ∷ rows) some =
    let first = least row rows in
    climb (length (row ∷ rows)) (row ∷ rows) first.y first.there
    (omega (arith, first.none, some)) (omega arith)

-- And no other is.
halves : (rows : List TargetDifference) (y : ℤ) → is_median rows y ≡ true
    → (2 * fewer rows y < length rows) × (length rows ≤ 2 * up_to rows y)
halves rows y h =
    let few = count-is (λ (r : TargetDifference). int_lt r.difference y) rows in
    let many = count-is (λ (r : TargetDifference). int_le r.difference y) rows in
    let (b, n) = halves-break (below rows y) (length rows) (not_above rows y) h in
    (omega (arith, b, few), omega (arith, n, many))

pub only : (rows : List TargetDifference) (a b : ℤ) → is_median rows a ≡ true
    → is_median rows b ≡ true → a ≡ b
only rows a b m n =
    let (few, many) = halves rows a m in
    let (less, more) = halves rows b n in
    elim (cases_Bool (int_lt a b)) [
      | inl e ↦ let past = up rows a b e in absurd (omega (arith, many, less, past))
      | inr e ↦ elim (cases_Bool (int_lt b a)) [
        | inl f ↦ let past = up rows b a f in absurd (omega (arith, more, few, past))
        | inr f ↦ same a b e f
      ]
    ]
