-- What is in a list, and in one that is made of other lists.
use Rattle.std.proofs.Common.{◌≡◌, ℕ, zero, suc, ◌+◌, ◌<◌, arith, Bool, true, List, [], ◌∷◌, ◌++◌}
use Rattle.std.proofs.Common.{length, map, filter, reverse, get_or, Option, Some, None, refl, sym}
use Rattle.std.proofs.Common.{ap, ◌∙◌, inl, inr, ◌⊎◌, subst, false, find}
use Rattle.std.specs.List.{AllZip, Contains, enumerate_from, filter_map, flat_map, cons_option}
use Rattle.std.specs.List.{list_any, AllByRecursion}
use Rattle.std.proofs.lemmas.Bool.{cases_Bool, or_cases, false≢true, or_left, or_right}
use Rattle.std.proofs.lemmas.List.{reverse-reverse, reverse-append}
use Rattle.std.specs.Str.{bytes_eq}
use Rattle.std.proofs.lemmas.Slice.Eq.{bytes_eq-Decides}

module _ {X : Type 0} where
  -- x is an element of the list
  abbrev pub In : X → List X → Type 0
  In x [] = ⊥
  In x (y ∷ ys) = (x ≡ y) ⊎ In x ys

  -- Where an element passes a test, the test finds one.
  pub any_from : (p : X → Bool) (x : X) (xs : List X) → In x xs → p x ≡ true → list_any p xs ≡ true
  any_from p x [] h e = absurd h
  any_from p x (y ∷ ys) (inl h) e = or_left (p y) (list_any p ys) (sym (ap p h) ∙ e)
  any_from p x (y ∷ ys) (inr h) e = or_right (p y) (list_any p ys) (any_from p x ys h e)

  -- Where a test finds an element, one passes it.
  pub any_to : (p : X → Bool) (xs : List X) → list_any p xs ≡ true
      → (x : X) × In x xs × (p x ≡ true)
  any_to p [] e = absurd (false≢true e)
  any_to p (y ∷ ys) e = elim (or_cases (p y) (list_any p ys) e) [
    | inl h ↦ (y, inl refl, h)
    | inr h ↦ let r = any_to p ys h in (r.0, inr r.1, r.2)
  ]

  -- What is found in a list is an element of it, and passes the test.
  pub find_some : (p : X → Bool) (x : X) (xs : List X) → find p xs ≡ Some x → In x xs × (p x ≡ true)
  find_some p x [] e = cc
  find_some p x (y ∷ ys) e = elim (cases_Bool (p y)) [
    | inl h ↦ let f : Some y ≡ Some x = rw h at e in let g : y ≡ x = cc in
        (inl (sym g), sym (ap p g) ∙ h)
    | inr h ↦ let r = find_some p x ys (rw h at e) in (inr r.0, r.1)
  ]

  -- Where an element passes the test, something is found.
  pub find_found : (p : X → Bool) (x : X) (xs : List X) → In x xs → p x ≡ true → find p xs ≡ None
      → ⊥
  find_found p x [] h e n = h
  find_found p x (y ∷ ys) (inl h) e n = let g : Some y ≡ None = rw (sym (ap p h) ∙ e) at n in cc
  find_found p x (y ∷ ys) (inr h) e n = elim (cases_Bool (p y)) [
    | inl f ↦ let g : Some y ≡ None = rw f at n in cc
    | inr f ↦ find_found p x ys h e (rw f at n)
  ]

  -- What holds of each element of a list holds of this one.
  pub all_in : (P : X → Type 0) (x : X) (xs : List X) → AllByRecursion P xs → In x xs → P x
  all_in P x [] all h = absurd h
  all_in P x (y ∷ ys) all (inl h) = subst P (sym h) all.0
  all_in P x (y ∷ ys) all (inr h) = all_in P x ys all.1 h

  -- What holds of whatever is in a list holds of each of its elements.
  pub all_from : (P : X → Type 0) (xs : List X) → ((x : X) → In x xs → P x) → AllByRecursion P xs
  all_from P [] each = tt
  all_from P (y ∷ ys) each = (each y (inl refl), all_from P ys (λ x h. each x (inr h)))

-- tests that imply each other are one
pub same_test : (a b : Bool) → (a ≡ true → b ≡ true) → (b ≡ true → a ≡ true) → a ≡ b
same_test true b f g = sym (f refl)
same_test false true f g = g refl
same_test false false f g = refl

-- names are compared either way
pub same_bytes : (a b : List ℕ) → bytes_eq a b ≡ bytes_eq b a
same_bytes a b = same_test (bytes_eq a b) (bytes_eq b a) (turned a b) (turned b a) where
  turned : (x y : List ℕ) → bytes_eq x y ≡ true → bytes_eq y x ≡ true
  turned x y e = (bytes_eq-Decides y x).1 (sym ((bytes_eq-Decides x y).0 e))

-- What a list contains is in it.
pub in_contains : {X : Type 0} (x : X) (xs : List X) → Contains xs x → In x xs
in_contains x [] c = absurd (let lt = c.1 in omega arith)
in_contains x (y ∷ ys) (zero, lt, e) = inl (sym e)
in_contains x (y ∷ ys) (suc k, lt, e) = inr (in_contains x ys (k, omega arith, e))

-- What is in a list it contains.
pub contains_in : {X : Type 0} (x : X) (xs : List X) → In x xs → Contains xs x
contains_in x [] listed = absurd listed
contains_in x (y ∷ ys) (inl e) = (0, omega arith, sym e)
contains_in x (y ∷ ys) (inr later) = let c = contains_in x ys later in
    (suc c.0, (let lt = c.1 in omega arith), c.2)

module _ {X : Type 0} where
  -- What is in the first of two lists is in both joined.
  pub in_left : (x : X) (xs ys : List X) → In x xs → In x (xs ++ ys)
  in_left x [] ys h = absurd h
  in_left x (y ∷ xs) ys (inl h) = inl h
  in_left x (y ∷ xs) ys (inr h) = inr (in_left x xs ys h)

  -- What is in the second of two lists is in both joined.
  pub in_right : (x : X) (xs ys : List X) → In x ys → In x (xs ++ ys)
  in_right x [] ys h = h
  in_right x (y ∷ xs) ys h = inr (in_right x xs ys h)

  of_append : (x : X) (xs ys : List X) → In x (xs ++ ys) → In x xs ⊎ In x ys
  of_append x [] ys h = inr h
  of_append x (y ∷ xs) ys (inl h) = inl (inl h)
  of_append x (y ∷ xs) ys (inr h) = elim (of_append x xs ys h) [
    | inl k ↦ inl (inr k)
    | inr k ↦ inr k
  ]

  -- What is in a list is in its reverse.
  pub in_reverse : (x : X) (xs : List X) → In x xs → In x (reverse xs)
  in_reverse x [] h = absurd h
  in_reverse x (y ∷ ys) (inl e) = rw (reverse-append (y ∷ []) ys)
      (in_right x (reverse ys) (y ∷ []) (inl e))
  in_reverse x (y ∷ ys) (inr k) = rw (reverse-append (y ∷ []) ys)
      (in_left x (reverse ys) (y ∷ []) (in_reverse x ys k))

  -- What is in the reverse of a list is in the list.
  pub of_reverse : (x : X) (xs : List X) → In x (reverse xs) → In x xs
  of_reverse x xs h = subst (In x) (reverse-reverse xs) (in_reverse x (reverse xs) h)

  -- What is in a list and passes the test is kept by the filter.
  pub in_filter : (p : X → Bool) (x : X) (xs : List X) → In x xs → p x ≡ true → In x (filter p xs)
  in_filter p x [] h e = absurd h
  in_filter p x (y ∷ ys) (inl k) e = rw (sym (ap p k) ∙ e) (inl k)
  in_filter p x (y ∷ ys) (inr k) e = elim (cases_Bool (p y)) [
    | inl t ↦ rw t (inr (in_filter p x ys k e))
    | inr f ↦ rw f (in_filter p x ys k e)
  ]

  -- What a filter keeps is in the list and passes the test.
  pub of_filter : (p : X → Bool) (x : X) (xs : List X) → In x (filter p xs) → In x xs × (p x ≡ true)
  of_filter p x [] h = absurd h
  of_filter p x (y ∷ ys) h = elim (cases_Bool (p y)) [
    | inl t ↦ elim (rw t at h) as (λ _. In x (y ∷ ys) × (p x ≡ true)) [
      | inl k ↦ (inl k, ap p k ∙ t)
      | inr k ↦ let r = of_filter p x ys k in (inr r.0, r.1)
    ]
    | inr f ↦ let r = of_filter p x ys (rw f at h) in (inr r.0, r.1)
  ]

  -- this element stands at this place of the list
  pub record IsAt (xs : List X) (k : ℕ) (x : X) : Type 0 where
    pub inside : k < length xs
    pub value : (d : X) → get_or xs k d ≡ x

  -- What is in a list stands at some place of it.
  pub place_in : (xs : List X) (x : X) → In x xs → (k : ℕ) × IsAt xs k x
  place_in [] x h = absurd h
  place_in (y ∷ ys) x (inl e) = (0, record { inside = omega arith; value = λ d. sym e })
  place_in (y ∷ ys) x (inr h) = let r = place_in ys x h in
      (suc r.0, record { inside = (let lt = r.1.inside in omega arith); value = λ d. r.1.value d })

  in_enumerate : (n : ℕ) (xs : List X) (k : ℕ) (x : X) → IsAt xs k x
      → In (n + k, x) (enumerate_from n xs)
  in_enumerate n [] k x at = absurd (let lt = at.inside in omega arith)
  in_enumerate n (y ∷ ys) zero x at =
      let here : n + 0 ≡ n = omega arith in inl (λ i. (here i, sym (at.value x) i))
  in_enumerate n (y ∷ ys) (suc k) x at =
      let rest = in_enumerate (n + 1) ys k x
      (record { inside = (let lt = at.inside in omega arith); value = λ d. at.value d }) in
      let moved : (n + 1) + k ≡ n + suc k = omega arith in
      inr (subst (λ (m : ℕ). In (m, x) (enumerate_from (n + 1) ys)) moved rest)

  of_enumerate : (n : ℕ) (xs : List X) (e : ℕ × X) → In e (enumerate_from n xs)
      → (k : ℕ) × (e.0 ≡ n + k) × IsAt xs k e.1 × In e.1 xs
  of_enumerate n [] e h = absurd h
  of_enumerate n (y ∷ ys) e (inl q) =
      let zeroth : e.0 ≡ n + 0 = ap (λ (p : ℕ × X). p.0) q ∙ (omega arith) in (
        0,
        zeroth,
        record { inside = omega arith; value = λ d. sym (ap (λ (p : ℕ × X). p.1) q) },
        inl (ap (λ (p : ℕ × X). p.1) q),
      )
  of_enumerate n (y ∷ ys) e (inr h) =
      let r = of_enumerate (n + 1) ys e h in
      let moved : e.0 ≡ n + suc r.0 = r.1 ∙ (omega arith) in
      let at : IsAt (y ∷ ys) (suc r.0) e.1 =
      record { inside = (let lt = r.2.inside in omega arith); value = λ d. r.2.value d } in
      (suc r.0, moved, at, inr r.3)

module _ {X Y : Type 0} where
  -- What an element becomes is in the list of what all become.
  pub in_map : (f : X → Y) (x : X) (xs : List X) → In x xs → In (f x) (map f xs)
  in_map f x [] h = absurd h
  in_map f x (y ∷ ys) (inl e) = inl (ap f e)
  in_map f x (y ∷ ys) (inr h) = inr (in_map f x ys h)

  -- What is in that list is what some element becomes.
  pub of_map : (f : X → Y) (y : Y) (xs : List X) → In y (map f xs) → (x : X) × In x xs × (f x ≡ y)
  of_map f y [] h = absurd h
  of_map f y (x ∷ xs) (inl e) = (x, inl refl, sym e)
  of_map f y (x ∷ xs) (inr h) = let r = of_map f y xs h in (r.0, inr r.1, r.2)

  -- What an element gives is in the list of what all give, where not all give something.
  pub in_filter_map : (f : X → Option Y) (x : X) (y : Y) (xs : List X) → In x xs → f x ≡ Some y
      → In y (filter_map f xs)
  in_filter_map f x y [] h e = absurd h
  in_filter_map f x y (z ∷ zs) (inl q) e = rw (sym (ap f q) ∙ e) (inl refl)
  in_filter_map f x y (z ∷ zs) (inr h) e = more (f z) (in_filter_map f x y zs h e) where
    more : (o : Option Y) → In y (filter_map f zs) → In y (cons_option o (filter_map f zs))
    more None k = k
    more (Some v) k = inr k

  -- What is in that list was given by some element.
  pub of_filter_map : (f : X → Option Y) (y : Y) (xs : List X) → In y (filter_map f xs)
      → (x : X) × In x xs × (f x ≡ Some y)
  of_filter_map f y [] h = absurd h
  of_filter_map f y (z ∷ zs) h = split (f z) refl h (of_filter_map f y zs) where
    split : (o : Option Y) → f z ≡ o → In y (cons_option o (filter_map f zs))
        → (In y (filter_map f zs) → (x : X) × In x zs × (f x ≡ Some y))
        → (x : X) × In x (z ∷ zs) × (f x ≡ Some y)
    split None e k rest = let r = rest k in (r.0, inr r.1, r.2)
    split (Some v) e (inl q) rest = (z, inl refl, e ∙ ap (λ (w : Y). Some w) (sym q))
    split (Some v) e (inr k) rest = let r = rest k in (r.0, inr r.1, r.2)

  -- What is in the list that an element gives is in the lists of all, joined.
  pub in_flat_map : (f : X → List Y) (x : X) (y : Y) (xs : List X) → In x xs → In y (f x)
      → In y (flat_map f xs)
  in_flat_map f x y [] h k = absurd h
  in_flat_map f x y (z ∷ zs) (inl q) k = in_left y (f z) (flat_map f zs)
      (subst (λ (w : X). In y (f w)) q k)
  in_flat_map f x y (z ∷ zs) (inr h) k = in_right y (f z) (flat_map f zs) (in_flat_map f x y zs h k)

  -- What is in the joined lists is in the list that some element gives.
  pub of_flat_map : (f : X → List Y) (y : Y) (xs : List X) → In y (flat_map f xs)
      → (x : X) × In x xs × In y (f x)
  of_flat_map f y [] h = absurd h
  of_flat_map f y (z ∷ zs) h = elim (of_append y (f z) (flat_map f zs) h) [
    | inl k ↦ (z, inl refl, k)
    | inr k ↦ let r = of_flat_map f y zs k in (r.0, inr r.1, r.2)
  ]

  -- Of two lists that match, each element of the first has its match in the second.
  pub zip_right : (R : X → Y → Type 0) (xs : List X) (ys : List Y) → AllZip R xs ys → (x : X)
      → In x xs → (y : Y) × In y ys × R x y
  zip_right R [] ys zip x h = absurd h
  zip_right R (z ∷ zs) [] zip x h = absurd zip
  zip_right R (z ∷ zs) (y ∷ ys) zip x (inl e) =
      (y, inl refl, subst (λ (w : X). R w y) (sym e) zip.0)
  zip_right R (z ∷ zs) (y ∷ ys) zip x (inr h) = let r = zip_right R zs ys zip.1 x h in
      (r.0, inr r.1, r.2)

  -- Of two lists that match, each element of the second has its match in the first.
  pub zip_left : (R : X → Y → Type 0) (xs : List X) (ys : List Y) → AllZip R xs ys → (y : Y)
      → In y ys → (x : X) × In x xs × R x y
  zip_left R xs [] zip y h = absurd h
  zip_left R [] (z ∷ zs) zip y h = absurd zip
  zip_left R (x ∷ xs) (z ∷ zs) zip y (inl e) = (x, inl refl, subst (λ (w : Y). R x w) (sym e) zip.0)
  zip_left R (x ∷ xs) (z ∷ zs) zip y (inr h) = let r = zip_left R xs zs zip.1 y h in
      (r.0, inr r.1, r.2)

  -- what stands at one place of two lists
  pub matched : (f : X → Option Y) (xs : List X) (ys : List Y) → map f xs ≡ map (λ y. Some y) ys
      → (k : ℕ) (x : X) → IsAt xs k x → (d : Y) → f x ≡ Some (get_or ys k d)
  matched f [] ys e k x at d = absurd (let lt = at.inside in omega arith)
  matched f (z ∷ zs) [] e k x at d = cc
  matched f (z ∷ zs) (y ∷ ys) e zero x at d =
      let heads : f z ≡ Some y = cc in ap f (sym (at.value x)) ∙ heads
  matched f (z ∷ zs) (y ∷ ys) e (suc k) x at d =
      let tails : map f zs ≡ map (λ y. Some y) ys = cc in
      matched f zs ys tails k x
      (record { inside = (let lt = at.inside in omega arith); value = λ d. at.value d }) d

-- What is listed with a place, from 0, stands at that place.
pub of_places : {X : Type 0} (xs : List X) (e : ℕ × X) → In e (enumerate_from 0 xs)
    → (k : ℕ) × (e.0 ≡ k) × IsAt xs k e.1 × In e.1 xs
of_places xs e h = let r = of_enumerate 0 xs e h in (r.0, r.1 ∙ (omega arith), r.2, r.3)

-- What stands at a place is listed with it.
pub in_places : {X : Type 0} (xs : List X) (k : ℕ) (x : X) → IsAt xs k x
    → In (k, x) (enumerate_from 0 xs)
in_places xs k x at = subst (λ (m : ℕ). In (m, x) (enumerate_from 0 xs)) (omega arith)
    (in_enumerate 0 xs k x at)
