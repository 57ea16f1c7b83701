-- A set that repeats another has a flaw where that one has.
use Rattle.std.proofs.Common.{◌≡◌, ℕ, zero, suc, ◌-◌, ◌*◌, ◌/◌, ◌<◌, Bool, true, false, ◌&&◌, ◌||◌}
use Rattle.std.proofs.Common.{not, List, [], ◌∷◌, length, take, Option, Some, None, refl, sym, ap}
use Rattle.std.proofs.Common.{◌∙◌, inl, inr, arith}
use Rattle.std.specs.Prelude.{slice_get, is_none, nat_lt, ⊤}
use Rattle.std.specs.List.{list_all, list_any}
use Rattle.std.specs.Str.{bytes_eq}
use Rattle.std.proofs.lemmas.Bool.{cases_Bool, and_parts, or_left, or_right, lt-ltb}
use Rattle.std.proofs.lemmas.Slice.Eq.{bytes_eq-Decides}
use Rattle.station_book.specs.Faults.{first_of}
use Rattle.set_marks.specs.declared.bounds.TheConstants.{MOST_READINGS}
use Rattle.set_marks.specs.declared.flaw.Flaw.{Flaw}
use Rattle.set_marks.specs.declared.fault.MarkKind.{MarkKind}
use Rattle.set_marks.specs.declared.fault.MarkKind.TheVariants as kinds
use Rattle.set_marks.specs.declared.sight.Sight.{Sight}
use Rattle.set_marks.specs.Divisions.{is_of, is_same_face, is_again, is_pair, flaw_when, flaw_found}
use Rattle.set_marks.specs.Divisions.{again_from, again_in, alone_among, alone_in, are_in_face}
use Rattle.set_marks.specs.Divisions.{is_by_faces, is_by_targets, are_read_alike, last_target}
use Rattle.set_marks.specs.Divisions.{readings_flaw, order_flaw, set_flaw, known_in}
use Rattle.set_marks.specs.Divisions.{is_mostly_known}
use Rattle.set_marks.specs.Searching.{repeats}
use Rattle.set_marks.proofs.Few.{none_of_two, none_of_three}

-- Both are of one target, in one face.
pub record IsLike (a b : Sight) : Type 0 where
  pub target : b.target ≡ a.target
  pub second : b.second ≡ a.second

-- the same of each, in order
abbrev AllLike : List Sight → List Sight → Type 0
AllLike [] [] = ⊤
AllLike (a ∷ xs) (b ∷ ys) = IsLike a b × AllLike xs ys
AllLike xs ys = ⊥

pub same_face : (x y : Bool) → is_same_face x y ≡ true → x ≡ y
same_face true true e = refl
same_face false false e = refl
same_face true false e = cc
same_face false true e = cc

is_like : (a b : Sight) → is_again a b ≡ true → IsLike a b
is_like a b e =
    let parts = and_parts (is_of a.target b) (is_same_face a.second b.second) e in record {
      target = (bytes_eq-Decides b.target a.target).0 parts.0;
      second = sym (same_face a.second b.second parts.1);
    }

all_like : (xs ys : List Sight) → repeats xs ys ≡ true → AllLike xs ys
all_like [] [] e = tt
all_like (a ∷ xs) (b ∷ ys) e =
    let parts = and_parts (is_again a b) (repeats xs ys) e in
    (is_like a b parts.0, all_like xs ys parts.1)
all_like [] (b ∷ ys) e = cc
all_like (a ∷ xs) [] e = cc

like_length : (xs ys : List Sight) → AllLike xs ys → length xs ≡ length ys
like_length [] [] l = refl
like_length (a ∷ xs) (b ∷ ys) l = ap suc (like_length xs ys l.1)
like_length [] (b ∷ ys) l = absurd l
like_length (a ∷ xs) [] l = absurd l

like_take : (n : ℕ) (xs ys : List Sight) → AllLike xs ys → AllLike (take n xs) (take n ys)
like_take zero xs ys l = tt
like_take (suc n) [] [] l = tt
like_take (suc n) (a ∷ xs) (b ∷ ys) l = (l.0, like_take n xs ys l.1)
like_take (suc n) [] (b ∷ ys) l = absurd l
like_take (suc n) (a ∷ xs) [] l = absurd l

-- What does not differ between readings that are alike is found among both, or among none.
any_like : (p q : Sight → Bool) → ((a b : Sight) → IsLike a b → p a ≡ q b)
    → (xs ys : List Sight) → AllLike xs ys → list_any p xs ≡ list_any q ys
any_like p q same [] [] l = refl
any_like p q same (a ∷ xs) (b ∷ ys) l =
    λ i. same a b l.0 i || any_like p q same xs ys l.1 i
any_like p q same [] (b ∷ ys) l = absurd l
any_like p q same (a ∷ xs) [] l = absurd l

all_alike : (p q : Sight → Bool) → ((a b : Sight) → IsLike a b → p a ≡ q b)
    → (xs ys : List Sight) → AllLike xs ys → list_all p xs ≡ list_all q ys
all_alike p q same [] [] l = refl
all_alike p q same (a ∷ xs) (b ∷ ys) l =
    λ i. same a b l.0 i && all_alike p q same xs ys l.1 i
all_alike p q same [] (b ∷ ys) l = absurd l
all_alike p q same (a ∷ xs) [] l = absurd l

again_like : (r s a b : Sight) → IsLike r s → IsLike a b → is_again r a ≡ is_again s b
again_like r s a b l m = sym (λ i. bytes_eq (m.target i) (l.target i)
    && is_same_face (l.second i) (m.second i))

pair_like : (r s a b : Sight) → IsLike r s → IsLike a b → is_pair r a ≡ is_pair s b
pair_like r s a b l m = sym (λ i. bytes_eq (m.target i) (l.target i)
    && not (is_same_face (l.second i) (m.second i)))

again_none : (all others : List Sight) (at : ℕ) (xs ys : List Sight) → AllLike all others
    → AllLike xs ys → is_none (again_from all at xs) ≡ is_none (again_from others at ys)
again_none all others at [] [] w l = refl
again_none all others at (a ∷ xs) (b ∷ ys) w l =
    let same : list_any (is_again a) (take at all) ≡ list_any (is_again b) (take at others) =
    any_like (is_again a) (is_again b) (λ x y m. again_like a b x y l.0 m) (take at all)
    (take at others) (like_take at all others w) in
    elim (cases_Bool (list_any (is_again a) (take at all))) [
      | inl h ↦ rw (h, sym same ∙ h) refl
      | inr h ↦ rw (h, sym same ∙ h) (again_none all others (suc at) xs ys w l.1)
    ]
again_none all others at [] (b ∷ ys) w l = absurd l
again_none all others at (a ∷ xs) [] w l = absurd l

alone_none : (all others xs ys : List Sight) → AllLike all others → AllLike xs ys
    → is_none (alone_among all xs) ≡ is_none (alone_among others ys)
alone_none all others [] [] w l = refl
alone_none all others (a ∷ xs) (b ∷ ys) w l =
    let same : list_any (is_pair a) all ≡ list_any (is_pair b) others =
    any_like (is_pair a) (is_pair b) (λ x y m. pair_like a b x y l.0 m) all others w in
    elim (cases_Bool (list_any (is_pair a) all)) [
      | inl h ↦ rw (h, sym same ∙ h) (alone_none all others xs ys w l.1)
      | inr h ↦ rw (h, sym same ∙ h) refl
    ]
alone_none all others [] (b ∷ ys) w l = absurd l
alone_none all others (a ∷ xs) [] w l = absurd l

face_like : (x y : Bool) (xs ys : List Sight) → y ≡ x → AllLike xs ys
    → are_in_face x xs ≡ are_in_face y ys
face_like x y xs ys e l = all_alike (λ r. is_same_face x r.second) (λ r. is_same_face y r.second)
    (λ a b m. sym (λ i. is_same_face (e i) (m.second i))) xs ys l

by_faces_like : (xs ys : List Sight) → AllLike xs ys → is_by_faces xs ≡ is_by_faces ys
by_faces_like [] [] l = refl
by_faces_like (a ∷ xs) (b ∷ ys) l =
    let n = length (a ∷ xs) / 2 in
    let half : length (a ∷ xs) / 2 ≡ length (b ∷ ys) / 2 =
    ap (λ (k : ℕ). k / 2) (like_length (a ∷ xs) (b ∷ ys) l) in
    face_like a.second b.second (take n (a ∷ xs)) (take n (b ∷ ys)) l.0.second
    (like_take n (a ∷ xs) (b ∷ ys) l)
    ∙ ap (λ (k : ℕ). are_in_face b.second (take k (b ∷ ys))) half
by_faces_like [] (b ∷ ys) l = absurd l
by_faces_like (a ∷ xs) [] l = absurd l

by_targets_like : (xs ys : List Sight) → AllLike xs ys → is_by_targets xs ≡ is_by_targets ys
by_targets_like [] [] l = refl
by_targets_like (a ∷ []) (b ∷ []) l = refl
by_targets_like (a ∷ c ∷ xs) (b ∷ d ∷ ys) l =
    λ i. pair_like a b c d l.0 l.1.0 i && by_targets_like xs ys l.1.1 i
by_targets_like [] (b ∷ ys) l = absurd l
by_targets_like (a ∷ xs) [] l = absurd l
by_targets_like (a ∷ []) (b ∷ d ∷ ys) l = absurd l.1
by_targets_like (a ∷ c ∷ xs) (b ∷ []) l = absurd l.1

last_like : (xs ys : List Sight) → AllLike xs ys → last_target xs ≡ last_target ys
last_like [] [] l = refl
last_like (a ∷ []) (b ∷ []) l = sym l.0.target
last_like (a ∷ c ∷ xs) (b ∷ d ∷ ys) l = last_like (c ∷ xs) (d ∷ ys) l.1
last_like [] (b ∷ ys) l = absurd l
last_like (a ∷ xs) [] l = absurd l
last_like (a ∷ []) (b ∷ d ∷ ys) l = absurd l.1
last_like (a ∷ c ∷ xs) (b ∷ []) l = absurd l.1

-- Nothing is said to be wrong where nothing is found, or where the test fails.
nothing_found : (kind : MarkKind) (o : Option Sight) → flaw_found kind o ≡ None
    → is_none o ≡ true
nothing_found kind None e = refl
nothing_found kind (Some r) e = cc

found_nothing : (kind : MarkKind) (o : Option Sight) → is_none o ≡ true
    → flaw_found kind o ≡ None
found_nothing kind None e = refl
found_nothing kind (Some r) e = cc

test_failed : (b : Bool) (kind : MarkKind) (o : Option Sight) → flaw_when b kind o ≡ None
    → b ≡ false
test_failed true kind o e = cc
test_failed false kind o e = refl

failed_test : (b : Bool) (kind : MarkKind) (o : Option Sight) → b ≡ false
    → flaw_when b kind o ≡ None
failed_test true kind o e = cc
failed_test false kind o e = refl

two_none : (a b : Option Flaw) → a ≡ None → b ≡ None → first_of (a ∷ b ∷ []) ≡ None
two_none a b e f = rw (e, f) refl

three_none : (a b c : Option Flaw) → a ≡ None → b ≡ None → c ≡ None
    → first_of (a ∷ b ∷ c ∷ []) ≡ None
three_none a b c e f g = rw (e, f, g) refl

readings_clean : (xs ys : List Sight) → AllLike xs ys → readings_flaw xs ≡ None
    → readings_flaw ys ≡ None
readings_clean xs ys l e =
    let n = suc MOST_READINGS in
    let each = none_of_three (flaw_found kinds.ReadTwice (again_in (take n xs)))
    (flaw_when (nat_lt MOST_READINGS (length xs)) kinds.TooManyTargets (slice_get xs MOST_READINGS))
    (flaw_found kinds.FaceMissing (alone_in xs)) e in
    let front = like_take n xs ys l in
    three_none (flaw_found kinds.ReadTwice (again_in (take n ys)))
    (flaw_when (nat_lt MOST_READINGS (length ys)) kinds.TooManyTargets (slice_get ys MOST_READINGS))
    (flaw_found kinds.FaceMissing (alone_in ys))
    (found_nothing kinds.ReadTwice (again_in (take n ys))
    (sym (again_none (take n xs) (take n ys) 0 (take n xs) (take n ys) front front)
    ∙ nothing_found kinds.ReadTwice (again_in (take n xs)) each.0))
    (failed_test (nat_lt MOST_READINGS (length ys)) kinds.TooManyTargets
    (slice_get ys MOST_READINGS)
    (ap (λ (k : ℕ). nat_lt MOST_READINGS k) (sym (like_length xs ys l))
    ∙ test_failed (nat_lt MOST_READINGS (length xs)) kinds.TooManyTargets
    (slice_get xs MOST_READINGS) each.1))
    (found_nothing kinds.FaceMissing (alone_in ys) (sym (alone_none xs ys xs ys l l)
    ∙ nothing_found kinds.FaceMissing (alone_in xs) each.2))

read_alike : (first xs ys : List Sight) → AllLike xs ys
    → are_read_alike first xs ≡ are_read_alike first ys
read_alike first xs ys l = λ i. (is_by_faces first && by_faces_like xs ys l i)
    || (is_by_targets first && by_targets_like xs ys l i)

order_clean : (first xs ys : List Sight) → AllLike xs ys → order_flaw first xs ≡ None
    → order_flaw first ys ≡ None
order_clean first xs ys l e =
    let each = none_of_three (flaw_when (nat_lt (length xs) 4) kinds.OneTarget (slice_get xs 0))
    (flaw_when (not (are_read_alike first xs)) kinds.Order (slice_get xs (length xs / 2)))
    (flaw_when (not (bytes_eq (last_target first) (last_target xs))) kinds.EndsElsewhere
    (slice_get xs (length xs - 1))) e in
    three_none (flaw_when (nat_lt (length ys) 4) kinds.OneTarget (slice_get ys 0))
    (flaw_when (not (are_read_alike first ys)) kinds.Order (slice_get ys (length ys / 2)))
    (flaw_when (not (bytes_eq (last_target first) (last_target ys))) kinds.EndsElsewhere
    (slice_get ys (length ys - 1)))
    (failed_test (nat_lt (length ys) 4) kinds.OneTarget (slice_get ys 0)
    (ap (λ (k : ℕ). nat_lt k 4) (sym (like_length xs ys l))
    ∙ test_failed (nat_lt (length xs) 4) kinds.OneTarget (slice_get xs 0) each.0))
    (failed_test (not (are_read_alike first ys)) kinds.Order (slice_get ys (length ys / 2))
    (ap not (sym (read_alike first xs ys l))
    ∙ test_failed (not (are_read_alike first xs)) kinds.Order (slice_get xs (length xs / 2))
    each.1))
    (failed_test (not (bytes_eq (last_target first) (last_target ys))) kinds.EndsElsewhere
    (slice_get ys (length ys - 1))
    (ap (λ t. not (bytes_eq (last_target first) t)) (sym (last_like xs ys l))
    ∙ test_failed (not (bytes_eq (last_target first) (last_target xs))) kinds.EndsElsewhere
    (slice_get xs (length xs - 1)) each.2))

-- Where the first set has no flaw by itself, a set that repeats it has none.
pub repeated_clean : (first set : List Sight) → repeats first set ≡ true
    → set_flaw first first ≡ None → set_flaw first set ≡ None
repeated_clean first set e clean =
    let l = all_like first set e in
    let each = none_of_two (readings_flaw first) (order_flaw first first) clean in
    two_none (readings_flaw set) (order_flaw first set) (readings_clean first set l each.0)
    (order_clean first first set l each.1)

known_like : (first xs ys : List Sight)
    → ((name : List ℕ) → list_any (is_of name) xs ≡ true → list_any (is_of name) first ≡ true)
    → AllLike xs ys → known_in first ys ≡ ys
known_like first [] [] sub l = refl
known_like first (a ∷ xs) (b ∷ ys) sub l =
    let here : list_any (is_of b.target) first ≡ true = sub b.target
    (or_left (is_of b.target a) (list_any (is_of b.target) xs)
    ((bytes_eq-Decides a.target b.target).1 (sym l.0.target))) in
    rw here (ap (λ rs. b ∷ rs) (known_like first xs ys (λ name e. sub name
    (or_right (is_of name a) (list_any (is_of name) xs) e)) l.1))
known_like first [] (b ∷ ys) sub l = absurd l
known_like first (a ∷ xs) [] sub l = absurd l

more_than_half : (n : ℕ) → 0 < n → nat_lt n (2 * n) ≡ true
more_than_half n some = lt-ltb n (2 * n) (omega (arith, some))

-- All targets of a set that repeats the first are targets of the first.
pub repeated_known : (first set : List Sight) → repeats first set ≡ true → 0 < length set
    → is_mostly_known first set ≡ true
repeated_known first set e some =
    rw (known_like first first set (λ name h. h) (all_like first set e))
    (more_than_half (length set) some)
