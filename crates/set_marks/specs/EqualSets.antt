-- Sets of a station that are equal to the last digit (profile). Sets that were read one after
-- another differ in their last digits at least, so equal ones are one set that was transferred
-- twice.
use Rattle.std.specs.Prelude.{ℕ, ◌+◌, ◌==◌, Bool, ◌&&◌, List, [], ◌∷◌, ◌++◌, length}
use Rattle.std.specs.Prelude.{if◌then◌else◌}
use Rattle.std.specs.List.{list_all, list_any}
use Rattle.set_marks.specs.declared.equal_sets.SetPair.{SetPair}
use Rattle.set_marks.specs.declared.sight.Sight.{Sight}
use Rattle.set_marks.specs.Divisions.{is_again, parts_at}

-- Both readings are of one target and in the same face, with the same direction and the same zenith
-- angle.
abbrev pub is_equal : Sight → Sight → Bool
is_equal a b =
    is_again a b && (a.angles.hz == b.angles.hz && a.angles.zenith == b.angles.zenith)

-- Each of these readings is equal to one of the others.
abbrev pub have_equals : List Sight → List Sight → Bool
have_equals others rs = list_all (λ r. list_any (is_equal r) others) rs

-- Two sets are equal: each reading of the one is equal to a reading of the other, in whatever
-- order.
abbrev pub are_equal : List Sight → List Sight → Bool
are_equal a b = have_equals b a && have_equals a b

-- the pairs that this set, which has the number `later`, makes with each of the others that is
-- equal to it, where the first of the others has the number `number`
abbrev pub pairs_with : ℕ → List Sight → ℕ → List (List Sight) → List SetPair
pairs_with later set number [] = []
pairs_with later set number (other ∷ others) =
    (if are_equal other set then record { earlier = number; later = later } ∷ [] else [])
    ++ pairs_with later set (number + 1) others

-- the pairs that each of these sets, of which the first has this number, makes with the sets before
-- it, where the sets `before` stand before all of these
abbrev pub pairs_from : ℕ → List (List Sight) → List (List Sight) → List SetPair
pairs_from number before [] = []
pairs_from number before (set ∷ sets) =
    pairs_with number set 1 before ++ pairs_from (number + 1) (before ++ set ∷ []) sets

-- The pairs of equal sets, each by the numbers of both: first those of set 2, then those of set 3,
-- and so on, each with the sets before it.
abbrev pub equal_pairs : List (List Sight) → List SetPair
equal_pairs sets = pairs_from 1 [] sets

-- The pairs of equal sets, where all these readings are in sets, which begin at these places.
abbrev pub equal_sets : List ℕ → List Sight → List SetPair
equal_sets starts in_sets = equal_pairs (parts_at (length in_sets) starts in_sets)
