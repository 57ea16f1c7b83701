-- What stands before the sets of a station and after them, and how they are read, in words.
use Rattle.std.specs.Prelude.{◌≡◌, ◌≢◌, ◌⊎◌, ⊤, ℕ, ◌/◌, ◌<◌, ◌≤◌, Bool, false, true}
use Rattle.std.specs.Prelude.{List, [], ◌∷◌, length, take, drop, All, Any}
use Rattle.set_marks.specs.declared.bounds.TheConstants.{MOST_READINGS}
use Rattle.set_marks.specs.declared.sight.Sight.{Sight}
use Rattle.set_marks.specs.declared.span.Span.{Span}
use Rattle.set_marks.specs.Divisions.{first_target, last_target, first_set, sets_of, in_span}
use Rattle.set_marks.specs.Divisions.{is_read_in_two}
use Rattle.set_marks.specs.BeginsAndEnds.{without_details}
use Rattle.set_marks.specs.SetsInWords.{readings_in}

-- The leading readings of a station whose sets stand here: those before them that are no details.
abbrev pub leading_in : Span → List Sight → List Sight
leading_in span rs = without_details rs (take span.from rs)

-- These are all in face I.
abbrev pub AreInOne : List Sight → Type 0
AreInOne rs = All (λ r. r.second ≡ false) rs

-- They are all of this target.
abbrev pub AreOf : List ℕ → List Sight → Type 0
AreOf name rs = All (λ r. r.target ≡ name) rs

-- They are all of targets of the others.
abbrev pub AreOfTargetsOf : List Sight → List Sight → Type 0
AreOfTargetsOf others rs = All (λ r. Any (λ s. s.target ≡ r.target) others) rs

-- These two are of one target, one in each face.
abbrev pub IsPair : Sight → Sight → Type 0
IsPair a b = (a.target ≡ b.target) × (a.second ≢ b.second)

-- They are one pair after another: read by targets.
abbrev pub ArePairs : List Sight → Type 0
ArePairs [] = ⊤
ArePairs (a ∷ []) = ⊥
ArePairs (a ∷ b ∷ rs) = IsPair a b × ArePairs rs

-- The first half of them is in one face: a set is read by faces.
abbrev pub AreByFaces : List Sight → Type 0
AreByFaces rs = (second : Bool) × All (λ r. r.second ≡ second) (take (length rs / 2) rs)

-- Sights to a set that is read by faces and has more than two targets: pairs, each of another of
-- its targets.
pub record AreSightsTo (set rs : List Sight) : Type 0 where
  pub by_faces : AreByFaces set
  pub many : 4 < length set
  pub pairs : ArePairs rs
  pub once : (name : List ℕ) (second : Bool) → length (readings_in name second rs) ≤ 1
  pub own : AreOfTargetsOf set rs

-- What leads before a single set: sights to its own targets, or, where it has two, to the one that
-- opens it; all in face I, or all of one target, or sights to the set. No detail (`before` are all
-- readings before it) stands there.
pub record LeadToOne (set before leading : List Sight) : Type 0 where
  pub own : AreOfTargetsOf set leading
  pub opening : length set ≤ 4 → AreOf (first_target set) leading
  pub kind : AreInOne leading ⊎ AreOf (first_target leading) leading ⊎ AreSightsTo set leading
  pub no_detail : leading ≡ before

-- Of a station whose sets stand here. At most 200 readings lead, and at most three but where all
-- are in face I, or sights to the first set. If any lead, the sets begin in face I, and each of
-- those in face II has its pair among them. All sets are read by faces, or all by targets; all end
-- with one target; and no detail stands among them. Before sets by targets a leading reading in face
-- II is of the opening target, or of none that the sets have; and none is of the target that ends
-- the first set and does not begin it, where one is in face II or the set has two targets. After
-- them, but for details, all are in face I.
pub record StandsBetween (rs : List Sight) (span : Span) : Type 0 where
  pub at_most : length (leading_in span rs) ≤ MOST_READINGS
  pub few : (length (leading_in span rs) ≤ 3) ⊎ AreInOne (leading_in span rs)
      ⊎ AreSightsTo (first_set (in_span span rs)) (leading_in span rs)
  pub begun : 1 ≤ length (leading_in span rs) → AreInOne (take 1 (in_span span rs))
  pub alone : length (sets_of (in_span span rs)) ≡ 1
      → LeadToOne (in_span span rs) (take span.from rs) (leading_in span rs)
  pub paired : All (λ r. r.second ≡ true → Any (IsPair r) (leading_in span rs)) (leading_in span rs)
  pub alike : All AreByFaces (sets_of (in_span span rs)) ⊎ All ArePairs (sets_of (in_span span rs))
  pub ends : All (λ set. last_target set ≡ last_target (first_set (in_span span rs)))
      (sets_of (in_span span rs))
  pub whole : All (λ r. is_read_in_two rs r.target ≡ true) (in_span span rs)
  pub within : ArePairs (first_set (in_span span rs))
      → All (λ r. r.second ≡ true → (r.target ≡ first_target (in_span span rs))
      ⊎ All (λ s. s.target ≢ r.target) (in_span span rs)) (leading_in span rs)
  pub to_end : ArePairs (first_set (in_span span rs))
      → last_target (first_set (in_span span rs)) ≢ first_target (first_set (in_span span rs))
      → (length (first_set (in_span span rs)) ≤ 4)
      ⊎ Any (λ r. r.second ≡ true) (leading_in span rs)
      → All (λ r. r.target ≢ last_target (first_set (in_span span rs))) (leading_in span rs)
  pub went_on : ArePairs (first_set (in_span span rs))
      → AreInOne (without_details rs (drop span.to rs))
