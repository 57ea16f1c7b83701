-- Sheets that are promised of one station state the same observations.
use Rattle.std.proofs.Common.{◌≡◌, ℕ, List, [], ◌∷◌, Some, refl, sym, ap, ◌∙◌, inl, inr, subst}
use Rattle.std.specs.List.{Contains}
use Rattle.std.specs.Prelude.{map}
use Rattle.gsi_word.specs.Angles.{decimal_number}
use Rattle.gsi_word.specs.Blocks.{GsiBlock}
use Rattle.gsi_word.specs.Words.{GsiWord}
use Rattle.gsi_word.specs.declared.index.TheConstants.{POINT_NUMBER}
use Rattle.adjust_kernel.specs.Matching.{Key, key_of_row, keys_of}
use Rattle.adjust_kernel.specs.Sheets.{SheetValue}
use Rattle.adjust_kernel.specs.declared.row.Row.{Row}
use Rattle.station_book.specs.declared.face.Face.{Face}
use Rattle.station_book.specs.declared.face.Face.TheVariants.{One, Two}
use Rattle.station_book.specs.Limits.{FaceLimits, AreLimits}
use Rattle.station_book.specs.TwoFaces.{Angles, IsTwoFace}
use Rattle.station_book.specs.Blocks.{is_opening}
use Rattle.station_book.proofs.lists.Elements.{In, in_contains, contains_in, in_map, of_map}
use Rattle.station_book.proofs.two_faces.OnePair.{one_two_face}
use Rattle.sheet_promise.proofs.BlockCodes.{end_decided, named_is}
use Rattle.sheet_promise.proofs.HeldAngles.{found_held}
use Rattle.sheet_promise.proofs.InOrder.{file_block, back, last_is}
use Rattle.sheet_promise.specs.Readings.{FileBlock, IsLastBefore, EndsSet, BeginWith}
use Rattle.sheet_promise.specs.Readings.{IsNumbered, HoldsAngle, IsReadingIn, IsTwoFaceRow, IsOfRow}
use Rattle.sheet_promise.specs.Promised.{AreItsDirections}

-- A block stands in one set.
one_set_before : (this a b : FileBlock) → IsLastBefore EndsSet this a
    → IsLastBefore EndsSet this b → a ≡ b
one_set_before this a b x y =
    sym (back a) ∙ ap file_block (sym (last_is is_opening EndsSet end_decided this a x)
    ∙ last_is is_opening EndsSet end_decided this b y) ∙ back b

-- Its words begin with one name.
one_target : (ws : List GsiWord) (a b : List ℕ) → BeginWith POINT_NUMBER a ws
    → BeginWith POINT_NUMBER b ws → a ≡ b
one_target [] a b x y = absurd x
one_target (w ∷ ws) a b x y = sym x.1 ∙ y.1

some_is : {X : Type 0} (a b : X) → Some a ≡ Some b → a ≡ b
some_is a b e = cc

-- A set has one number.
one_number : (blocks : List GsiBlock) (setup set : FileBlock) (m n : ℕ)
    → IsNumbered blocks setup m set → IsNumbered blocks setup n set → m ≡ n
one_number blocks setup set m n x y =
    let name : x.name ≡ y.name = some_is x.name y.name
    (sym (named_is set.block x.name x.informs) ∙ named_is set.block y.name y.informs) in
    some_is m n (sym x.numbered ∙ ap decimal_number name ∙ y.numbered)

one_held : (index : ℕ) (b : GsiBlock) (m n : ℕ) → HoldsAngle index b m → HoldsAngle index b n
    → m ≡ n
one_held index b m n x y = sym (found_held index b m x) ∙ found_held index b n y

-- A block reads one pair of angles.
one_read : (blocks : List GsiBlock) (set : FileBlock) (target : List ℕ) (face : Face)
    (r : FileBlock) (x y : IsReadingIn blocks set target face r) → x.read ≡ y.read
one_read blocks set target face r x y =
    let hz = one_held _ r.block x.read.hz y.read.hz x.hz y.hz in
    let zenith = one_held _ r.block x.read.zenith y.read.zenith x.zenith y.zenith in
    λ i. record { hz = hz i; zenith = zenith i }

-- A reading is the only one of its set, target and face in either row: so its angles are.
record AreOne (first other : FileBlock) (read other_read : Angles) : Type 0 where
  pub block : first ≡ other
  pub angles : read ≡ other_read

are_one : (blocks : List GsiBlock) (set set' : FileBlock) (target target' : List ℕ) (face : Face)
    (r q : FileBlock) → set ≡ set' → target ≡ target'
    → (x : IsReadingIn blocks set target face r) (y : IsReadingIn blocks set' target' face q)
    → ((other : FileBlock) → IsReadingIn blocks set' target' face other → other ≡ q)
    → AreOne r q x.read y.read
are_one blocks set set' target target' face r q s t x y only =
    moved set' s target' t y only where
      here : (y : IsReadingIn blocks set target face q)
          → ((other : FileBlock) → IsReadingIn blocks set target face other → other ≡ q)
          → AreOne r q x.read y.read
      here y only = at q (only r x) y where
        at : (p : FileBlock) → r ≡ p → (y : IsReadingIn blocks set target face p)
            → AreOne r p x.read y.read
        at p e = subst (λ (z : FileBlock). (y : IsReadingIn blocks set target face z)
            → AreOne r z x.read y.read) e
            (λ y. record { block = refl; angles = one_read blocks set target face r x y })

      moved : (s' : FileBlock) → set ≡ s' → (t' : List ℕ) → target ≡ t'
          → (y : IsReadingIn blocks s' t' face q)
          → ((other : FileBlock) → IsReadingIn blocks s' t' face other → other ≡ q)
          → AreOne r q x.read y.read
      moved s' e t' f =
          subst (λ (z : FileBlock). (y : IsReadingIn blocks z t' face q)
          → ((other : FileBlock) → IsReadingIn blocks z t' face other → other ≡ q)
          → AreOne r q x.read y.read) e
          (subst (λ (n : List ℕ). (y : IsReadingIn blocks set n face q)
          → ((other : FileBlock) → IsReadingIn blocks set n face other → other ≡ q)
          → AreOne r q x.read y.read) f here)

module _ (limits : FaceLimits) (small : AreLimits limits) (blocks : List GsiBlock)
    (setup : FileBlock) where
  set_of_one : (r : FileBlock) (rows : List Row) (w : IsOfRow limits blocks setup rows r)
      → IsLastBefore EndsSet r w.its.set
  set_of_one r rows w = elim w.is_one [
    | inl e ↦ subst (λ (f : FileBlock). IsLastBefore EndsSet f w.its.set) e
        w.its.face_one.is.reading.of_set
    | inr e ↦ subst (λ (f : FileBlock). IsLastBefore EndsSet f w.its.set) e
        w.its.face_two.is.reading.of_set
  ]

  target_of_one : (r : FileBlock) (rows : List Row) (w : IsOfRow limits blocks setup rows r)
      → BeginWith POINT_NUMBER w.row.target r.block.words
  target_of_one r rows w = elim w.is_one [
    | inl e ↦ subst (λ (f : FileBlock). BeginWith POINT_NUMBER w.row.target f.block.words) e
        w.its.face_one.is.reading.of_target
    | inr e ↦ subst (λ (f : FileBlock). BeginWith POINT_NUMBER w.row.target f.block.words) e
        w.its.face_two.is.reading.of_target
  ]

  -- A row of one sheet has its like in the other.
  like : (row : Row) (its : IsTwoFaceRow limits blocks setup row) (rows : List Row)
      (w : IsOfRow limits blocks setup rows its.first) → key_of_row w.row ≡ key_of_row row
  like row its rows w =
      let set = one_set_before its.first w.its.set its.set (set_of_one its.first rows w)
      its.face_one.is.reading.of_set in
      let target = one_target its.first.block.words w.row.target row.target
      (target_of_one its.first rows w) its.face_one.is.reading.of_target in
      let number = one_number blocks setup its.set w.row.set row.set
      (subst (λ (s : FileBlock). IsNumbered blocks setup w.row.set s) set w.its.its_set.is)
      its.its_set.is in
      let first = are_one blocks w.its.set its.set w.row.target row.target One w.its.first its.first
      set target w.its.face_one.is its.face_one.is its.face_one.only in
      let second = are_one blocks w.its.set its.set w.row.target row.target Two w.its.second
      its.second set target w.its.face_two.is its.face_two.is its.face_two.only in
      let value = one_two_face limits.two_c small.two_c its.face_one.is.read its.face_two.is.read
      w.row.value row.value
      (subst (λ (a : Angles). IsTwoFace limits.two_c a its.face_two.is.read w.row.value)
      first.angles
      (subst (λ (b : Angles). IsTwoFace limits.two_c w.its.face_one.is.read b w.row.value)
      second.angles w.its.direction)) its.direction in
      λ i. record { set = number i; target = target i; value = value i }

  has_key : (k : Key) (row : Row) → key_of_row row ≡ k
      → (its : IsTwoFaceRow limits blocks setup row) (rows : List Row)
      → IsOfRow limits blocks setup rows its.first → Contains (map key_of_row rows) k
  has_key k row e its rows w =
      let same : key_of_row w.row ≡ k = like row its rows w ∙ e in
      contains_in k (map key_of_row rows)
      (subst (λ (q : Key). In q (map key_of_row rows)) same
      (in_map key_of_row w.row rows (in_contains w.row rows w.listed)))

  row_has_key : (other : SheetValue) → AreItsDirections limits blocks setup other → (k : Key)
      (row : Row) → key_of_row row ≡ k → IsTwoFaceRow limits blocks setup row
      → Contains (keys_of other) k
  row_has_key other y k row e its =
      has_key k row e its other.rows
      (y.whole its.set its.first row.target its.its_set.is.its_set its.face_one.is.reading)

  pub same_keys : (sheet other : SheetValue) → AreItsDirections limits blocks setup sheet
      → AreItsDirections limits blocks setup other → (k : Key) → Contains (keys_of sheet) k
      → Contains (keys_of other) k
  same_keys sheet other x y k c =
      let row = of_map key_of_row k sheet.rows (in_contains k (keys_of sheet) c) in
      let at = contains_in row.0 sheet.rows row.1 in
      row_has_key other y k row.0 row.2
      (subst (IsTwoFaceRow limits blocks setup) at.2 (x.rows at.0 row.0 at.1))
