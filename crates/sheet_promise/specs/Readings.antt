-- What a field file has of a station, in the words of its blocks.
use Rattle.std.specs.Prelude.{◌≡◌, ◌≢◌, ◌⊎◌, ℕ, ◌<◌, ℤ, List, [], ◌∷◌, ◌++◌, All, Contains, Some}
use Rattle.std.specs.Prelude.{codes}
use Rattle.gsi_word.specs.Angles.{IsAngle, decimal_number}
use Rattle.gsi_word.specs.Blocks.{GsiBlock}
use Rattle.gsi_word.specs.FoundWords.{words_with}
use Rattle.gsi_word.specs.Names.{name_of}
use Rattle.gsi_word.specs.Words.{GsiWord}
use Rattle.gsi_word.specs.declared.index.TheConstants.{POINT_NUMBER, HORIZONTAL_DIRECTION}
use Rattle.gsi_word.specs.declared.index.TheConstants.{VERTICAL_ANGLE, CODE_NUMBER}
use Rattle.gsi_word.specs.declared.index.TheConstants.{CODE_INFORMATION}
use Rattle.adjust_kernel.specs.declared.row.Row.{Row}
use Rattle.station_book.specs.declared.bounds.TheConstants.{CIRCLE, HALF_CIRCLE}
use Rattle.station_book.specs.declared.face.Face.{Face}
use Rattle.station_book.specs.declared.face.Face.TheVariants.{One, Two}
use Rattle.station_book.specs.Limits.{FaceLimits}
use Rattle.station_book.specs.TwoFaces.{Angles, IsTwoC, IsTwoI, IsTwoFace}

-- P holds of this one, and of no other.
pub record IsOnly {X : Type 0} (P : X → Type 0) (x : X) : Type 0 where
  pub is : P x
  pub only : (other : X) → P other → other ≡ x

-- A block of a field file, with the blocks before it, in the file's order.
pub record FileBlock : Type 0 where
  pub before : List GsiBlock
  pub block : GsiBlock

-- It is one of the blocks of this file.
pub record IsOfFile (blocks : List GsiBlock) (b : FileBlock) : Type 0 where
  pub after : List GsiBlock
  pub split : blocks ≡ b.before ++ b.block ∷ after

-- Of the blocks before this one, the last of which P holds is that one.
pub record IsLastBefore (P : GsiBlock → Type 0) (this that : FileBlock) : Type 0 where
  pub between : List GsiBlock
  pub split : this.before ≡ that.before ++ that.block ∷ between
  pub is : P that.block
  pub none : All (λ b. ¬ P b) between

-- The first word has this index, and its content has this name.
abbrev pub BeginWith : ℕ → List ℕ → List GsiWord → Type 0
BeginWith index name [] = ⊥
BeginWith index name (w ∷ ws) = (w.index ≡ index) × (name_of w.content ≡ name)

-- Code 10 opens a station (profile).
abbrev pub OpensStation : GsiBlock → Type 0
OpensStation b = BeginWith CODE_NUMBER (codes "10") b.words

-- Code 20 opens a set (profile).
abbrev pub OpensSet : GsiBlock → Type 0
OpensSet b = BeginWith CODE_NUMBER (codes "20") b.words

-- Code 10, 20 or 30 ends the set that was open (profile).
abbrev pub EndsSet : GsiBlock → Type 0
EndsSet b = OpensStation b ⊎ (OpensSet b ⊎ BeginWith CODE_NUMBER (codes "30") b.words)

-- One word of the block, and no more, has the index 42, and its content has this name.
pub record Informs (b : GsiBlock) (name : List ℕ) : Type 0 where
  pub word : GsiWord
  pub only : words_with CODE_INFORMATION b.words ≡ word ∷ []
  pub has_name : name_of word.content ≡ name

-- A set of the station that was set up there: the last station that was opened before it.
pub record IsSetOf (blocks : List GsiBlock) (setup set : FileBlock) : Type 0 where
  pub of_file : IsOfFile blocks set
  pub opens : OpensSet set.block
  pub of_station : IsLastBefore OpensStation set setup

-- A set of the station that has this number.
pub record IsNumbered (blocks : List GsiBlock) (setup : FileBlock) (number : ℕ) (set : FileBlock)
    : Type 0 where
  pub its_set : IsSetOf blocks setup set
  pub name : List ℕ
  pub informs : Informs set.block name
  pub numbered : decimal_number name ≡ Some number

-- The station of this name was set up there, and a set of it was opened.
pub record IsSetUp (blocks : List GsiBlock) (name : List ℕ) (setup : FileBlock) : Type 0 where
  pub informs : Informs setup.block name
  pub set : FileBlock
  pub its_set : IsSetOf blocks setup set

-- A reading of a target in a set: a measurement with a direction, before which no block has ended
-- the set.
pub record IsReadingOfSet (blocks : List GsiBlock) (set : FileBlock) (target : List ℕ)
    (r : FileBlock) : Type 0 where
  pub of_file : IsOfFile blocks r
  pub of_set : IsLastBefore EndsSet r set
  pub of_target : BeginWith POINT_NUMBER target r.block.words
  pub directed : words_with HORIZONTAL_DIRECTION r.block.words ≢ []

-- One word of the block, and no more, has this index, and it holds this angle.
pub record HoldsAngle (index : ℕ) (b : GsiBlock) (units : ℕ) : Type 0 where
  pub word : GsiWord
  pub only : words_with index b.words ≡ word ∷ []
  pub holds : IsAngle word units

-- In face I the zenith angle is below half a circle; in face II, with the telescope turned over,
-- above it (textbook; that 0 and half a circle are of neither face is profile).
abbrev pub IsInFace : Face → ℕ → Type 0
IsInFace One zenith = (0 < zenith) × (zenith < HALF_CIRCLE)
IsInFace Two zenith = (HALF_CIRCLE < zenith) × (zenith < CIRCLE)

-- A reading of a target in a set and a face, with its direction and its zenith angle.
pub record IsReadingIn (blocks : List GsiBlock) (set : FileBlock) (target : List ℕ) (face : Face)
    (r : FileBlock) : Type 0 where
  pub reading : IsReadingOfSet blocks set target r
  pub read : Angles
  pub hz : HoldsAngle HORIZONTAL_DIRECTION r.block read.hz
  pub zenith : HoldsAngle VERTICAL_ANGLE r.block read.zenith
  pub of_face : IsInFace face read.zenith

-- The row of a sheet is the two-face direction of its target in its set: the station has one set of
-- its number, this has one reading of the target in face I and one in face II, the two give the
-- direction, and both face differences are within their limits.
pub record IsTwoFaceRow (limits : FaceLimits) (blocks : List GsiBlock) (setup : FileBlock)
    (row : Row) : Type 0 where
  pub set : FileBlock
  pub its_set : IsOnly (IsNumbered blocks setup row.set) set
  pub first : FileBlock
  pub face_one : IsOnly (IsReadingIn blocks set row.target One) first
  pub second : FileBlock
  pub face_two : IsOnly (IsReadingIn blocks set row.target Two) second
  pub direction : IsTwoFace limits.two_c face_one.is.read face_two.is.read row.value
  pub two_c : ℤ
  pub within_two_c : IsTwoC limits.two_c face_one.is.read face_two.is.read two_c
  pub two_i : ℤ
  pub within_two_i : IsTwoI limits.two_i face_one.is.read face_two.is.read two_i

-- A reading is one of the two of a row.
pub record IsOfRow (limits : FaceLimits) (blocks : List GsiBlock) (setup : FileBlock)
    (rows : List Row) (r : FileBlock) : Type 0 where
  pub row : Row
  pub listed : Contains rows row
  pub its : IsTwoFaceRow limits blocks setup row
  pub is_one : (its.first ≡ r) ⊎ (its.second ≡ r)
