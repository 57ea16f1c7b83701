-- The blocks of a copy, and where the division says that its readings are to be found.
use Rattle.std.specs.Prelude.{◌==◌, ◌≡◌, ℕ, suc, List, [], ◌∷◌, ◌++◌, filter, map, reverse}
use Rattle.std.specs.Prelude.{take, drop, Option, Some, None}
use Rattle.std.specs.List.{AllZip, flat_map}
use Rattle.gsi_word.specs.Blocks.{GsiBlock, IsBlock}
use Rattle.gsi_file.specs.Parts.{numbered_lines}
use Rattle.station_book.specs.Limits.{FaceLimits}
use Rattle.station_book.specs.Places.{History}
use Rattle.station_book.specs.Faults.{fault_at_end}
use Rattle.job_statements.specs.declared.beginnings.Beginnings.{Beginnings}
use Rattle.set_marks.specs.declared.division.Divided.{Divided}
use Rattle.set_marks.specs.declared.division.Divided.TheVariants.{Sets}
use Rattle.set_marks.specs.declared.mark.BlockMark.{BlockMark}
use Rattle.set_marks.specs.declared.sight.Sight.{Sight}
use Rattle.job_statements.specs.Numbers.{Said}
use Rattle.set_marks.specs.Stations.{Occupation}
use Rattle.set_marks.specs.Divisions.{sets_of, in_span}
use Rattle.set_marks.specs.Marks.{code_block}
use Rattle.set_marks.specs.Judging.{judged_of}
use Rattle.set_marks.specs.Marking.{marks_of}
use Rattle.set_marks.specs.MarkedBlocks.{grown}
use Rattle.set_marks.specs.Found.{Found, found_in, HasNoFaultOfCodes}

-- the blocks of the code lines before the block of this number
abbrev pub codes_before : List BlockMark → ℕ → List GsiBlock
codes_before marks n = map (λ m. code_block m.wide m.code) (filter (λ m. m.block == n) marks)

-- these blocks, of which the first has this number, each after the code lines before it
abbrev pub with_codes : List BlockMark → ℕ → List GsiBlock → List GsiBlock
with_codes marks n [] = []
with_codes marks n (b ∷ bs) = codes_before marks n ++ (b ∷ with_codes marks (suc n) bs)

-- the blocks of the copy of a file, in their order
abbrev pub copy_blocks : Beginnings → Said → History → List GsiBlock
copy_blocks beginnings stated h = with_codes (marks_of beginnings stated h) 1 (reverse h)

-- the history of the copy, whose newest block comes first
abbrev pub copy_history : Beginnings → Said → History → History
copy_history beginnings stated h = grown [] (copy_blocks beginnings stated h)

-- one place for each of these readings
abbrev pub for_each : Option Found → List Sight → List (Option Found)
for_each f rs = map (λ r. f) rs

-- where the readings of these sets of a station are to be found, whose numbers go on from this one
abbrev pub in_sets : List ℕ → ℕ → List (List Sight) → List (Option Found)
in_sets name n [] = []
in_sets name n (set ∷ sets) =
    for_each (Some (record { station = Some name; set = Some n })) set ++ in_sets name (suc n) sets

-- where the readings of a station are to be found: those of its sets there, all others in no set
abbrev pub in_station : Occupation → Divided → List (Option Found)
in_station s (Sets span) =
    for_each None (take span.from s.sights)
    ++ (in_sets s.name 1 (sets_of (in_span span s.sights))
    ++ for_each None (drop span.to s.sights))
in_station s d = for_each None s.sights

-- where the readings of a file are to be found, in the file's order
abbrev pub in_file : Beginnings → Said → History → List (Option Found)
in_file beginnings stated h =
    flat_map (λ j. in_station j.station j.division) (judged_of beginnings stated h)

-- These are the blocks of the numbered lines of some bytes, the newest first.
abbrev pub AreBlocksOf : List ℕ → History → Type 0
AreBlocksOf bytes h = AllZip IsBlock (numbered_lines bytes) (reverse h)

-- The book finds in the blocks of a copy what the division says of the file: each reading of a set
-- at its station and in its set, by their name and number, and each other reading in no set, those
-- of a station with a fault too. No
-- block, and not the end, has a fault that comes of the code lines: so no set is empty, and each
-- has its readings in both faces.
pub record IsFoundAsDivided (beginnings : Beginnings) (stated : Said) (h copy : History)
    : Type 0 where
  pub found : found_in copy ≡ in_file beginnings stated h
  pub faults : (limits : FaceLimits) → HasNoFaultOfCodes limits copy
  pub end : fault_at_end copy ≡ None
