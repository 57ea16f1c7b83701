-- Set-up lines that are written again: how often it is so of each station of a field file, by the
-- file's blocks alone (profile). Such a line has the name of the station that is open, and begins
-- nothing where that is stated.
use Rattle.std.specs.Prelude.{ℕ, ◌+◌, Bool, ◌&&◌, List, [], ◌∷◌, ◌++◌, if◌then◌else◌, Option}
use Rattle.std.specs.Prelude.{Some, None, is_some, is_none}
use Rattle.gsi_word.specs.Blocks.{GsiBlock}
use Rattle.station_book.specs.Places.{History}
use Rattle.job_statements.specs.declared.beginnings.Beginnings.{Beginnings}
use Rattle.set_marks.specs.Stations.{begins_named, begins_after, open_name, set_ups_of}

-- A block is the set-up line of the station that is open, written again: by itself it would begin a
-- station, and where this one is open it begins none.
abbrev pub is_written_again : Beginnings → Option (List ℕ) → GsiBlock → Bool
is_written_again beginnings current b =
    is_some (begins_named beginnings b) && is_none (begins_after beginnings current b)

-- these counts, the last of which is one more
abbrev pub last_once_more : List ℕ → List ℕ
last_once_more [] = []
last_once_more (n ∷ []) = (n + 1) ∷ []
last_once_more (n ∷ m ∷ later) = n ∷ last_once_more (m ∷ later)

-- the count of the station that begins, if one does: its line was not written again yet
abbrev pub none_yet : Option (List ℕ) → List ℕ
none_yet None = []
none_yet (Some name) = 0 ∷ []

-- These counts, the last of which is that of the station that is open, after one block more: it is
-- the set-up line of this station, written again; or it begins a station, if it does.
abbrev pub with_count : Beginnings → Option (List ℕ) → List ℕ → GsiBlock → List ℕ
with_count beginnings current counts b =
    if is_written_again beginnings current b then last_once_more counts
    else counts ++ none_yet (begins_after beginnings current b)

-- How often the set-up line of each station that blocks begin was written again while it was open,
-- in the order of the file.
abbrev pub counts_of : Beginnings → History → List ℕ
counts_of beginnings [] = []
counts_of beginnings (b ∷ past) =
    with_count beginnings (open_name (set_ups_of beginnings past)) (counts_of beginnings past) b

-- none, of one station whose name is stated: it has no set-up line; else these
abbrev pub stated_count_or : Option (List ℕ) → List ℕ → List ℕ
stated_count_or (Some name) counts = 0 ∷ []
stated_count_or None counts = counts

-- How often the set-up line of each station of a file was written again while it was open, in the
-- file's order.
abbrev pub written_again_of : Beginnings → History → List ℕ
written_again_of beginnings h = stated_count_or beginnings.station (counts_of beginnings h)
