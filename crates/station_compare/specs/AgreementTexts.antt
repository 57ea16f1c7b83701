-- The line of a table that agrees (profile).
use Rattle.std.specs.Prelude.{ℕ, List, ◌==◌, ◌++◌, codes, decimal, if◌then◌else◌}
use Rattle.angle_texts.specs.MgonTexts.{thousandths_text}
use Rattle.station_compare.specs.declared.agreement.Agreement.{Agreement}
use Rattle.station_compare.specs.declared.how_far.HowFar.{HowFar}

-- How far a table is apart from its station, and the limit that it was held to, both in mgon.
abbrev pub how_far_text : HowFar → List ℕ
how_far_text h =
    thousandths_text h.apart ++ (codes " mgon, limit " ++ thousandths_text h.limit)
    ++ codes " mgon"

-- The word after so many sets: of one it has no `s`.
abbrev pub sets_word : ℕ → List ℕ
sets_word count = if count == 1 then codes " set" else codes " sets"

-- The word after so many targets.
abbrev pub targets_word : ℕ → List ℕ
targets_word count = if count == 1 then codes " target" else codes " targets"

-- The line of a table that agrees.
abbrev pub agreement_line : Agreement → List ℕ
agreement_line a = codes "agrees " ++ a.name ++ (codes ": " ++ decimal a.sets) ++ sets_word a.sets
    ++ (codes ", " ++ decimal a.targets) ++ targets_word a.targets ++ codes ", within "
    ++ how_far_text a.how_far
    ++ (codes ", greatest residual " ++ thousandths_text a.greatest) ++ codes " mgon\n"
