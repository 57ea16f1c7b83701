-- How lines end.
use Rattle.std.specs.Prelude.{ℕ, suc, ◌-◌, ◌==◌, List, [], ◌∷◌, if◌then◌else◌, Option, Some, None}
use Rattle.std.specs.Prelude.{slice_index}
use Rattle.std.specs.List.{position}
use Rattle.gsi_file.specs.Parts.{is_line_end}
use Rattle.gsi_file.specs.declared.beside.LineEnd.{LineEnd}
use Rattle.gsi_file.specs.declared.beside.LineEnd.TheVariants.{LineFeed, CarriageReturn, Both}

-- the bytes that end a line
abbrev pub end_bytes : LineEnd → List ℕ
end_bytes LineFeed = 10 ∷ []
end_bytes CarriageReturn = 13 ∷ []
end_bytes Both = 13 ∷ 10 ∷ []

-- the end of a line whose first byte that ends it stands at this place
abbrev pub end_from : List ℕ → Option ℕ → LineEnd
end_from bytes None = LineFeed
end_from bytes (Some at) =
    if slice_index bytes at == 10 then LineFeed else
    (if slice_index bytes (suc at) == 10 then Both else CarriageReturn)

-- the end of the line that ends right before this place
abbrev pub end_before : List ℕ → ℕ → LineEnd
end_before bytes at =
    if slice_index bytes (at - 1) == 13 then CarriageReturn else
    (if slice_index bytes (at - 2) == 13 then Both else LineFeed)

-- How the lines beside a place end at which a line begins: the line before it, or at the beginning of
-- the file its first.
abbrev pub end_beside : List ℕ → ℕ → LineEnd
end_beside bytes at =
    if at == 0 then end_from bytes (position is_line_end bytes) else end_before bytes at
