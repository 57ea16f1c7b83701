-- A name with its quotes doubled, byte by byte.
use Rattle.std.proofs.Common.{◌≡◌, ◌∙◌, ◌++◌, ◌∷◌, ◌+◌, ◌<◌, ◌==◌, List, ℕ, []}
use Rattle.std.proofs.Common.{ap, append_assoc, drop, get_or, length, refl, sym}
use Rattle.std.specs.Prelude.{if◌then◌else◌}
use Rattle.std.proofs.lemmas.List.{append-nil}
use Rattle.station_tables.proofs.LineLaws.{from_here}
use Rattle.station_tables.specs.Said.{doubled}

doubled_first : (b : ℕ) (name : List ℕ)
    → doubled (b ∷ name) ≡ (if b == 34 then 34 ∷ [] else []) ++ (b ∷ doubled name)
unfolding doubled
doubled_first b name = refl

-- One more byte is put, after a quote where it is one.
pub one_more : (name before fronted after whole : List ℕ) (i : ℕ) → i < length name
    → fronted ≡ before ++ (if get_or name i 0 == 34 then 34 ∷ [] else [])
    → after ≡ fronted ++ (get_or name i 0 ∷ [])
    → before ++ doubled (drop i name) ≡ whole → after ++ doubled (drop (i + 1) name) ≡ whole
one_more name before fronted after whole i inside put pushed held =
    let b = get_or name i 0 in
    let rest = doubled (drop (i + 1) name) in
    let own = if b == 34 then 34 ∷ [] else [] in
    ap (λ (t : List ℕ). t ++ rest) (pushed ∙ ap (λ (t : List ℕ). t ++ (b ∷ [])) put)
    ∙ append_assoc (before ++ own) (b ∷ []) rest
    ∙ append_assoc before own (b ∷ rest)
    ∙ ap (λ (t : List ℕ). before ++ t)
    (sym (ap doubled (from_here name 0 i inside) ∙ doubled_first b (drop (i + 1) name)))
    ∙ held

-- Nothing is to come after the last byte.
pub all_put : (put whole : List ℕ) → put ++ doubled [] ≡ whole → put ≡ whole
unfolding doubled
all_put put whole held = sym (append-nil put) ∙ held
