-- The columns of a row, by their places.
use Rattle.std.proofs.Common.{◌≡◌, ℕ, List, [], ◌∷◌, length, Some, unwrap_or, refl, arith}
use Rattle.csv.specs.Records.{field_at}
use Rattle.sheet_format.specs.Columns.{columns_of}

-- A field of a row by its place, or an empty one where the row has none there.
abbrev pub at : List (List ℕ) → ℕ → List ℕ
at fs i = unwrap_or (field_at fs i) []

-- A row of five fields has them as its columns, in their order.
pub five : (fs : List (List ℕ)) → length fs ≡ 5
    → columns_of fs ≡ Some (record {
      row_type = at fs 0;
      number = at fs 1;
      name = at fs 2;
      value = at fs 3;
      turn = at fs 4;
    })
unfolding field_at
five [] e = absurd (omega (arith, e))
five (a ∷ []) e = absurd (omega (arith, e))
five (a ∷ b ∷ []) e = absurd (omega (arith, e))
five (a ∷ b ∷ c ∷ []) e = absurd (omega (arith, e))
five (a ∷ b ∷ c ∷ d ∷ []) e = absurd (omega (arith, e))
five (a ∷ b ∷ c ∷ d ∷ x ∷ []) e = refl
five (a ∷ b ∷ c ∷ d ∷ x ∷ y ∷ rest) e = absurd (omega (arith, e))
