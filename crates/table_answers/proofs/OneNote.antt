-- The note of a table is one.
use Rattle.std.proofs.Common.{◌≡◌, ◌∙◌, ℕ, List, ◌++◌, Option, Some, None, inl, inr, ap, refl, sym}
use Rattle.adjust_kernel.specs.Stations.{StationValue}
use Rattle.direction_table.specs.TableNotes.{table_note}
use Rattle.direction_table.specs.declared.form.TableForm.{TableForm}
use Rattle.direction_table.specs.declared.unit.AngleUnit.{AngleUnit}
use Rattle.direction_table.specs.declared.unit.AngleUnit.TheVariants.{Gon, Degrees, PackedDegrees}
use Rattle.table_answers.specs.Noting.{IsNote}
use Rattle.table_answers.specs.OtherUnits.{IsFirstUnit, IsOtherUnit, unit_note}

module _ (form : TableForm) (station : StationValue) (bytes : List ℕ) where
  one_first : (a b : Option AngleUnit) → IsFirstUnit form station bytes a
      → IsFirstUnit form station bytes b → a ≡ b
  one_first (Some Gon) (Some Gon) p q = refl
  one_first (Some Gon) (Some Degrees) p q = absurd (q.0 p)
  one_first (Some Gon) (Some PackedDegrees) p q = absurd (q.0 p)
  one_first (Some Gon) None p q = absurd (q Gon p)
  one_first (Some Degrees) (Some Gon) p q = absurd (p.0 q)
  one_first (Some Degrees) (Some Degrees) p q = refl
  one_first (Some Degrees) (Some PackedDegrees) p q = absurd (q.1 p.1)
  one_first (Some Degrees) None p q = absurd (q Degrees p.1)
  one_first (Some PackedDegrees) (Some Gon) p q = absurd (p.0 q)
  one_first (Some PackedDegrees) (Some Degrees) p q = absurd (p.1 q.1)
  one_first (Some PackedDegrees) (Some PackedDegrees) p q = refl
  one_first (Some PackedDegrees) None p q = absurd (q PackedDegrees p.2)
  one_first None (Some Gon) p q = absurd (p Gon q)
  one_first None (Some Degrees) p q = absurd (p Degrees q.1)
  one_first None (Some PackedDegrees) p q = absurd (p PackedDegrees q.2)
  one_first None None p q = refl

  one_other : (a b : Option AngleUnit) → IsOtherUnit form station bytes a
      → IsOtherUnit form station bytes b → a ≡ b
  one_other a b (inl p) (inl q) = p.1 ∙ sym q.1
  one_other a b (inl p) (inr q) = absurd (q.0 p.0)
  one_other a b (inr p) (inl q) = absurd (p.0 q.0)
  one_other a b (inr p) (inr q) = one_first a b p.1 q.1

  pub one_note : (a b : List ℕ) → IsNote form station bytes a → IsNote form station bytes b → a ≡ b
  one_note a b p q =
      p.text_is ∙ ap (λ (other : Option AngleUnit).
      table_note form station.targets bytes ++ unit_note other)
      (one_other p.other q.other p.names q.names) ∙ sym q.text_is
