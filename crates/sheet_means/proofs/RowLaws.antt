-- The rows of the first observations.
use Rattle.std.proofs.Common.{◌≡◌, ℕ, ◌+◌, ◌<◌, List, [], ◌∷◌, ◌++◌, All, length, map, take, get_or}
use Rattle.std.proofs.Common.{arith, ap, refl, sym, ◌∙◌, subst}
use Rattle.std.proofs.lemmas.List.{take_more, map-append, length-map}
use Rattle.std.proofs.lemmas.List.Elements.{All-push}
use Rattle.adjust_kernel.specs.declared.obs.Obs.{Obs}
use Rattle.adjust_kernel.specs.declared.row.Row.{Row}
use Rattle.adjust_kernel.specs.Matching.{key_of_row, key_of_obs}
use Rattle.adjust_kernel.specs.Pairs.{turned_by, turned_by_rows}
use Rattle.adjust_kernel.specs.TurnedObservations.{TurnedObservation}
use Rattle.adjust_kernel.specs.Stations.{StationValue}
use Rattle.sheet_means.specs.Turning.{IsTurned}
use Rattle.sheet_means.specs.Parts.{IsMeansRow}

-- The rows of the sheet of means for the first observations, so many.
pub record AreRowsTo (station : StationValue) (rows : List Row) (n : ℕ) : Type 0 where
  pub keys : map key_of_row rows ≡ map (key_of_obs station.sets station.targets)
      (take n station.obs)
  pub turned : All (IsTurned station.obs) (turned_by_rows (take n station.obs) rows)
  pub rows_in : All IsMeansRow rows

turned_by_rows-push : (obs : List Obs) (rows : List Row) (o : Obs) (r : Row)
    → length obs ≡ length rows → turned_by_rows (obs ++ o ∷ []) (rows ++ r ∷ [])
    ≡ turned_by_rows obs rows ++ turned_by o r.turn ∷ []
turned_by_rows-push [] [] o r e = refl
turned_by_rows-push [] (r' ∷ rows) o r e = absurd (omega arith)
turned_by_rows-push (o' ∷ obs) [] o r e = absurd (omega arith)
turned_by_rows-push (o' ∷ obs) (r' ∷ rows) o r e =
    ap (λ (l : List TurnedObservation). turned_by o' r'.turn ∷ l) (turned_by_rows-push obs rows o r
    (omega arith))

module _ (station : StationValue) (rows : List Row) (n : ℕ) (known : AreRowsTo station rows n) where
  as_long : length (take n station.obs) ≡ length rows
  as_long = sym (length-map (take n station.obs) (key_of_obs station.sets station.targets))
      ∙ ap length (sym known.keys) ∙ length-map rows key_of_row

  -- With the row of the next observation they are the rows of one more.
  pub rows_more : (d : Obs) (r : Row) → n < length station.obs
      → key_of_row r ≡ key_of_obs station.sets station.targets (get_or station.obs n d)
      → IsTurned station.obs (turned_by (get_or station.obs n d) r.turn) → IsMeansRow r
      → AreRowsTo station (rows ++ r ∷ []) (n + 1)
  rows_more d r inside key turned row =
      let o = get_or station.obs n d in
      let next = take_more station.obs n d inside in
      let f = key_of_obs station.sets station.targets in
      record {
        keys =
            map-append key_of_row rows (r ∷ [])
            ∙ (λ i. known.keys i ++ key i ∷ [])
            ∙ sym (map-append f (take n station.obs) (o ∷ []))
            ∙ ap (map f) (sym next);
        turned = subst (All (IsTurned station.obs))
            (sym (ap (λ (l : List Obs). turned_by_rows l (rows ++ r ∷ [])) next
            ∙ turned_by_rows-push (take n station.obs) rows o r as_long))
            (All-push (IsTurned station.obs) (turned_by_rows (take n station.obs) rows)
            (turned_by o r.turn) known.turned turned);
        rows_in = All-push IsMeansRow rows r known.rows_in row;
      }
