-- What holds a station together, said of rows and of turns.
use Rattle.std.proofs.Common.{◌≡◌, List, [], ◌∷◌, map, length, ℤ, pos, arith, ap, refl, ◌∙◌, subst}
use Rattle.std.proofs.lemmas.List.{length-map}
use Rattle.adjust_kernel.specs.Connected.{IsConnected, IsDivided}
use Rattle.adjust_kernel.specs.Pairs.{turned_by, turned_by_rows}
use Rattle.adjust_kernel.specs.Stations.{StationValue}
use Rattle.adjust_kernel.specs.declared.obs.Obs.{Obs}
use Rattle.adjust_kernel.specs.declared.row.Row.{Row}
use Rattle.exact_adjustment.specs.LeastOf.{AreTied}
use Rattle.exact_adjustment.specs.Sides.{turned}

-- A row with these turns.
abbrev row_of : ℤ → Row
row_of k = record { target = []; value = 0; set = 0; turn = k }

by_rows : (obs : List Obs) (ks : List ℤ) → length ks ≡ length obs
    → turned_by_rows obs (map row_of ks) ≡ turned obs ks
by_rows [] ks e = refl
by_rows (o ∷ obs) [] e = absurd (omega (arith, e))
by_rows (o ∷ obs) (k ∷ ks) e = ap (λ xs. turned_by o k ∷ xs) (by_rows obs ks (omega (arith, e)))

pub tied_by_rows : (station : StationValue)
    → ((rows : List Row) → length rows ≡ length station.obs
    → IsConnected (length station.sets) (length station.targets) (turned_by_rows station.obs rows))
    → AreTied station
tied_by_rows station h = λ ks e. subst (IsConnected (length station.sets) (length station.targets))
    (by_rows station.obs ks e) (h (map row_of ks) (length-map ks row_of ∙ e))

pub divided_is_untied : (station : StationValue)
    → ((rows : List Row)
    → IsDivided (length station.sets) (length station.targets) (turned_by_rows station.obs rows))
    → AreTied station → ⊥
divided_is_untied station h tied =
    let ks = map (λ (o : Obs). pos 0) station.obs in
    let e : length ks ≡ length station.obs = length-map station.obs (λ (o : Obs). pos 0) in
    tied ks e (subst (IsDivided (length station.sets) (length station.targets))
    (by_rows station.obs ks e) (h (map row_of ks)))
