-- A file has its stations in one way.
use Rattle.std.proofs.Common.{◌≡◌, ℕ, List, [], ◌∷◌, Some, refl, sym, ◌∙◌}
use Rattle.std.specs.Prelude.{map}
use Rattle.std.specs.List.{AllZip}
use Rattle.adjust_kernel.specs.declared.obs.Obs.{Obs}
use Rattle.station_book.specs.declared.faces.Faces.{Faces}
use Rattle.station_book.specs.Limits.{FaceLimits, AreLimits}
use Rattle.station_book.specs.Places.{History, Place}
use Rattle.station_book.specs.Stations.{Pair, SurveyedStation, IsObserved, HasFaces, IsSurveyed}
use Rattle.station_book.specs.Stations.{AreStations, stations_of, pairs_of}
use Rattle.station_book.proofs.two_faces.OnePair.{one_two_c, one_two_i, one_two_face}

one_zip : {A B : Type 0} (R : A → B → Type 0) → ((x : A) (y z : B) → R x y → R x z → y ≡ z)
    → (xs : List A) (ys zs : List B) → AllZip R xs ys → AllZip R xs zs → ys ≡ zs
one_zip R f [] [] [] h k = refl
one_zip R f [] (y ∷ ys) zs h k = absurd h
one_zip R f (x ∷ xs) [] zs h k = absurd h
one_zip R f (x ∷ xs) (y ∷ ys) (z ∷ zs) h k =
    let first = f x y z h.0 k.0 in
    let rest = one_zip R f xs ys zs h.1 k.1 in cc
one_zip R f xs ys zs h k = absurd k

one_observation : (limits : FaceLimits) → AreLimits limits → (c : Pair) (a b : Obs)
    → IsObserved limits c a → IsObserved limits c b → a ≡ b
one_observation limits small c a b h k =
    let set : a.set ≡ b.set = h.set ∙ sym k.set in
    let target : a.target ≡ b.target = h.target ∙ sym k.target in
    let value : a.value ≡ b.value = one_two_face limits.two_c small.two_c c.first c.second a.value
    b.value h.direction k.direction in
    λ i. record { set = set i; target = target i; value = value i }

one_faces : (limits : FaceLimits) → AreLimits limits → (c : Pair) (a b : Faces)
    → HasFaces limits c a → HasFaces limits c b → a ≡ b
one_faces limits small c a b h k =
    let c_same : a.two_c ≡ b.two_c = one_two_c limits.two_c small.two_c c.first c.second a.two_c
    b.two_c h.two_c k.two_c in
    let i_same : a.two_i ≡ b.two_i = one_two_i limits.two_i c.first c.second a.two_i b.two_i h.two_i
    k.two_i in
    let zenith : a.zenith ≡ b.zenith = h.zenith ∙ sym k.zenith in
    λ i. record { two_c = c_same i; two_i = i_same i; zenith = zenith i }

all_some : (xs ys : List ℕ) → map Some xs ≡ map Some ys → xs ≡ ys
all_some [] [] e = refl
all_some (x ∷ xs) (y ∷ ys) e =
    let tails : map Some xs ≡ map Some ys = cc in
    let rest = all_some xs ys tails in
    let heads : x ≡ y = cc in cc
all_some xs ys e = cc

one_station : (limits : FaceLimits) → AreLimits limits
    → (h : History) (st : Place) (a b : SurveyedStation) → IsSurveyed limits h st a
    → IsSurveyed limits h st b → a ≡ b
one_station limits small h st a b p q =
    let names : Some a.station.name ≡ Some b.station.name = sym p.name ∙ q.name in
    let name : a.station.name ≡ b.station.name = cc in
    let targets : a.station.targets ≡ b.station.targets = p.targets ∙ sym q.targets in
    let sets : a.station.sets ≡ b.station.sets = all_some a.station.sets b.station.sets
    (sym p.sets ∙ q.sets) in
    let obs : a.station.obs ≡ b.station.obs = one_zip (IsObserved limits)
    (one_observation limits small)
    (pairs_of st h) a.station.obs b.station.obs p.directions q.directions in
    let faces : a.faces ≡ b.faces = one_zip (HasFaces limits) (one_faces limits small)
    (pairs_of st h) a.faces b.faces p.differences q.differences in
    λ i. record {
      station = record { name = name i; targets = targets i; sets = sets i; obs = obs i };
      faces = faces i;
    }

-- The blocks of a file have one list of stations.
pub one_survey : (limits : FaceLimits) (h : History) (a b : List SurveyedStation) → AreLimits limits
    → AreStations limits h a → AreStations limits h b → a ≡ b
unfolding AreStations
one_survey limits h a b small p q = one_zip (IsSurveyed limits h) (one_station limits small h)
    (stations_of h) a b p q
