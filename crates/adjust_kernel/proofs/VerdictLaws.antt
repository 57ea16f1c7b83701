-- Verdicts: just one stands for a station, a sheet and a limit; what holds where a fault of a kind
-- does not stand; and the verdicts of each test, in their order.
use Rattle.std.proofs.Common.{◌≡◌, ◌≢◌, ◌⊎◌, inl, inr, ℕ, ◌+◌, ◌*◌, ◌<◌, ◌≤◌, List, length, pos}
use Rattle.std.proofs.Common.{Option, Some, None, Result, Ok, Err, arith, ap, refl, sym, ◌∙◌, subst}
use Rattle.std.proofs.Common.{get_or, ℤ, zero, suc, [], ◌∷◌, below_more, rules}
use Rattle.std.specs.Prelude.{map, slice_index_or, IfSome, ⊤}
use Rattle.std.specs.Int.RustNames.{unsigned_abs}
use Rattle.std.specs.Str.{bytes_eq}
use Rattle.std.proofs.Math.IntN.{ℤ_discrete}
use Rattle.std.proofs.lemmas.List.{get_or-map, length-map}
use Rattle.std.proofs.lemmas.Slice.Eq.{bytes_eq-Decides}
use native.Mathlib.Decide.{dec_lt, ℕ_discrete}
use borrow.Author.Count.{below_none}
use Rattle.adjust_kernel.specs.declared.accepted.Accepted.{Accepted}
use Rattle.adjust_kernel.specs.declared.kernel_fault.KernelFault.{KernelFault}
use Rattle.adjust_kernel.specs.declared.kernel_fault.KernelFault.TheVariants.{Name, TargetRow}
use Rattle.adjust_kernel.specs.declared.kernel_fault.KernelFault.TheVariants.{SetRow, ObsRow, Datum}
use Rattle.adjust_kernel.specs.declared.kernel_fault.KernelFault.TheVariants.{TargetSum, SetSum}
use Rattle.adjust_kernel.specs.declared.kernel_fault.KernelFault.TheVariants.{NotConnected}
use Rattle.adjust_kernel.specs.declared.kernel_fault.KernelFault.TheVariants.{Residual}
use Rattle.adjust_kernel.specs.Connected.{IsDivided}
use Rattle.adjust_kernel.specs.Firsts.{IsFirstWhere}
use Rattle.adjust_kernel.specs.Matching.{Key, Matches, key_of_row, key_of_obs, names_of, numbers_of}
use Rattle.adjust_kernel.specs.Matching.{keys_of, observed}
use Rattle.adjust_kernel.specs.Pairs.{choice_stated_by}
use Rattle.adjust_kernel.specs.TurnedObservations.{TurnedObservation}
use Rattle.adjust_kernel.specs.Residuals.{residual, target_sum, set_sum}
use Rattle.adjust_kernel.specs.Sheets.{SheetValue}
use Rattle.adjust_kernel.specs.Stations.{StationValue}
use Rattle.adjust_kernel.specs.Turns.{IsAbove}
use Rattle.adjust_kernel.specs.Verdict.{AtNth, Stands, IsAcceptance, IsAcceptedSheet, IsFault}
use Rattle.adjust_kernel.specs.Verdict.{IsVerdict, TargetsAddUp, SetsAddUp, HoldsTogether}
use Rattle.adjust_kernel.specs.Verdict.{KeepsLimit, order_of, observations}
use Rattle.adjust_kernel.proofs.ConnectionLaws.{connected_or_divided}
use Rattle.adjust_kernel.proofs.FirstLaws.{one_difference, no_difference, one_first, same_or_first}
use Rattle.adjust_kernel.proofs.FirstLaws.{same_place, none_or_first, dec_by, dec_not, by_not_not}
use Rattle.adjust_kernel.proofs.GreatestLaws.{size_within, within_size, greatest_size, greatest_is}
use Rattle.adjust_kernel.proofs.GreatestLaws.{one_greatest}
use Rattle.adjust_kernel.proofs.ObservationLaws.{length-turned_by_rows}

-- What a list says at a place: past its end, nothing.
abbrev at : List (Type 0) → ℕ → Type 0
at [] n = ⊤
at (t ∷ ts) zero = t
at (t ∷ ts) (suc n) = at ts n

-- What holds where the test at a place in the order finds no fault. There is none at 0.
abbrev IsClearAt : StationValue → SheetValue → Option ℕ → ℕ → Type 0
IsClearAt station sheet limit = at (
    ⊤
    ∷ (sheet.name ≡ station.name)
    ∷ (names_of sheet ≡ station.targets)
    ∷ (numbers_of sheet ≡ station.sets)
    ∷ (keys_of sheet ≡ observed station)
    ∷ ((choice_stated_by sheet).direction 0 ≡ pos 0)
    ∷ TargetsAddUp station sheet
    ∷ SetsAddUp station sheet
    ∷ HoldsTogether station sheet
    ∷ IfSome limit (KeepsLimit station sheet)
    ∷ [])

-- No fault of this kind stands, whatever its number: what holds in its place.
abbrev pub IsClearOf : StationValue → SheetValue → Option ℕ → KernelFault → Type 0
IsClearOf station sheet limit fault = IsClearAt station sheet limit (order_of fault)

-- What stands at one place alone is one fault of its kind.
one_nth : (kind : ℕ → KernelFault) {P : ℕ → Type 0} → ((j k : ℕ) → P j → P k → j ≡ k) → (m n : ℕ)
    → AtNth P m → AtNth P n → kind m ≡ kind n
one_nth kind one m n (j, e, f) (k, d, g) = ap kind (e ∙ ap (λ i. i + 1) (one j k f g) ∙ sym d)

same_bytes : (a b : List ℕ) → Dec (a ≡ b)
same_bytes a b = dec_by (bytes_eq a b) (bytes_eq-Decides a b)

same_key : (a b : Key) → Dec (a ≡ b)
same_key a b = by (ℕ_discrete a.set b.set) (same_bytes a.target b.target)
    (ℕ_discrete a.value b.value) where
      by : Dec (a.set ≡ b.set) → Dec (a.target ≡ b.target) → Dec (a.value ≡ b.value) → Dec (a ≡ b)
      by (yes e) (yes f) (yes g) = yes (λ i. record { set = e i; target = f i; value = g i })
      by (no n) f g = no (λ h. n (ap (λ (k : Key). k.set) h))
      by (yes e) (no n) g = no (λ h. n (ap (λ (k : Key). k.target) h))
      by (yes e) (yes f) (no n) = no (λ h. n (ap (λ (k : Key). k.value) h))

any_observation : TurnedObservation
any_observation = record { set = 0; target = 0; value = 0; turn = pos 0 }

-- What holds of 0 and of each number after another holds of all.
next : (P : ℕ → Type 0) → P 0 → ((n : ℕ) → P (suc n)) → (n : ℕ) → P n
next P p q zero = p
next P p q (suc n) = q n

-- What is decided holds or does not.
decided : {P : Type 0} → Dec P → P ⊎ (P → ⊥)
decided (yes p) = inl p
decided (no f) = inr f

-- A test finds nothing, or something, from which more follows.
or_then : {A B C : Type 0} → A ⊎ B → (B → C) → A ⊎ C
or_then (inl a) f = inl a
or_then (inr b) f = inr (f b)

-- All numbers below a count are 0, or one is the first that isn't.
zeros_or_first : (sum : ℕ → ℤ) (count : ℕ) → ((k : ℕ) → k < count → sum k ≡ pos 0)
    ⊎ ((n : ℕ) × IsFirstWhere (λ k. sum k ≢ pos 0) count n)
zeros_or_first sum count = elim (none_or_first (λ k. sum k ≢ pos 0)
    (λ k. dec_not (ℤ_discrete (sum k) (pos 0))) count) [
      | inl none ↦ inl (λ k inside. by_not_not (ℤ_discrete (sum k) (pos 0)) (none k inside))
      | inr first ↦ inr first
    ]

module _ (station : StationValue) (sheet : SheetValue) where
  -- The residual at a place is that of the observation there.
  residual_at : (k : ℕ) (d : TurnedObservation) → k < length (observations station sheet)
      → slice_index_or (map (residual (choice_stated_by sheet)) (observations station sheet)) k
      (pos 0) ≡ residual (choice_stated_by sheet) (get_or (observations station sheet) k d)
  residual_at k d inside = get_or-map (residual (choice_stated_by sheet))
      (observations station sheet) k d (pos 0) inside

  -- A fault does not stand where what it denies holds.
  pub not_standing : (limit : Option ℕ) (fault : KernelFault) → IsClearOf station sheet limit fault
      → Stands station sheet limit fault → ⊥
  not_standing limit Name e stands = stands e
  not_standing limit (TargetRow n) e (k, _, f) = no_difference _ _ e k f
  not_standing limit (SetRow n) e (k, _, f) = no_difference _ _ e k f
  not_standing limit (ObsRow n) e (k, _, f) = no_difference _ _ e k f
  not_standing limit Datum e stands = stands e
  not_standing limit (TargetSum n) clear (k, _, f) = f.here (clear k f.inside)
  not_standing limit (SetSum n) clear (k, _, f) = f.here (clear k f.inside)
  not_standing limit NotConnected clear stands = clear stands
  not_standing None (Residual n) clear stands = absurd stands
  not_standing (Some limit) (Residual n) clear (k, _, f) =
      let small = size_within _ _ (clear k any_observation f.inside) in
      omega (arith, small, rw (residual_at k any_observation f.inside) at f.here)

  -- Of two faults that stand, and that are looked for at one place in the order.
  one_fault : (limit : Option ℕ) (f g : KernelFault) → order_of f ≡ order_of g
      → Stands station sheet limit f → Stands station sheet limit g → f ≡ g
  one_fault limit (TargetRow m) (TargetRow n) e a b = one_nth TargetRow (one_difference _ _) m n a b
  one_fault limit (SetRow m) (SetRow n) e a b = one_nth SetRow (one_difference _ _) m n a b
  one_fault limit (ObsRow m) (ObsRow n) e a b = one_nth ObsRow (one_difference _ _) m n a b
  one_fault limit (TargetSum m) (TargetSum n) e a b = one_nth TargetSum (one_first _ _) m n a b
  one_fault limit (SetSum m) (SetSum n) e a b = one_nth SetSum (one_first _ _) m n a b
  one_fault (Some limit) (Residual m) (Residual n) e a b = one_nth Residual (one_first _ _) m n a b
  one_fault limit f g e a b = grind arith

  -- What is said of the sheet where it is accepted, but for the greatest residual.
  abbrev said_with : ℤ → Accepted
  said_with greatest = record {
    name = station.name;
    sets = length station.sets;
    targets = length station.targets;
    directions = length station.obs;
    greatest = greatest;
    denominator = sheet.denominator;
  }

  -- An acceptance says just that, so there is one.
  is_said : (a : Accepted) → IsAcceptance station sheet a → a ≡ said_with a.greatest
  is_said a f = rw (f.name, f.sets, f.targets, f.directions, f.denominator) refl

  one_acceptance : (a b : Accepted) → IsAcceptance station sheet a → IsAcceptance station sheet b
      → a ≡ b
  one_acceptance a b f g =
      is_said a f ∙ ap said_with (one_greatest (choice_stated_by sheet)
      (observations station sheet) _ _ f.greatest g.greatest) ∙ sym (is_said b g)

  -- No two verdicts stand for one station, one sheet and one limit.
  pub only_one_verdict : (limit : Option ℕ) (a b : Result Accepted KernelFault)
      → IsVerdict station sheet limit a → IsVerdict station sheet limit b → a ≡ b
  only_one_verdict limit (Ok a) (Ok b) v w = ap Ok (one_acceptance a b v.1 w.1)
  only_one_verdict limit (Ok a) (Err f) v w = absurd (v.0 f w.0)
  only_one_verdict limit (Err f) (Ok b) v w = absurd (w.0 f v.0)
  only_one_verdict limit (Err f) (Err g) v w = ap Err (one_fault limit f g
      (same_place _ _ (λ below. w.1 f below v.0) (λ below. v.1 g below w.0)) v.0 w.0)

  -- Some fault stands that is looked for at this place in the order.
  abbrev IsStandingAt : Option ℕ → ℕ → Type 0
  IsStandingAt limit n = (fault : KernelFault) × (order_of fault ≡ n)
      × Stands station sheet limit fault

  -- No residual is above the limit, or a first one is.
  limit_or_standing : (limit : Option ℕ) → IfSome limit (KeepsLimit station sheet)
      ⊎ IsStandingAt limit 9
  limit_or_standing None = inl tt
  limit_or_standing (Some limit) =
      let rs = observations station sheet in
      elim (none_or_first (IsAbove limit (choice_stated_by sheet) rs)
      (λ k. dec_lt (limit * sheet.denominator)
      (unsigned_abs (slice_index_or (map (residual (choice_stated_by sheet)) rs) k (pos 0))))
      (length rs)) [
        | inl none ↦ inl (λ k d inside.
            within_size _ _ (λ above. none k inside (rw (residual_at k d inside) above)))
        | inr f ↦ inr (Residual (f.0 + 1), refl, (f.0, refl, f.1))
      ]

  -- Each test finds no fault, or one that stands.
  clear_or_standing : (limit : Option ℕ) (n : ℕ) → IsClearAt station sheet limit n
      ⊎ IsStandingAt limit n
  clear_or_standing limit =
      let c = choice_stated_by sheet in
      let rs = observations station sheet in
      next _ (inl tt)
      (next _ (or_then (decided (same_bytes sheet.name station.name)) (λ f. (Name, refl, f)))
      (next _ (or_then (same_or_first same_bytes (names_of sheet) station.targets)
      (λ f. (TargetRow (f.0 + 1), refl, (f.0, refl, f.1))))
      (next _ (or_then (same_or_first ℕ_discrete (numbers_of sheet) station.sets)
      (λ f. (SetRow (f.0 + 1), refl, (f.0, refl, f.1))))
      (next _ (or_then (same_or_first same_key (keys_of sheet) (observed station))
      (λ f. (ObsRow (f.0 + 1), refl, (f.0, refl, f.1))))
      (next _ (or_then (decided (ℤ_discrete (c.direction 0) (pos 0))) (λ f. (Datum, refl, f)))
      (next _ (or_then (zeros_or_first (target_sum c rs) (length station.targets))
      (λ f. (TargetSum (f.0 + 1), refl, (f.0, refl, f.1))))
      (next _ (or_then (zeros_or_first (set_sum c rs) (length station.sets))
      (λ f. (SetSum (f.0 + 1), refl, (f.0, refl, f.1))))
      (next _ (or_then (connected_or_divided (length station.sets) (length station.targets) rs)
      (λ f. (NotConnected, refl, f)))
      (next _ (limit_or_standing limit) (λ n. inl tt))))))))))

  -- What holds where no fault of a kind stands, whatever its number.
  clear_where_none_stands : (limit : Option ℕ) (n : ℕ) → (IsStandingAt limit n → ⊥)
      → IsClearAt station sheet limit n
  clear_where_none_stands limit n none = elim (clear_or_standing limit n) [
    | inl clear ↦ clear
    | inr f ↦ absurd (none f)
  ]

  -- Where a sheet is accepted, no fault of any kind stands.
  pub clear_where_accepted : (limit : Option ℕ) (accepted : Accepted)
      → IsVerdict station sheet limit (Ok accepted) → (fault : KernelFault)
      → IsClearOf station sheet limit fault
  clear_where_accepted limit accepted v fault =
      clear_where_none_stands limit (order_of fault) (λ f. v.0 f.0 f.2)

  -- Where a sheet is refused, no fault stands that is looked for before the one reported.
  pub clear_where_refused : (limit : Option ℕ) (fault : KernelFault)
      → IsVerdict station sheet limit (Err fault) → (other : KernelFault)
      → order_of other < order_of fault → IsClearOf station sheet limit other
  clear_where_refused limit fault v other before = clear_where_none_stands limit (order_of other)
      (λ f. v.1 f.0 (omega (arith, f.1, before)) f.2)

  -- A sheet of which the first five tests find nothing is of the station.
  matches_where_clear : (limit : Option ℕ) → ((n : ℕ) → n < 6 → IsClearAt station sheet limit n)
      → Matches station sheet
  matches_where_clear limit clear = record {
    name = clear 1 (omega arith);
    targets = clear 2 (omega arith);
    sets = clear 3 (omega arith);
    rows = clear 4 (omega arith);
    datum = clear 5 (omega arith);
  }

  -- An accepted sheet is of the station.
  pub matches_where_accepted : (limit : Option ℕ) (accepted : Accepted)
      → IsVerdict station sheet limit (Ok accepted) → Matches station sheet
  matches_where_accepted limit accepted v = matches_where_clear limit
      (λ n h. clear_where_none_stands limit n (λ f. v.0 f.0 f.2))

  -- So is one that is refused for its sums or for what is looked for after them.
  pub matches_where_refused : (limit : Option ℕ) (fault : KernelFault)
      → IsVerdict station sheet limit (Err fault) → 5 < order_of fault → Matches station sheet
  matches_where_refused limit fault v past = matches_where_clear limit
      (λ n h. clear_where_none_stands limit n (λ f. v.1 f.0 (omega (arith, f.1, h, past)) f.2))

  -- And the first five tests of a sheet that is of the station find nothing.
  kept : Matches station sheet → (limit : Option ℕ) (n : ℕ) → n < 6
      → IsClearAt station sheet limit n
  kept matches limit =
      let more = below_more (IsClearAt station sheet limit) in
      more 5 (more 4 (more 3 (more 2 (more 1 (more 0 (below_none _) tt) matches.name)
      matches.targets) matches.sets) matches.rows) matches.datum

  -- Where all is as it has to be, what is said of an accepted sheet is the verdict.
  pub accepted_verdict : (limit : Option ℕ) (accepted : Accepted) → Matches station sheet
      → TargetsAddUp station sheet → SetsAddUp station sheet → HoldsTogether station sheet
      → IfSome limit (KeepsLimit station sheet)
      → IsAcceptance station sheet accepted → IsVerdict station sheet limit (Ok accepted)
  accepted_verdict limit accepted matches targets sets connected within said =
      ((λ fault. not_standing limit fault (clear fault)), said) where
        clear : (fault : KernelFault) → IsClearOf station sheet limit fault
        clear (TargetSum n) = targets
        clear (SetSum n) = sets
        clear NotConnected = connected
        clear (Residual n) = within
        clear fault = kept matches limit (order_of fault) (omega arith)

  -- Such a sheet with some observations is accepted.
  pub accepted_sheet : (limit : Option ℕ) → Matches station sheet → TargetsAddUp station sheet
      → SetsAddUp station sheet → HoldsTogether station sheet
      → IfSome limit (KeepsLimit station sheet)
      → 1 ≤ length (observations station sheet) → IsAcceptedSheet station sheet limit
  accepted_sheet limit matches targets sets connected within some =
      let largest = greatest_is (choice_stated_by sheet) (observations station sheet) some in
      let said = said_with
      (pos (greatest_size (choice_stated_by sheet) (observations station sheet))) in
      let verdict = accepted_verdict limit said matches targets sets connected within
      (search (rules, largest)) in
      (said, verdict)

  -- The verdict of a fault that stands, where what is looked for before it is as it has to be.
  refused : (limit : Option ℕ) (fault : KernelFault) → Stands station sheet limit fault
      → ((n : ℕ) → n < order_of fault → IsClearAt station sheet limit n)
      → IsVerdict station sheet limit (Err fault)
  refused limit fault stands clear =
      (stands, λ other h. not_standing limit other (clear (order_of other) h))

  -- There is a verdict, where something was observed: the first fault that stands, or none.
  pub some_verdict : (limit : Option ℕ) → 1 ≤ length station.obs
      → (verdict : Result Accepted KernelFault) × IsVerdict station sheet limit verdict
  some_verdict limit some = elim (none_or_first (IsStandingAt limit) standing 10) [
    | inr (n, first) ↦
        let (fault, same, stands) = first.here in
        let verdict = refused limit fault stands (λ k below. clear_where_none_stands limit k
        (first.before k (omega (arith, below, same)))) in
        (Err fault, verdict)
    | inl none ↦
        let clear : (n : ℕ) → n < 10 → IsClearAt station sheet limit n =
        λ n h. clear_where_none_stands limit n (none n h) in
        let matches = matches_where_clear limit (λ n h. clear n (omega (arith, h))) in
        let same_length = sym (length-map station.obs (key_of_obs station.sets station.targets))
        ∙ ap length (sym matches.rows) ∙ length-map sheet.rows key_of_row in
        let long = length-turned_by_rows station.obs sheet.rows same_length in
        let (accepted, verdict) = accepted_sheet limit matches (clear 6 (omega arith))
        (clear 7 (omega arith)) (clear 8 (omega arith)) (clear 9 (omega arith))
        (omega (arith, long, some)) in
        (Ok accepted, verdict)
  ] where
    standing : (n : ℕ) → Dec (IsStandingAt limit n)
    standing n = elim (clear_or_standing limit n) [
      | inl clear ↦ no (λ f. not_standing limit f.0
          (subst (IsClearAt station sheet limit) (sym f.1) clear) f.2)
      | inr f ↦ yes f
    ]

  -- The first target whose residuals do not add to 0 is the fault, where the sheet is of the
  -- station.
  pub target_sum_fault : (n : ℕ) → Matches station sheet
      → IsFirstWhere
      (λ t. target_sum (choice_stated_by sheet) (observations station sheet) t ≢ pos 0)
      (length station.targets) n → IsFault station sheet (TargetSum (n + 1))
  target_sum_fault n matches first limit = refused limit (TargetSum (n + 1)) (n, refl, first)
      (kept matches limit)

  -- The first set whose residuals do not add to 0 is the fault, where the targets add up.
  pub set_sum_fault : (n : ℕ) → Matches station sheet → TargetsAddUp station sheet
      → IsFirstWhere (λ s. set_sum (choice_stated_by sheet) (observations station sheet) s ≢ pos 0)
      (length station.sets) n → IsFault station sheet (SetSum (n + 1))
  set_sum_fault n matches targets first limit = refused limit (SetSum (n + 1)) (n, refl, first)
      (below_more (IsClearAt station sheet limit) 6 (kept matches limit) targets)

  -- Where targets and sets add up, but are in two parts, the fault is that they are not connected.
  pub connection_fault : Matches station sheet → TargetsAddUp station sheet
      → SetsAddUp station sheet → IsDivided (length station.sets) (length station.targets)
      (observations station sheet) → IsFault station sheet NotConnected
  connection_fault matches targets sets divided limit =
      let more = below_more (IsClearAt station sheet limit) in
      refused limit NotConnected divided (more 7 (more 6 (kept matches limit) targets) sets)

  -- The first residual above the limit is the fault, where all looked for before is as it has to
  -- be.
  pub residual_fault : (limit n : ℕ) → Matches station sheet → TargetsAddUp station sheet
      → SetsAddUp station sheet → HoldsTogether station sheet
      → IsFirstWhere (IsAbove limit (choice_stated_by sheet) (observations station sheet))
      (length (observations station sheet)) n → IsVerdict station sheet (Some limit)
      (Err (Residual (n + 1)))
  residual_fault limit n matches targets sets connected first =
      let more = below_more (IsClearAt station sheet (Some limit)) in
      refused (Some limit) (Residual (n + 1)) (n, refl, first)
      (more 8 (more 7 (more 6 (kept matches (Some limit)) targets) sets) connected)
