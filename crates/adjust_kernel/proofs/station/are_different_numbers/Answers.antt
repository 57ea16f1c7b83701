use Rattle.std.proofs.Common.{◌≡◌, ◌≢◌, ◌<◌, ◌∙◌, ℕ, List, true, false, length, take, get_or}
use Rattle.std.proofs.Common.{arith, sym}
use Rattle.std.specs.Prelude.{nat_eq}
use Rattle.std.proofs.lemmas.Bool.{eqb-true, eq-eqb, true≢false}
use Rattle.std.proofs.lemmas.List.{get_or-take, get_or_default, length-take-le}
use Rattle.adjust_kernel.proofs.EachTwo.{another}
use Rattle.adjust_kernel.proofs.station.are_different_numbers.Goals as goal

-- A number in the beginning of a list is there in the list.
found_at : (numbers : List ℕ) (n k x : ℕ) → n < length numbers → k < length (take n numbers)
    → nat_eq (get_or (take n numbers) k 0) x ≡ true → (k < n) × (get_or numbers k 0 ≡ x)
found_at numbers n k x inside within same =
    let below : k < n = omega (arith, length-take-le n numbers (omega arith)) in
    (below, sym (get_or-take n numbers k 0 below) ∙ eqb-true _ _ same)

-- Where no number in the beginning of a list is this one, none before that place is.
none_at : (numbers : List ℕ) (n x : ℕ) → n < length numbers
    → ((k d : ℕ) → k < length (take n numbers) → nat_eq (get_or (take n numbers) k d) x ≡ false)
    → (k : ℕ) → k < n → get_or numbers k x ≢ x
none_at numbers n x inside none k below same =
    let within : k < length (take n numbers) =
    omega (arith, length-take-le n numbers (omega arith)) in
    true≢false (sym (eq-eqb _ _ (get_or-take n numbers k x below ∙ same)) ∙ none k x within)

pub returns-then-contains : goal.returns-then-contains
returns-then-contains c =
    let numbers = c.args.numbers.now in
    let place = c.loop-place.place in
    let found = c.if-contains.ensures.cases in
    let at = found_at numbers place found.0 (get_or numbers place 0) c.loop-place-test.true found.1
    (found.2 0) in (
      λ h. absurd (true≢false (sym h)),
      λ different. absurd (different found.0 place 0 at.0 c.loop-place-test.true at.1),
    )

pub loop-place-preserved : goal.loop-place-preserved
loop-place-preserved c =
    let numbers = c.args.numbers.now in
    let place = c.loop-place.place in
    let number = get_or numbers place 0 in
    another numbers place number c.loop-place-test.true
    (get_or_default numbers place 0 number c.loop-place-test.true)
    (none_at numbers place number c.loop-place-test.true
    (λ k d within. c.if-contains.ensures.cases k d (omega arith) within))
    c.loop-place.invariant
