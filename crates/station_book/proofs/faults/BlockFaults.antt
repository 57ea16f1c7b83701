-- The fault of a block by what is kept is its fault by the blocks before it; and where memory is
-- wanted.
use Rattle.std.proofs.Common.{◌≡◌, ◌+◌, ℕ, ◌∷◌, None, Result, Ok, Err, sym, ap, ◌∙◌, subst, refl}
use Rattle.std.specs.Prelude.{OnOk, IfErr}
use Rattle.gsi_word.specs.Blocks.{GsiBlock}
use Rattle.station_book.specs.declared.fault.BookFault.{BookFault}
use Rattle.station_book.specs.declared.fault.BookFault.TheVariants.{At, Memory}
use Rattle.station_book.specs.declared.role.Role.{Role}
use Rattle.station_book.specs.declared.role.Role.TheVariants as roles
use Rattle.station_book.specs.Limits.{FaceLimits}
use Rattle.station_book.specs.Blocks.{role_of, opens_set}
use Rattle.station_book.specs.State as states
use Rattle.station_book.specs.Refusals.{ExplainsFault, WantsOnlyAt}
use Rattle.station_book.specs.Places.{History}
use Rattle.station_book.specs.Faults.{first_of, end_faults, station_faults, faults_as, fault_after}
use Rattle.station_book.specs.Faults.{fault_at_end}
use Rattle.station_book.specs.State.{then_fault}
use Rattle.station_book.specs.StandsFor.{StandsFor, ExplainsBlock}
use Rattle.station_book.proofs.histories.FileEnd.{same_end}
use Rattle.station_book.proofs.histories.TakenBlocks.{at_own, taken_state}
use Rattle.station_book.proofs.faults.FaultOrder.{first_append}
use Rattle.station_book.proofs.faults.SetFaults.{same_set_fault}
use Rattle.station_book.proofs.faults.ReadingFaults.{same_measurement_fault}

-- THE LAW of faults: a block's fault by what is kept is its fault by the blocks before
own_fault : (k : states.State) (b : GsiBlock) (past : History) → StandsFor k.limits k past
    → states.fault_of k b ≡ fault_after k.limits past b
unfolding fault_after fault_at_end
own_fault k b past h = by (role_of b) where
  by : (r : Role) → states.fault_as r k b ≡ first_of (faults_as r k.limits past b)
  by roles.Station = (λ i. then_fault (same_end k past h i) (first_of (station_faults b)))
      ∙ sym (first_append (end_faults past) (station_faults b))
  by roles.Set = same_set_fault k b past h
  by roles.Close = same_end k past h
  by roles.Measurement = same_measurement_fault k b past h
  by roles.Other = refl

-- The same, under the limits with which the book stands for the blocks.
pub same_fault : (limits : FaceLimits) (k : states.State) (b : GsiBlock) (past : History)
    → StandsFor limits k past → states.fault_of k b ≡ fault_after limits past b
same_fault limits k b past h = own_fault k b past (at_own limits k past h)
    ∙ ap (λ (l : FaceLimits). fault_after l past b) h.limited

-- Where `take` succeeds, the block has no fault after the blocks before it.
pub take_clean : {X E : Type 0} (k : states.State) (b : GsiBlock) (r : Result X E)
    → OnOk r (states.fault_of k b ≡ None)
    → OnOk r ((limits : FaceLimits) (h : History) → StandsFor limits k h
    → fault_after limits h b ≡ None)
take_clean k b (Ok x) clean = λ limits h it. sym (same_fault limits k b h it) ∙ clean
take_clean k b (Err e) clean = clean

-- Where `take` succeeds, what is kept stands for the blocks with this one.
pub take_taken : {X E : Type 0} (k new : states.State) (b : GsiBlock) (r : Result X E)
    → OnOk r (states.fault_of k b ≡ None) → OnOk r (new ≡ states.after b k)
    → OnOk r ((limits : FaceLimits) (h : History) → StandsFor limits k h
    → StandsFor limits new (b ∷ h))
take_taken k new b (Ok x) clean same = λ limits h it.
    let own = at_own limits k h it in
    subst (λ (l : FaceLimits). StandsFor l new (b ∷ h)) it.limited
    (subst (λ (w : states.State). StandsFor k.limits w (b ∷ h)) (sym same)
    (taken_state k.limits k.taken k.stage k.stations b h (role_of b) refl clean
    (sym (own_fault k b h own) ∙ clean) own))
take_taken k new b (Err e) clean same = same

-- Where `take` refuses, its error explains the fault of the block, or that memory was wanted.
pub take_fault : {X : Type 0} (k : states.State) (b : GsiBlock) (r : Result X BookFault)
    → IfErr r (ExplainsFault (k.taken + 1) (states.fault_of k b))
    → IfErr r (WantsOnlyAt (opens_set b))
    → IfErr r (λ e. (limits : FaceLimits) (h : History) → StandsFor limits k h
    → ExplainsBlock limits h b e)
take_fault k b (Ok x) why only = why
take_fault k b (Err (At n kind)) why only = λ limits h it.
    (why.0 ∙ ap (λ (m : ℕ). m + 1) it.counted, sym (same_fault limits k b h it) ∙ why.1)
take_fault k b (Err Memory) why only = λ limits h it.
    (sym (same_fault limits k b h it) ∙ why, only)
