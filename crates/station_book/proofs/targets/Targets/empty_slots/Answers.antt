use Rattle.std.proofs.Common.{length, replicate, sym, ◌∙◌, arith}
use Rattle.std.specs.Map.{values_of}
use Rattle.std.proofs.lemmas.List.{ext_get_or, get_or-replicate, length-replicate}
use Rattle.indexmap.specs.Layout.{length-set_value_at}
use Rattle.station_book.specs.Slots.{empty_slot}
use Rattle.std.proofs.lemmas.Map.Entries.{length-values_of}
use Rattle.station_book.proofs.states.TargetMaps.{same_keys, emptied}
use Rattle.station_book.proofs.targets.Targets.empty_slots.Goals as goal

pub slots-preserved : goal.slots-preserved
slots-preserved c =
    let es = c.slots.self-inside.slots.entries in
    let size = c.slots.invariant.size in
    record {
      names = same_keys es c.slots.place c.empty_slot.result ∙ c.slots.invariant.names;
      size = length-set_value_at es c.slots.place c.empty_slot.result ∙ size;
      room = (let room = c.slots.invariant.room in let long =
          length-set_value_at es c.slots.place c.empty_slot.result in omega (arith, room, long));
      whole = c.slots.invariant.whole;
      empty = λ k lt. emptied es c.slots.place k c.empty_slot.result empty_slot
          (omega (arith, size)) (omega (arith, lt)) c.slots.invariant.empty c.empty_slot.ensures;
    }

pub invariant_of-self : goal.invariant_of-self
invariant_of-self c = c.slots.invariant.room

pub returns-clause-slots : goal.returns-clause-slots
returns-clause-slots c =
    let es = c.slots.self-inside.slots.entries in
    let n = length c.args.self.now.slots in
    let same = c.slots.invariant.size in
    let whole = c.slots.invariant.whole in
    let values = length-values_of es in
    let size = length-replicate n empty_slot in
    ext_get_or empty_slot (values_of es) (replicate n empty_slot)
    (omega (arith, same, whole, values, size))
    (λ i lt. c.slots.invariant.empty i (omega (arith, same, whole, values, lt))
    ∙ sym (get_or-replicate n i empty_slot empty_slot (omega (arith, same, whole, values, lt))))
