use Rattle.std.proofs.Common.{◌≡◌, ℕ, ◌+◌, ◌<◌, ◌≤◌, get_or, length}
use Rattle.std.specs.Map.{keys_of, values_of}
use Rattle.indexmap.specs.IndexMap.{spare}
use Rattle.adjust_kernel.specs.declared.bounds.TheConstants.{MOST_TARGETS}
use Rattle.station_book.specs.Slots.{empty_slot}
use Rattle.station_book.proofs.targets.Targets.empty_slots.Given as goal

abbrev pub invariant-slots : goal.invariant-slots
invariant-slots l = record {
  names : keys_of l.self-inside.slots.entries ≡ l.fn.self.names;
  size : length l.self-inside.slots.entries ≡ l.place-end;
  room : MOST_TARGETS ≤ length l.self-inside.slots.entries + spare l.self-inside.slots;
  whole : length l.fn.self.slots ≡ l.place-end;
  empty : (k : ℕ) → k < l.place
      → get_or (values_of l.self-inside.slots.entries) k empty_slot ≡ empty_slot;
}
