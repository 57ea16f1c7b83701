use Rattle.std.proofs.Common.{rules, ◌≡◌, ◌<◌, ◌∷◌, [], None, Some, Err, OnErr, sym, ap, ◌∙◌}
use Rattle.std.proofs.Common.{subst, ℕ, List, length, arith}
use Rattle.std.specs.Map.{keys_of, values_of}
use Rattle.std.proofs.lemmas.List.{length-map, map-append}
use Rattle.indexmap.specs.Entry.{entry_index, entry_map, entry_value, map_with_value}
use Rattle.station_book.specs.declared.fault.BookKind.TheVariants as kinds
use Rattle.station_book.specs.declared.slot.Slot.{Slot}
use Rattle.station_book.specs.StationState.{place_of}
use Rattle.station_book.specs.Targets.{TargetsValue, with_target}
use Rattle.station_book.proofs.states.TargetMaps.{added, found_place, known_place, unknown_place}
use Rattle.station_book.proofs.states.TargetMaps.{of_ok}
use Rattle.station_book.proofs.targets.Targets.search_or_add.Goals as goal

pub returns-in_err-place-clause-absent : goal.returns-in_err-place-clause-absent
returns-in_err-place-clause-absent c =
    let none : c.get_index_of.result ≡ None = search rules in
    let it : Err kinds.TooManyTargets ≡ c.from_residual.result = search rules in
    subst (λ r. OnErr r (place_of c.args.name c.args.self.now.names ≡ None)) it
    (sym (c.get_index_of.ensures.index
    ∙ found_place c.args.name (keys_of c.self.inside.slots.entries)
    ∙ ap (λ (t : TargetsValue). place_of c.args.name t.names) c.self.view_is) ∙ none)

pub returns-then-count-ge-MOST_TARGETS-clause-placed :
    goal.returns-then-count-ge-MOST_TARGETS-clause-placed
returns-then-count-ge-MOST_TARGETS-clause-placed c =
    let found : Some c.in_ok-place.place ≡ c.get_index_of.result = search rules in
    record {
      here = found ∙ c.get_index_of.ensures.index
          ∙ found_place c.args.name (keys_of c.self.inside.slots.entries)
          ∙ ap (λ (t : TargetsValue). place_of c.args.name t.names) c.self.view_is;
      inside = search rules;
      unchanged = search rules;
    }

pub returns-in-Occupied-clause-placed : goal.returns-in-Occupied-clause-placed
unfolding entry_index
returns-in-Occupied-clause-placed c =
    let es = c.self.inside.slots.entries in
    let same : c.in-Occupied.target.map.now.entries ≡ es =
    ap (λ e. (entry_map e).entries) (sym c.in-Occupied.is)
    ∙ of_ok _ c.entry.result c.unwrap.result c.unwrap.ensures c.entry.ensures.unchanged in
    let inside : c.index.result < length (keys_of es) =
    let within = c.in-Occupied.target.within in let long = ap length same in let keys =
    length-map es (λ (e : List ℕ × Slot). e.0) in let at = c.index.ensures in omega
    (arith, within, long, keys, at) in
    let names = ap (λ (t : TargetsValue). t.names) c.self.view_is in
    record {
      here = known_place c.args.name (keys_of es) c.index.result
          (c.index.ensures ∙ ap entry_index (sym c.in-Occupied.is)
          ∙ of_ok _ c.entry.result c.unwrap.result c.unwrap.ensures c.entry.ensures.index) inside
          ∙ ap (place_of c.args.name) names;
      inside = subst (λ (ns : List (List ℕ)). c.index.result < length ns) names inside;
      unchanged = search rules;
    }

pub returns-in-Vacant-clause-placed : goal.returns-in-Vacant-clause-placed
unfolding entry_value
returns-in-Vacant-clause-placed c =
    let es = c.self.inside.slots.entries in
    let one : List (List ℕ × Slot) = (c.args.name, c.args.first) ∷ [] in
    let none = sym (of_ok _ c.entry.result c.unwrap.result c.unwrap.ensures c.entry.ensures.value)
    ∙ ap entry_value c.in-Vacant.is in
    let now : c.self-in-Vacant-2-1.given.0 ≡ map_with_value c.unwrap.result c.args.first = search
    rules in
    let more = ap (λ m. m.entries) now ∙
    (of_ok _ c.entry.result c.unwrap.result c.unwrap.ensures c.entry.ensures.update).1 c.args.first
    ∙ added c.args.name c.args.first es none in
    record {
      absent = unknown_place c.args.name es none
          ∙ ap (λ (t : TargetsValue). place_of c.args.name t.names) c.self.view_is;
      room = (let keys = length-map es (λ (e : List ℕ × Slot). e.0) in let names =
          ap (λ (t : TargetsValue). length t.names) c.self.view_is in omega (arith, keys, names));
      added = (λ i. record { names = keys_of (more i); slots = values_of (more i) })
          ∙ (λ i. record {
            names = map-append (λ e. e.0) es one i;
            slots = map-append (λ e. e.1) es one i;
          }) ∙ ap (with_target c.args.name c.args.first) c.self.view_is;
    }
