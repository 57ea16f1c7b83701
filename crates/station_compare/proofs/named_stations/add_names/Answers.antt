use Rattle.std.proofs.Common.{◌++◌, ap, append_assoc, arith, slice_get, sym, ◌∙◌, List, ℕ}
use Rattle.station_compare.specs.HintTexts.{names_before}
use Rattle.station_compare.specs.NameLists.{name_after}
use Rattle.station_compare.proofs.NameLists.{names_more}
use Rattle.station_compare.proofs.named_stations.add_names.Goals as goal

pub stations-preserved : goal.stations-preserved
stations-preserved c =
    let stations = c.args.stations.now in
    let place = c.stations.place in
    let next = name_after place (slice_get stations place) in
    record {
      items = c.add_name.ensures.items
          ∙ ap (λ (t : List ℕ). t ++ next) c.stations.invariant.items
          ∙ append_assoc c.args.line.now.items (names_before place stations) next
          ∙ ap (λ (t : List ℕ). c.args.line.now.items ++ t) (sym (names_more stations place));
      len = omega (arith, c.add_name.ensures.len, c.stations.invariant.len);
    }
