use Rattle.std.proofs.Common.{◌≡◌, ◌<◌, ◌∙◌, ap, arith, length, option_copied, rules, sym}
use Rattle.std.specs.Prelude.{false, is_some, true}
use Rattle.station_check.proofs.ListLaws.{some_inside}
use Rattle.station_tables.proofs.PartLaws.{count_here, count_later, some_made}
use Rattle.station_tables.specs.Said.{is_of}
use Rattle.station_tables.proofs.stray.of_how_many.Goals as goal
use Rattle.station_tables.proofs.stray.of_how_many.Goals.{in-Some+then-is_some}
use Rattle.station_tables.proofs.stray.of_how_many.Goals.{in-Some+else-is_some, in_default}

pub stations-preserved : goal.stations-preserved
stations-preserved c =
    let line = c.args.line.now in
    let stations = c.args.stations.now in
    let place = c.stations.place in
    let count = c.stations.count in
    elim c.match-at.branch [
      | in-Some+then-is_some w ↦
          let its = w.in-Some.surveyed.now in
          let name_is : w.name.result ≡ its.station.name = search rules in
          let found : is_some w.said_of.result ≡ true = search rules in
          let own : is_of its.station.name line ≡ true =
          ap (λ name. is_of name line) (sym name_is)
          ∙ sym (some_made w.said_of.result _ w.said_of.ensures) ∙ found in
          rw w.count-is (record {
            all = count_here line stations place its
                (sym c.at.ensures ∙ ap option_copied w.in-Some.is) count own
                ∙ c.stations.invariant.all;
            few = omega (arith, c.stations.invariant.few);
          })
      | in-Some+else-is_some w ↦
          let its = w.in-Some.surveyed.now in
          let name_is : w.name.result ≡ its.station.name = search rules in
          let none : is_some w.said_of.result ≡ false = search rules in
          let own : is_of its.station.name line ≡ false =
          ap (λ name. is_of name line) (sym name_is)
          ∙ sym (some_made w.said_of.result _ w.said_of.ensures) ∙ none in
          rw w.count-is (record {
            all = count_later line stations place its
                (sym c.at.ensures ∙ ap option_copied w.in-Some.is) count own
                ∙ c.stations.invariant.all;
            few = omega (arith, c.stations.invariant.few);
          })
      | in_default w ↦
          let inside : place < length stations = search rules in
          absurd (some_inside stations place inside
          (sym c.at.ensures ∙ ap option_copied w.in_default.is))
    ]
