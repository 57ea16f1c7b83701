use Rattle.std.proofs.Common.{◌≡◌, ◌*◌, length, None, sym, ◌∙◌, subst}
use Rattle.adjust_kernel.specs.Sheets.{SheetValue, IsSheet}
use Rattle.adjust_kernel.specs.Verdict.{IsAcceptedSheet}
use Rattle.adjust_kernel.proofs.LawLemmas.{accepted_sheet}
use Rattle.sheet_means.specs.Means.{IsMeansSheet, IsUnturnedAtFirst}
use Rattle.sheet_means.proofs.MeansSheetLaws.{is_sheet, is_means_sheet, is_unturned, targets_add_up}
use Rattle.sheet_means.proofs.MeansSheetLaws.{sets_add_up, holds_together, some_observations}
use Rattle.sheet_means.proofs.sheet.sheet_of.Goals as goal
use Rattle.sheet_means.proofs.sheet.sheet_of.Goals.{After-from_valid}

-- The sheet that is made, with the station's own name and counts.
made : (c : After-from_valid) → c.from_valid.result ≡ record {
  name = c.args.station.now.name;
  denominator = length c.args.station.now.sets * length c.args.station.now.targets;
  directions = c.args.directions.items;
  orientations = c.args.orientations.items;
  rows = c.args.rows.items;
}
made c = c.from_valid.ensures ∙ (λ i. record {
  name = c.name.ensures.value i;
  denominator = length (c.sets.ensures.value i) * length (c.targets.ensures.value i);
  directions = c.args.directions.items;
  orientations = c.args.orientations.items;
  rows = c.args.rows.items;
})

pub from_valid-requires : goal.from_valid-requires
from_valid-requires c =
    let valid = c.name.ensures.valid in
    let sets = c.sets.ensures.value in
    let targets = c.targets.ensures.value in
    let name = c.name.ensures.value in
    let fits =
    is_sheet c.args.station.now valid c.requires.complete c.args.rows.items c.requires.rows
    c.args.directions.items c.requires.directions c.args.orientations.items
    c.requires.orientations in
    subst IsSheet (sym (λ i. record {
      name = name i;
      denominator = length (sets i) * length (targets i);
      directions = c.args.directions.items;
      orientations = c.args.orientations.items;
      rows = c.args.rows.items;
    })) fits

pub returns-clause-sheet : goal.returns-clause-sheet
returns-clause-sheet c =
    subst (IsMeansSheet c.args.station.now)
    (sym (made (goal.at.returns-clause-sheet c).After-from_valid))
    (is_means_sheet c.args.station.now c.name.ensures.valid c.requires.complete c.args.rows.items
    c.requires.rows c.args.directions.items c.requires.directions c.args.orientations.items
    c.requires.orientations)

pub returns-clause-accepted : goal.returns-clause-accepted
returns-clause-accepted c =
    let station = c.args.station.now in
    let valid = c.name.ensures.valid in
    let rows = c.args.rows.items in
    let directions = c.args.directions.items in
    let orientations = c.args.orientations.items in
    subst (λ (sheet : SheetValue). IsAcceptedSheet station sheet None)
    (sym (made (goal.at.returns-clause-accepted c).After-from_valid))
    (accepted_sheet station (record {
      name = station.name;
      denominator = length station.sets * length station.targets;
      directions = directions;
      orientations = orientations;
      rows = rows;
    }) None
    (is_means_sheet station valid c.requires.complete rows c.requires.rows directions
    c.requires.directions orientations c.requires.orientations).matches
    (targets_add_up station valid c.requires.complete rows c.requires.rows directions
    c.requires.directions orientations c.requires.orientations)
    (sets_add_up station valid c.requires.complete rows c.requires.rows directions
    c.requires.directions orientations c.requires.orientations)
    (holds_together station valid c.requires.complete rows c.requires.rows directions
    c.requires.directions orientations c.requires.orientations)
    tt
    (some_observations station valid c.requires.complete rows c.requires.rows directions
    c.requires.directions orientations c.requires.orientations))

pub returns-clause-unturned : goal.returns-clause-unturned
returns-clause-unturned c =
    subst (IsUnturnedAtFirst c.args.station.now)
    (sym (made (goal.at.returns-clause-unturned c).After-from_valid))
    (is_unturned c.args.station.now c.name.ensures.valid c.requires.complete c.args.rows.items
    c.requires.rows c.args.directions.items c.requires.directions c.args.orientations.items
    c.requires.orientations)
