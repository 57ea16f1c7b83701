use Rattle.std.proofs.Common.{◌≡◌, ◌∙◌, ◌≤◌, ◌++◌, List, ℕ, Some, ap, length, rules, slice_get}
use Rattle.std.proofs.Common.{sym}
use Rattle.adjust_kernel.specs.Matching.{key_of_obs}
use Rattle.adjust_kernel.specs.Stations.{StationValue}
use Rattle.csv.specs.Writing.{row_text}
use Rattle.row_forms.specs.Forms.{writer_of}
use Rattle.list_rows.specs.RowTexts.{row_of}
use Rattle.list_rows.proofs.RowLaws.{all-pairs, pair-joined}
use Rattle.list_rows.proofs.text.push_surveyed.Goals as goal

pub observations-preserved : goal.observations-preserved
observations-preserved c =
    let s = c.args.surveyed.now in
    let place = c.observations.place in
    let station_is = c.station-station.ensures in
    let observation = c.observation_at-observation.result in
    let differences = c.differences_at-differences.result in
    let o : slice_get s.station.obs place ≡ Some observation =
    ap (λ (t : StationValue). slice_get t.obs place) (sym station_is)
    ∙ c.observation_at-observation.ensures.here in
    let f : slice_get s.faces place ≡ Some differences =
    ap (λ (xs : _). slice_get xs place) (sym c.faces-faces.ensures.value)
    ∙ c.differences_at-differences.ensures in
    let key = key_of_obs s.station.sets s.station.targets in
    let form = c.args.form in
    let line = row_text (writer_of form)
    (row_of form s.station.name (key observation, differences)) in
    let written = rw station_is at c.in_ok-push_observation.ensures in
    written ∙ ap (λ (t : List ℕ). t ++ line) c.observations.invariant
    ∙ pair-joined form key (row_of form s.station.name) c.args.text.now.items s.station.obs s.faces place
    observation differences o f

pub returns : goal.returns
returns c =
    let s = c.args.surveyed.now in
    let past : length s.station.obs ≤ c.observations.place = search rules in
    let whole = all-pairs (key_of_obs s.station.sets s.station.targets) s.station.obs s.faces
    c.observations.place past in
    rw whole at c.observations.invariant
