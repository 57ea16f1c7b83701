use Rattle.std.proofs.Common.{◌≡◌, ◌*◌, rules}
use Rattle.std.specs.Prelude.{decimal}
use Rattle.angle_texts.specs.MgonTexts.{mgon_text, short_mgon_text}
use Rattle.direction_table.specs.Texts.{direction_text}
use Rattle.report_rows.specs.RowTexts.{read_text}
use Rattle.row_forms.specs.Forms.{number_in}
use Rattle.station_report.specs.Readings.{reading_one, reading_two, zenith_mean, zenith_one}
use Rattle.station_report.specs.Readings.{zenith_two}
use Rattle.report_rows.proofs.text.push_observation.Goals as goal

pub returns : goal.returns
returns g c =
    let form = c.args.form in
    let row = c.args.row in
    let f = c.args.differences in
    let number : c.as_bytes.result.now ≡ decimal row.set = search rules in
    let face_one : c.as_slice.result.now ≡ number_in form (read_text (reading_one row.value
    f.two_c)) = search rules in
    let face_two : c.as_slice-2.result.now ≡ number_in form (read_text (reading_two row.value
    f.two_c)) = search rules in
    let direction : c.as_slice-3.result.now
    ≡ number_in form (direction_text 6 (5_000 * row.value)) = search rules in
    let two_c : c.as_slice-4.result.now ≡ number_in form (short_mgon_text f.two_c) =
    search rules in
    let two_i : c.as_slice-5.result.now ≡ number_in form (short_mgon_text f.two_i) =
    search rules in
    let adjusted : c.as_slice-6.result.now ≡ number_in form (direction_text 6 row.adjusted) =
    search rules in
    let residual : c.as_slice-7.result.now ≡ number_in form (mgon_text row.residual) = search rules in
    let zenith_i : c.as_slice-8.result.now
    ≡ number_in form (read_text (zenith_one f.zenith)) = search rules in
    let zenith_ii : c.as_slice-9.result.now
    ≡ number_in form (read_text (zenith_two f.zenith f.two_i)) = search rules in
    let zenith : c.as_slice-10.result.now
    ≡ number_in form (direction_text 6 (5_000 * zenith_mean f.zenith f.two_i)) = search rules in
    rw (
      c.bytes.ensures.value,
      number,
      c.bytes-2.ensures.value,
      face_one,
      face_two,
      direction,
      two_c,
      two_i,
      adjusted,
      residual,
      zenith_i,
      zenith_ii,
      zenith,
    ) at (c.write_row.ensures form)
