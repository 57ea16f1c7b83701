use Rattle.std.proofs.Common.{◌≡◌, ◌++◌, flat_map, take}
use Rattle.list_rows.specs.RowTexts.{rows_of}
use Rattle.row_forms.specs.Forms.{rows_text}
use Rattle.list_rows.proofs.text.push_stations.Given as goal

abbrev pub invariant-stations : goal.invariant-stations
invariant-stations l = l.text.items
    ≡ l.fn.text.items ++ rows_text l.form (flat_map (rows_of l.form) (take l.place l.stations))
