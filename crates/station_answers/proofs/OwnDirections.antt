-- A comparison of what was written as the station's own directions.
use Rattle.std.proofs.Common.{◌≡◌, ℕ, ◌-◌, ◌^◌, ◌≤◌, ◌<◌, Bool, false, List}
use Rattle.std.proofs.Common.{length, map, pos, Err, arith, ap, refl, sym, subst, ◌∙◌}
use Rattle.std.proofs.Common.{if◌then◌else◌, Option, Some, None, ◌*◌}
use Rattle.std.proofs.Math.Nat.{pow-le-pow_right}
use Rattle.std.proofs.lemmas.Bool.{le-ltb}
use Rattle.std.proofs.lemmas.Simd.{map-map}
use Rattle.adjust_kernel.specs.Stations.{StationValue}
use Rattle.byte_ends.specs.Input.{Input, Ended, RanPast, input_within}
use Rattle.byte_ends.specs.Source.{Told}
use Rattle.direction_table.proofs.LawLemmas.{never_both, one_table}
use Rattle.direction_table.specs.TableRows.{table_rows, unstated}
use Rattle.direction_table.specs.UsualLimits.{most_off, usual_within}
use Rattle.direction_table.specs.TableTexts.{directions_of}
use Rattle.direction_table.specs.Texts.{step_of}
use Rattle.direction_table.specs.declared.reading.TheConstants.{LONGEST_TABLE}
use Rattle.direction_table.specs.declared.table.TargetDirection.{TargetDirection}
use Rattle.gsi_file.specs.FileAnswers.{FileAnswers}
use Rattle.directions_apart.specs.Apart.{stated_by}
use Rattle.exact_adjustment.specs.LeastOf.{HasResidualsWithin}
use Rattle.exact_adjustment.specs.declared.fault.AdjustFault.TheVariants.{NotFound}
use Rattle.least_directions.proofs.LawLemmas.{rounded}
use Rattle.least_directions.specs.LeastDirections.{AreApart}
use Rattle.row_forms.specs.declared.form.RowForm.TheVariants.{Commas}
use Rattle.station_answers.specs.Answers.{StatesOf}
use Rattle.station_answers.specs.Directions.{IsDirectionsText, numbers_of}
use Rattle.station_answers.specs.OwnDirections.{MayRefuse}
use Rattle.station_answers.specs.Saying.{SaysDirections}
use Rattle.station_book.specs.Limits.{AreLimits}
use Rattle.station_book.specs.declared.result_limits.ResultLimits.{ResultLimits}
use Rattle.station_book.specs.Stations.{SurveyedStation}
use Rattle.station_check.specs.StationOfFile.{IsStationOfFile}
use Rattle.station_check.specs.declared.fault.Fault.TheVariants.{NoStation}
use Rattle.station_compare.proofs.Comparisons.{compared_of, no_adjust_fault}
use Rattle.station_compare.proofs.OneStation.{never_none, no_file_fault, same_station}
use Rattle.station_compare.specs.Agreeing.{Agrees}
use Rattle.station_compare.specs.Answers.{Compares}
use Rattle.station_compare.specs.Comparing.{ByInput, ByTable, IsComparedWith}
use Rattle.station_compare.specs.LimitInForce.{limit_in_force, off_in}
use Rattle.station_compare.specs.declared.agreement.Agreement.{Agreement}
use Rattle.station_compare.specs.declared.fault.CompareFault.{CompareFault}
use Rattle.station_compare.specs.declared.fault.CompareFault.TheVariants.{File, Table, Adjust}
use Rattle.station_compare.specs.declared.fault.CompareFault.TheVariants.{Apart, Memory}
use Rattle.direction_table.specs.declared.unit.AngleUnit.TheVariants.{Gon}

-- The step of 6 decimals or more.
small_step : (count : ℕ) → 6 ≤ count → step_of count ≤ 1_000
small_step count many =
    let few : 9 - count ≤ 3 = omega (arith, many) in
    let small : 10 ^ (9 - count) ≤ 10 ^ 3 = pow-le-pow_right (omega arith) few in
    omega (arith, small)

-- The usual limit of a table is 1 or more.
usual_some : (rows : List (List (List ℕ))) → 1 ≤ usual_within Gon rows
usual_some rows = omega arith

-- No numbers are off by more than 90 parts.
few_off : (rows : List (List (List ℕ))) → most_off Gon rows ≤ 90
few_off rows = grind arith

-- What rows are read as are their numbers.
read_as : (rows : List TargetDirection)
    → directions_of rows ≡ map (λ (n : ℕ). pos (81 * n)) (numbers_of rows)
read_as rows = sym (map-map (λ (n : ℕ). pos (81 * n)) (λ (r : TargetDirection). r.direction) rows)

-- Bytes that are not too many are read to their end.
read_whole : (bytes : List ℕ) → length bytes ≤ LONGEST_TABLE
    → input_within LONGEST_TABLE (record { bytes = bytes; fails = false }) ≡ Ended bytes
read_whole bytes short =
    ap (λ (past : Bool). if past then RanPast else Ended bytes)
    (le-ltb LONGEST_TABLE (length bytes) short)

module _ (count : ℕ) (text : List ℕ) (many : 6 ≤ count) where
  -- Own directions beside their station.
  module _ (station : StationValue) (own : IsDirectionsText Commas station count text) where
    own_apart : (apart : ℕ) → IsComparedWith (unstated Gon) station text apart → apart ≤ 1
    own_apart apart h =
        let same : h.directions ≡ map (λ (n : ℕ). pos (81 * n)) (numbers_of own.stated) =
        one_table (unstated Gon) station.targets text h.directions (directions_of own.stated)
        h.states (own.reads refl) ∙ read_as own.stated in
        let small = small_step count many in
        let off = off_in (unstated Gon) station.targets text in
        rounded station (step_of count) off 1 apart (numbers_of own.stated) own.rounded
        (omega (arith, small, few_off (table_rows (unstated Gon) station.targets text)))
        (subst (λ ds. AreApart station (stated_by ds) off apart) same h.are_apart)

    no_more : (within : Option ℕ) (apart : ℕ)
        → limit_in_force (unstated Gon) within station.targets text < apart
        → apart ≤ 1 → (within ≡ Some 0) × (apart ≡ 1)
    no_more (Some within) apart more few =
        (ap Some (omega (arith, more, few)), omega (arith, more, few))
    no_more None apart more few =
        let some = usual_some (table_rows (unstated Gon) station.targets text) in
        absurd (omega (arith, more, few, some))

    by_table : (residual : ℕ) → HasResidualsWithin station residual → (within : Option ℕ)
        (fault : CompareFault) → ByTable (unstated Gon) station residual within text (Err fault)
        → MayRefuse within fault
    by_table residual held within (Table fault) h =
        absurd (never_both (unstated Gon) station.targets text (directions_of own.stated) fault
        (own.reads refl) h)
    by_table residual held within (Adjust NotFound) h = tt
    by_table residual held within (Adjust fault) h =
        absurd (no_adjust_fault station residual fault own.rounded.adjustable held tt h.fault_stands)
    by_table residual held within (Apart n) h =
        no_more within n.apart (rw h.1.limit at h.0) (own_apart n.apart h.1.compared)
    by_table residual held within Memory h = tt
    by_table residual held within fault h = h

  module _ (limits : ResultLimits) (small : AreLimits limits.faces) (file : FileAnswers) (name : List ℕ)
      (own : StatesOf (SaysDirections Commas count) limits file name text) where
    abbrev whole : Told
    whole = record { bytes = text; fails = false }

    read : input_within LONGEST_TABLE whole ≡ Ended text
    read = read_whole text (own.said.reads refl).short

    -- The station that a comparison finds is that of the directions.
    its : (other : SurveyedStation) → IsStationOfFile limits.faces file name other
        → HasResidualsWithin other.station limits.residual
        × IsDirectionsText Commas other.station count text
    its other s =
        subst (λ (o : SurveyedStation). HasResidualsWithin o.station limits.residual
        × IsDirectionsText Commas o.station count text)
        (same_station limits.faces small file name own.its other own.station s)
        (own.held, own.said)

    -- Where own directions agree with their file, they are apart by 1 unit at most.
    pub agrees_by_1 : (within : Option ℕ) (a : Agreement)
        → Agrees (unstated Gon) limits file whole name within a
        → a.how_far.apart ≤ 1
    agrees_by_1 within a h =
        let ended : Ended text ≡ Ended h.bytes = sym read ∙ h.whole in
        let same : text ≡ h.bytes = cc in
        own_apart h.its.station (its h.its h.station).1 a.how_far.apart
        (subst (λ bytes. IsComparedWith (unstated Gon) h.its.station bytes a.how_far.apart)
        (sym same) (compared_of (unstated Gon) limits file whole name within a h))

    -- They are refused for being apart by 1, where 0 was asked for, for another sheet, or memory.
    pub may_refuse : (within : Option ℕ) (fault : CompareFault)
        → Compares (unstated Gon) limits file whole name within (Err fault)
        → MayRefuse within fault
    may_refuse within (File NoStation) h =
        absurd (never_none limits.faces small file name own.its own.station h)
    may_refuse within (File fault) h =
        absurd (no_file_fault limits.faces small file name own.its own.station fault h)
    may_refuse within Memory h = tt
    may_refuse within fault h =
        let own_too = its h.its h.station in
        by_table h.its.station own_too.1 limits.residual own_too.0 within fault
        (subst (λ (input : Input).
        ByInput (unstated Gon) h.its.station limits.residual within input (Err fault)) read
        h.by_input)
