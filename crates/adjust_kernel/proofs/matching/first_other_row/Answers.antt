use Rattle.std.proofs.Common.{◌≡◌, ◌≢◌, ◌<◌, ℕ, [], length, true, false, refl, arith, ap, sym, ◌∙◌}
use Rattle.std.proofs.Common.{below_more}
use Rattle.std.specs.List.{slice_get}
use Rattle.std.proofs.lemmas.List.{length-map}
use Rattle.adjust_kernel.specs.Matching.{Key, keys_of, observed, key_of_row, key_of_obs}
use Rattle.adjust_kernel.proofs.Differences.{same_lists, differ_at, ended_first}
use Rattle.adjust_kernel.proofs.matching.first_other_row.Goals as goal
use native.Mathlib.Decide.{dec_lt}

pub loop-place-preserved : goal.loop-place-preserved
loop-place-preserved c =
    below_more (λ (k : ℕ). slice_get (keys_of c.args.sheet.now) k
    ≡ slice_get (observed c.args.station.now) k) c.loop-place.place c.loop-place.invariant
    (c.if-not-is_same_row_at.ensures.0 refl)

pub returns-then-not-is_same_row_at-clause-some : goal.returns-then-not-is_same_row_at-clause-some
returns-then-not-is_same_row_at-clause-some c =
    differ_at (keys_of c.args.sheet.now) (observed c.args.station.now) c.loop-place.place
    c.loop-place.invariant (λ same. let e : false ≡ true =
    c.if-not-is_same_row_at.ensures.1 same in cc)

pub returns-then-rows-obs-clause-none : goal.returns-then-rows-obs-clause-none
returns-then-rows-obs-clause-none c =
    let xs = keys_of c.args.sheet.now in
    let ys = observed c.args.station.now in
    let of_sheet = ap length c.rows-rows.ensures.value in
    let of_station = ap length c.obs.ensures.value in
    let again = ap length c.obs-2.ensures.value in
    let as_long = length-map c.args.sheet.now.rows key_of_row in
    let as_many = length-map c.args.station.now.obs
    (key_of_obs c.args.station.now.sets c.args.station.now.targets) in
    let both = c.min-both.ensures in
    same_lists xs ys c.loop-place.place
    (omega (
      arith,
      of_sheet,
      of_station,
      again,
      as_long,
      both,
      c.if-rows-obs.true,
      c.loop-place-test.false,
    ))
    (omega (
      arith,
      of_sheet,
      of_station,
      again,
      as_many,
      both,
      c.if-rows-obs.true,
      c.loop-place-test.false,
    ))
    c.loop-place.invariant

pub returns-clause-some : goal.returns-clause-some
returns-clause-some c = differ_at (keys_of c.args.sheet.now) (observed c.args.station.now)
    c.min-both.result (λ k below. c.loop-place.invariant k
    (omega (arith, below, c.loop-place-test.false)))
    (by (dec_lt (length (keys_of c.args.sheet.now)) (length (observed c.args.station.now)))
    (dec_lt (length (observed c.args.station.now)) (length (keys_of c.args.sheet.now))))
  where
    none : Key
    none = record { set = 0; target = []; value = 0 }

    of_sheet : length c.rows-rows.result.now ≡ length (keys_of c.args.sheet.now)
    of_sheet = ap length c.rows-rows.ensures.value
        ∙ sym (length-map c.args.sheet.now.rows key_of_row)

    of_station : length c.obs.result.now ≡ length (observed c.args.station.now)
    of_station = ap length c.obs.ensures.value
        ∙ sym (length-map c.args.station.now.obs
        (key_of_obs c.args.station.now.sets c.args.station.now.targets))

    again : length c.obs-2.result.now ≡ length (observed c.args.station.now)
    again = ap length c.obs-2.ensures.value ∙ sym
        (length-map c.args.station.now.obs (key_of_obs c.args.station.now.sets
        c.args.station.now.targets))

    by : Dec (length (keys_of c.args.sheet.now) < length (observed c.args.station.now))
        → Dec (length (observed c.args.station.now) < length (keys_of c.args.sheet.now))
        → slice_get (keys_of c.args.sheet.now) c.min-both.result
        ≢ slice_get (observed c.args.station.now) c.min-both.result
    by (yes fewer) d = let both = c.min-both.ensures in
        ended_first (keys_of c.args.sheet.now) (observed c.args.station.now) c.min-both.result none
        (omega (arith, of_sheet, of_station, both, fewer))
        (omega (arith, of_sheet, of_station, both, fewer))
    by (no f) (yes more) = let both = c.min-both.ensures in
        λ e. ended_first (observed c.args.station.now) (keys_of c.args.sheet.now) c.min-both.result
        none (omega (arith, of_sheet, of_station, both, more))
        (omega (arith, of_sheet, of_station, both, more)) (sym e)
    by (no f) (no g) = absurd (c.if-rows-obs.false (omega (arith, of_sheet, again, f, g)))
