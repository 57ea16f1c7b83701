use Rattle.std.proofs.Common.{ℕ, cond}
use Rattle.std.specs.Prelude.{nat_lt}
use Rattle.std.proofs.lemmas.Simd.{length-chunk, zip2_splat, zip2_splat_left, zip2_of_maps}
use lib.Lanes.{chunk}
use Rattle.gsi_word.proofs.Unprintable.{printable_where_unset, unprintable_where_set, run_is_short}
use Rattle.gsi_word.proofs.Unprintable.{run_is_printable, run_ends_at_an_unprintable}
use Rattle.gsi_word.proofs.printable.printable_run.Goals as goal

pub returns : goal.returns
returns c =
    let bytes = c.args.bytes.now in
    let load = chunk c.args.at 16 bytes in
    let long = length-chunk c.args.at 16 bytes c.requires in
    let lanes = zip2_of_maps _ _ _ load (zip2_splat {Y = ℕ} _ load 16 _ long)
    (zip2_splat_left (λ (a b : ℕ). cond (nat_lt a b) 255 0) _ 16 load long) in
    record {
      bound = run_is_short bytes c.args.at c.requires c.lowest_lane.result _ _
          c.lowest_lane.ensures lanes;
      printable = run_is_printable bytes c.args.at c.requires c.lowest_lane.result _ _
          c.lowest_lane.ensures lanes printable_where_unset;
      unprintable = run_ends_at_an_unprintable bytes c.args.at c.requires c.lowest_lane.result _ _
          c.lowest_lane.ensures lanes unprintable_where_set;
    }
