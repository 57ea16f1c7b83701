use Rattle.std.proofs.Common.{Err, subst, sym, refl}
use Rattle.byte_ends.proofs.Coming.{anything_came}
use Rattle.byte_ends.specs.Source.{Told, reader_change}
use Rattle.gsi_file.specs.FileAnswers.{file_answers}
use Rattle.station_check.specs.Came.{ReadsFile}
use Rattle.station_check.specs.Counting.{Counts}
use Rattle.station_check.specs.declared.fault.Fault.TheVariants.{Memory}
use Rattle.station_check.proofs.survey.survey_of_file.Goals as goal

pub returns-in-Err-clause-surveys : goal.returns-in-Err-clause-surveys
returns-in-Err-clause-surveys g c =
    let told = g.R.Source.told in
    let failed = g.R.Source.failed in
    let gave = g.R.Source.gave in
    let gsi = c.args.gsi in
    subst (λ (r : _). ReadsFile (reader_change told failed gave gsi r) (Err Memory)
    (λ file. Counts c.args.limits file (Err Memory))) (sym c.in-Err.ensures.back)
    (record {
      came = anything_came told failed gave gsi
          (λ (t : Told). Counts c.args.limits (file_answers t) (Err Memory)) (λ t. tt);
      left = refl;
    })
