use Rattle.std.proofs.Common.{[], refl}
use Rattle.adjust_kernel.specs.declared.accepted.Accepted.{Accepted}
use Rattle.byte_ends.proofs.Coming.{given_none}
use Rattle.byte_ends.specs.Source.{given_then}
use Rattle.station_check.proofs.Leaving.{left_alone, left_by, left_by_sheet}
use Rattle.station_check.proofs.Promises.{promise_by_sheet, promise_by_file}
use Rattle.station_check.proofs.Refusals.{of_check, file_of_check}
use Rattle.station_check.proofs.check.check_sources.Goals as goal

pub returns-in-Ok : goal.returns-in-Ok
returns-in-Ok g c =
    let file = rw c.in-Ok.is at c.stations_of_file-surveyed.ensures.surveys in
    let s = file.came in
    let answer = c.check_sheet.result in
    let of_sheet = c.check_sheet.ensures.of_sheet in
    let q = c.check_sheet.ensures.checks in
    record {
      gsi_bytes = s.given;
      gsi_reads = s.by_reads;
      sheet_bytes = q.given;
      sheet_reads = q.by_reads;
      promise = λ gsi_left sheet_left gsi_may sheet_may.
          promise_by_sheet c.args.limits c.recall.ensures c.args.limit (given_then s.given gsi_left)
          (given_then q.given sheet_left) c.in-Ok.stations
          answer (s.so gsi_left gsi_may) of_sheet (q.so sheet_left sheet_may);
      of_check = of_check answer of_sheet;
      gsi_reader = left_by_sheet Accepted answer _ of_sheet file.left;
      sheet_reader = c.check_sheet.ensures.reader;
    }

pub returns-in-Err : goal.returns-in-Err
returns-in-Err g c =
    let fault = c.in-Err.fault in
    let file = rw c.in-Err.is at c.stations_of_file-surveyed.ensures.surveys in
    let s = file.came in
    let of_file = rw c.in-Err.is at c.stations_of_file-surveyed.ensures.of_file in
    record {
      gsi_bytes = s.given;
      gsi_reads = s.by_reads;
      sheet_bytes = [];
      sheet_reads = given_none g.Q.Source.told g.Q.Source.failed g.Q.Source.gave c.args.sheet.now;
      promise = λ gsi_left sheet_left gsi_may sheet_may.
          promise_by_file c.args.limits c.recall.ensures c.args.limit (given_then s.given gsi_left)
          (given_then [] sheet_left) fault of_file
          (s.so gsi_left gsi_may);
      of_check = file_of_check fault of_file;
      gsi_reader = left_by Accepted c.stations_of_file-surveyed.result.0 fault _ c.in-Err.is
          c.stations_of_file-surveyed.ensures.surveys.left;
      sheet_reader = left_alone Accepted fault _ of_file (record { same = refl; unfailed = refl });
    }
