-- From the kernel's acceptance to what an acceptance of the check says.
use Rattle.std.proofs.Common.{◌≡◌, ℕ, List, [], ◌∷◌, Option, Some, None, Result, Ok, Err, refl, sym}
use Rattle.std.proofs.Common.{ap, subst, ◌∙◌, inl, inr}
use Rattle.std.specs.Prelude.{◌↔◌, IfOk, reverse}
use mathlib.Core.List.{reverse_aux}
use Rattle.std.specs.List.{AllZip, Contains}
use Rattle.std.proofs.lemmas.List.{reverse-reverse}
use Rattle.byte_ends.specs.Source.{Told}
use Rattle.gsi_word.specs.Blocks.{GsiBlock, IsBlock}
use Rattle.gsi_file.specs.FileAnswers.{FileAnswers, file_answers}
use Rattle.gsi_file.specs.declared.file_fault.FileKind.{FileKind}
use Rattle.adjust_kernel.specs.declared.accepted.Accepted.{Accepted}
use Rattle.adjust_kernel.proofs.LawLemmas.{accepted_keeps_limit}
use Rattle.station_book.proofs.LawLemmas.{its_station, recorded, recorded_faces}
use Rattle.station_book.specs.declared.fault.BookKind.{BookKind}
use Rattle.station_book.specs.Faults.{fault_at_end, IsWithoutFault}
use Rattle.station_book.specs.Limits.{FaceLimits, AreLimits}
use Rattle.station_book.specs.Places.{History}
use Rattle.station_book.specs.Recorded.{IsRecorded, IsRecordedWith}
use Rattle.adjust_kernel.specs.Matching.{Key, observed}
use Rattle.station_book.specs.Stations.{SurveyedStation}
use Rattle.station_check.specs.declared.fault.Fault.{Fault}
use Rattle.station_check.specs.Outcomes.{ComesTo, at_end}
use Rattle.station_check.specs.Surveys.{IsSurvey}
use Rattle.station_check.specs.Accepted.{IsAccepted}
use Rattle.station_check.specs.Means.{HasStation}
use Rattle.station_check.specs.StationOfFile.{IsStationOfFile}
use Rattle.station_check.specs.KernelVerdicts.{IsJudgedSheet, IfKernels}

-- Lines and the end after them come to these blocks: they are the blocks of the lines after those
-- before them, and no fault stands.
pub record CameWell (limits : FaceLimits) (past : History) (lines : List (List ℕ))
    (last : Option FileKind) (blocks : History) : Type 0 where
  pub more : List GsiBlock
  pub each : AllZip IsBlock lines more
  pub split : blocks ≡ reverse_aux more past
  pub ended : last ≡ None
  pub faultless : IsWithoutFault limits blocks
  pub closed : fault_at_end blocks ≡ None

-- The end of the lines, where the fault of the end is this.
well_at_end : (limits : FaceLimits) (past blocks : History) (o : Option BookKind)
    → IsWithoutFault limits past → fault_at_end past ≡ o → Ok blocks ≡ at_end past o
    → CameWell limits past [] None blocks
well_at_end limits past blocks None clean e h =
    let same : past ≡ blocks = cc in
    subst (λ (b : History). CameWell limits past [] None b) same
    (record { more = []; each = tt; split = refl; ended = refl; faultless = clean; closed = e })
well_at_end limits past blocks (Some kind) clean e h = cc

-- So they are wherever lines and the end after them come to blocks.
pub came_well : (limits : FaceLimits) (past : History) (lines : List (List ℕ))
    (last : Option FileKind) (blocks : History) → IsWithoutFault limits past
    → ComesTo limits past lines last (Ok blocks) → CameWell limits past lines last blocks
came_well limits past [] (Some kind) blocks clean h = cc
came_well limits past [] None blocks clean h =
    well_at_end limits past blocks (fault_at_end past) clean refl h
came_well limits past (line ∷ lines) last blocks clean (inl h) = let e = h.answer in cc
came_well limits past (line ∷ lines) last blocks clean (inr (inl h)) = let e = h.answer in cc
came_well limits past (line ∷ lines) last blocks clean (inr (inr h)) =
    let rest = came_well limits (h.block ∷ past) lines last blocks (h.clean, clean) h.after in
    record {
      more = h.block ∷ rest.more;
      each = (h.is_block, rest.each);
      split = rest.split;
      ended =
          rest.ended;
      faultless = rest.faultless;
      closed = rest.closed;
    }

-- The station that a name finds is that of the lines of the file.
pub station_found : (limits : FaceLimits) (file : FileAnswers) (name : List ℕ)
    (its : SurveyedStation) → AreLimits limits → HasStation limits file name its
    → IsStationOfFile limits file name its
station_found limits file name its small has =
    let blocks = has.survey.blocks in
    let stations = has.stations in
    let surveyed = has.survey.stations_are in
    let well = came_well limits [] file.lines file.last blocks tt has.survey.file in
    let in_order : well.more ≡ reverse blocks =
    sym (ap reverse well.split ∙ reverse-reverse well.more) in
    let found = (its_station limits blocks stations name its well.faultless surveyed).0 has.named in
    record {
      blocks = blocks;
      ended = well.ended;
      lines = subst (λ (bs : List GsiBlock). AllZip IsBlock file.lines bs) in_order well.each;
      faultless = well.faultless;
      closed = well.closed;
      stations = stations;
      surveyed = surveyed;
      listed = found.0;
      named = found.1;
      only = λ other among same.
          let e : Some other ≡ Some its =
          sym ((its_station limits blocks stations name other well.faultless surveyed).1
          (among, same)) ∙ has.named in cc;
      exactly = λ k.
          subst (λ (n : List ℕ).
          Contains (observed its.station) k ↔ IsRecorded limits blocks n k) found.1
          (recorded limits blocks stations its k small well.faultless surveyed found.0);
      within = subst
          (λ (n : List ℕ).
          AllZip (IsRecordedWith limits blocks n) (observed its.station) its.faces) found.1
          (recorded_faces limits blocks stations its surveyed found.0);
    }

-- A sheet that was judged well is accepted.
pub acceptance : (limits : FaceLimits) (limit : Option ℕ) (gsi told : Told)
    (stations : List SurveyedStation) (a : Accepted) → AreLimits limits
    → IsSurvey limits (file_answers gsi) stations → IsJudgedSheet stations limit told (Ok a)
    → IsAccepted limits limit gsi told a
acceptance limits limit gsi told stations a small survey judged =
    let file = file_answers gsi in
    let blocks = survey.blocks in
    let its = judged.judged.its in
    let name = judged.sheet.name in
    let well = came_well limits [] file.lines file.last blocks tt survey.file in
    let in_order : well.more ≡ reverse blocks =
    sym (ap reverse well.split ∙ reverse-reverse well.more) in
    let found = (its_station limits blocks stations name its well.faultless survey.stations_are).0
    judged.judged.named in
    record {
      blocks = blocks;
      ended = well.ended;
      lines = subst (λ (bs : List GsiBlock). AllZip IsBlock file.lines bs) in_order well.each;
      faultless = well.faultless;
      closed = well.closed;
      sheet = judged.sheet;
      states = judged.states;
      stations = stations;
      surveyed = survey.stations_are;
      its = its;
      listed = found.0;
      named = found.1;
      only = λ other among same.
          let e : Some other ≡ Some its =
          sym ((its_station limits blocks stations name other well.faultless
          survey.stations_are).1 (among, same)) ∙ judged.judged.named in cc;
      exactly = λ k.
          let just = recorded limits blocks stations its k small well.faultless survey.stations_are
          found.0 in
          let by_name : Contains (observed its.station) k ↔ IsRecorded limits blocks name k =
          subst (λ (n : List ℕ).
          Contains (observed its.station) k ↔ IsRecorded limits blocks n k) found.1 just in
          subst (λ (keys : List Key). Contains keys k ↔ IsRecorded limits blocks name k)
          (sym judged.judged.matches.rows) by_name;
      matches = judged.judged.matches;
      within =
          let by_name : AllZip (IsRecordedWith limits blocks name)
          (observed its.station) its.faces =
          subst (λ (n : List ℕ).
          AllZip (IsRecordedWith limits blocks n) (observed its.station) its.faces) found.1
          (recorded_faces limits blocks stations its survey.stations_are found.0) in
          subst (λ (keys : List Key). AllZip (IsRecordedWith limits blocks name) keys its.faces)
          (sym judged.judged.matches.rows) by_name;
      least = judged.judged.squares.0.least;
      unique = judged.judged.squares.0.unique;
      limited = accepted_keeps_limit its.station judged.sheet limit (a, judged.judged.verdict);
      over_turns = judged.judged.squares.1;
      says = judged.judged.verdict.1;
    }

-- So a well judged answer of a check is an acceptance.
pub accepted_so : (limits : FaceLimits) → AreLimits limits
    → (limit : Option ℕ) (gsi told : Told) (stations : List SurveyedStation)
    (r : Result Accepted Fault) → IsSurvey limits (file_answers gsi) stations
    → IfKernels (IsJudgedSheet stations limit told) r → IfOk r (IsAccepted limits limit gsi told)
accepted_so limits small limit gsi told stations (Ok a) s j =
    acceptance limits limit gsi told stations a small s j
accepted_so limits small limit gsi told stations (Err fault) s j = tt
