-- What the book finds in the copy of a file without a fault.
use Rattle.std.proofs.Common.{◌≡◌, ℕ, false, List, [], reverse, None, sym, ap, subst, ◌∙◌}
use Rattle.std.specs.Prelude.{IfSome}
use Rattle.std.specs.List.{AllZip}
use Rattle.gsi_word.specs.Blocks.{IsBlock}
use Rattle.adjust_kernel.specs.Names.{IsName}
use Rattle.station_book.specs.Limits.{FaceLimits}
use Rattle.station_book.specs.Places.{History}
use Rattle.station_book.specs.Faults.{fault_at_end}
use Rattle.job_statements.specs.declared.beginnings.Beginnings.{Beginnings}
use Rattle.set_marks.specs.declared.mark.BlockMark.{BlockMark}
use Rattle.job_statements.specs.Numbers.{Said}
use Rattle.set_marks.specs.Stations.{stations_of, fault_of_blocks}
use Rattle.set_marks.specs.Judging.{none_before, judged_of}
use Rattle.set_marks.specs.Marking.{marks_of}
use Rattle.set_marks.specs.MarkedBlocks.{grown}
use Rattle.set_marks.specs.Found.{found_in, HasNoFaultOfCodes}
use Rattle.set_marks.specs.MarkedFile.{with_codes, copy_history, in_file}
use Rattle.set_marks.proofs.BareNames.{bare_names}
use Rattle.set_marks.proofs.ReadingBlocks.{sights_in_order}
use Rattle.set_marks.proofs.Segments.{AreUp}
use Rattle.set_marks.proofs.StationReadings.{all_are_read}
use Rattle.set_marks.proofs.OwnFaults.{clean_blocks}
use Rattle.set_marks.proofs.Judged.{all_sound}
use Rattle.set_marks.proofs.AnyRule.{IsFoundAsMarked, any_rule}
use Rattle.set_marks.proofs.DividedPortions.{AllInPortions, all_in_portions, same_sights, sites_of}
use Rattle.set_marks.proofs.DividedPortions.{are_sites}

-- The copy is marked as the sites of the file's stations are, and so the book finds its readings.
record IsCopyFound (beginnings : Beginnings) (stated : Said) (h : History) : Type 0 where
  pub same : AllInPortions false (judged_of beginnings stated h)
  pub found : IsFoundAsMarked (sites_of (judged_of beginnings stated h)) (reverse h)

module _ (beginnings : Beginnings) (stated : Said) (lines : List (List ℕ)) (h : History)
    (zip : AllZip IsBlock lines (reverse h)) (is : IfSome beginnings.station IsName)
    (fault : fault_of_blocks beginnings h ≡ None)
  where
    copy_found : IsCopyFound beginnings stated h
    copy_found =
        let clean = clean_blocks beginnings h fault in
        let ss = stations_of beginnings h in
        let js = judged_of beginnings stated h in
        let sound = all_sound stated none_before ss (bare_names beginnings lines h zip is) in
        let same = all_in_portions false [] js sound in
        record {
          same = same;
          found = any_rule (sites_of js) (reverse h) clean.blocks
              (sym (same_sights stated none_before ss ∙ all_are_read beginnings h clean.stations
              ∙ sights_in_order h) ∙ same.sights)
              (are_sites [] js sound);
        }

    -- Each reading is found where the division puts it.
    pub found_as_divided : found_in (copy_history beginnings stated h)
        ≡ in_file beginnings stated h
    found_as_divided =
        ap (λ (ms : List BlockMark). found_in (grown [] (with_codes ms 1 (reverse h))))
        copy_found.same.marks ∙ copy_found.found.found ∙ sym copy_found.same.told

    -- No block of the copy has a fault that comes of the code lines.
    pub no_fault_of_codes : (limits : FaceLimits)
        → HasNoFaultOfCodes limits (copy_history beginnings stated h)
    no_fault_of_codes limits =
        subst (λ (ms : List BlockMark).
        HasNoFaultOfCodes limits (grown [] (with_codes ms 1 (reverse h))))
        (sym copy_found.same.marks) (copy_found.found.faults limits)

    -- The end of the copy has no fault.
    pub no_fault_at_end : fault_at_end (copy_history beginnings stated h) ≡ None
    no_fault_at_end =
        ap (λ (ms : List BlockMark). fault_at_end (grown [] (with_codes ms 1 (reverse h))))
        copy_found.same.marks ∙ copy_found.found.end

    -- Each code line stands no later than the next.
    pub marks_up : AreUp 1 (marks_of beginnings stated h)
    marks_up = subst (λ (ms : List BlockMark). AreUp 1 ms) (sym copy_found.same.marks)
        copy_found.found.up
