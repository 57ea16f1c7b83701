-- The lines of the copy of a file are its blocks with the code lines between.
use Rattle.std.proofs.Common.{◌≡◌, ℕ, false, List, [], reverse, None, sym}
use Rattle.std.proofs.Common.{subst}
use Rattle.std.specs.Prelude.{IfSome}
use Rattle.std.specs.List.{AllZip}
use Rattle.gsi_word.specs.Blocks.{IsBlock}
use Rattle.gsi_file.specs.Parts.{numbered_lines}
use Rattle.adjust_kernel.specs.Names.{IsName}
use Rattle.station_book.specs.Places.{History}
use Rattle.job_statements.specs.declared.beginnings.Beginnings.{Beginnings}
use Rattle.job_statements.specs.Numbers.{Said}
use Rattle.set_marks.specs.Stations.{stations_of, fault_of_blocks}
use Rattle.set_marks.specs.Judging.{none_before, judged_of}
use Rattle.set_marks.specs.Marking.{marks_of}
use Rattle.set_marks.specs.Placing.{placed}
use Rattle.set_marks.specs.Copies.{woven}
use Rattle.set_marks.specs.MarkedFile.{copy_blocks}
use Rattle.set_marks.proofs.BareNames.{bare_names}
use Rattle.set_marks.proofs.CopyLines.{AreRoomy, copy_lines, lines_are_blocks}
use Rattle.set_marks.proofs.Rooms.{marks_roomy}
use Rattle.set_marks.proofs.Judged.{all_sound}
use Rattle.set_marks.proofs.CopyFound.{marks_up}

-- What the code lines of the file say has room.
pub all_roomy : (beginnings : Beginnings) (stated : Said) (bytes : List ℕ) (h : History)
    → AllZip IsBlock (numbered_lines bytes) (reverse h) → IfSome beginnings.station IsName
    → AreRoomy (marks_of beginnings stated h)
all_roomy beginnings stated bytes h zip is =
    marks_roomy false [] (judged_of beginnings stated h) (all_sound stated none_before
    (stations_of beginnings h) (bare_names beginnings (numbered_lines bytes) h zip is))

-- Each line of the copy is its block.
pub copy_is_blocks : (beginnings : Beginnings) (stated : Said) (bytes : List ℕ) (h : History)
    → AllZip IsBlock (numbered_lines bytes) (reverse h) → IfSome beginnings.station IsName
    → fault_of_blocks beginnings h ≡ None
    → AllZip IsBlock (numbered_lines (woven 0 bytes (placed bytes (marks_of beginnings stated h))))
    (copy_blocks beginnings stated h)
copy_is_blocks beginnings stated bytes h zip is fault =
    let lines = numbered_lines bytes in
    let marks = marks_of beginnings stated h in
    let roomy = all_roomy beginnings stated bytes h zip is in
    subst (λ (ls : List (List ℕ)). AllZip IsBlock ls (copy_blocks beginnings stated h))
    (sym (copy_lines bytes marks roomy))
    (lines_are_blocks 0 marks lines (reverse h) roomy
    (marks_up beginnings stated lines h zip is fault) zip)
