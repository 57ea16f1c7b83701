use Rattle.std.proofs.Common.{◌≡◌, ◌+◌, None, refl, rules}
use Rattle.gsi_file.specs.FileAnswers.{file_answers}
use Rattle.set_marks.specs.Placing.{placed}
use Rattle.set_marks.specs.Marking.{refusal}
use Rattle.job_statements.specs.Numbers.{said_in}
use Rattle.set_marks.proofs.Making.{is_marking, no_memory}
use Rattle.set_marks.proofs.marked.mark_file.Goals as goal

pub returns : goal.returns
returns c =
    let answers = file_answers (record { bytes = c.args.bytes.now; fails = c.args.fails }) in
    let marking = c.in_ok-marking.marking in
    let walk = c.in_ok-walk.walk in
    let end = walk.readings.blocks + 1 in
    let none : refusal (said_in marking.stated) end marking.stations.items ≡ None =
    search rules in
    let is : c.in_ok-marks.marks.items ≡ placed c.args.bytes.now marking.marks.items =
    search rules in
    is_marking c.args.beginnings (said_in c.args.stated) c.args.bytes.now answers walk.readings marking
    c.in_ok-marks.marks.items
    (record { marks = c.in_ok-marks.marks; stations = marking.stations }) end
    c.in_ok-walk.ensures.answers c.in_ok-marking.ensures.marked refl none
    is c.in_ok-marks.ensures.ordered c.in_ok-marks.ensures.begin refl refl

pub returns-in_err-marks : goal.returns-in_err-marks
returns-in_err-marks c =
    no_memory c.args.beginnings (said_in c.args.stated) c.args.bytes.now
    (file_answers (record { bytes = c.args.bytes.now; fails = c.args.fails }))
    c.from_residual-in_err-marks.result c.from_residual-in_err-marks.ensures.0
    c.from_residual-in_err-marks.ensures.1
