use Rattle.std.proofs.Common.{◌≡◌, rules, length, Some, false}
use Rattle.std.specs.Prelude.{slice_get}
use Rattle.gsi_word.specs.BlockViews.{block_of}
use Rattle.set_marks.specs.Stations.{begins_line, is_two_lines}
use Rattle.set_marks.proofs.BareLines.{tells_bare}
use Rattle.set_marks.proofs.reading.is_bare_line.Goals as goal

pub returns-then-not-begins_line : goal.returns-then-not-begins_line
unfolding is_two_lines
returns-then-not-begins_line c =
    let words = (block_of c.args.block.now).words in
    let three : length words ≡ 3 = search rules in
    let second : slice_get words 1 ≡ Some c.in-Some-Some.second = search rules in
    let third : slice_get words 2 ≡ Some c.in-Some-Some.third = search rules in
    let none : begins_line c.in-Some-Some.second ≡ false = search rules in
    tells_bare words c.in-Some-Some.second c.in-Some-Some.third
    c.begins_line-then-not-begins_line.result three second third none
    c.begins_line-then-not-begins_line.ensures
