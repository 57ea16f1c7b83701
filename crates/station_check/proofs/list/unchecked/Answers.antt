use Rattle.std.proofs.Common.{◌≡◌, ℕ, length, sym, ◌∙◌, rules}
use Rattle.station_check.proofs.NoSets.{unchecked_without}
use Rattle.station_check.proofs.list.unchecked.Goals as goal

pub returns-then-len-eq0 : goal.returns-then-len-eq0
returns-then-len-eq0 c limits blocks are counts =
    let none : length c.args.survey.now.stations ≡ 0 = search rules in
    c.unwrap_or.ensures
    ∙ unchecked_without limits blocks c.args.survey.now.stations c.args.survey.now.readings none are
    counts
