use Rattle.station_differences.proofs.LeastLaws.{all_within, as_rows}
use Rattle.station_differences.specs.Lines.{compared_of}
use Rattle.station_differences.proofs.laws.within_apart.Goals as goal

pub returns : goal.returns
returns c = λ station stated lines off apart p is.
    all_within station stated (compared_of lines) off apart (as_rows station stated lines p) is
