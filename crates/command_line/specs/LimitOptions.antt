-- The options that state a limit: what the texts of mistakes say of them, and their order.
use Rattle.std.specs.Prelude.{◌++◌, ℕ, List, codes}
use Rattle.command_line.specs.declared.limit_option.LimitOption.{LimitOption}
use Rattle.command_line.specs.declared.limit_option.LimitOption.TheVariants.{TwoC, TwoI, Residual}
use Rattle.command_line.specs.declared.limit_option.LimitOption.TheVariants.{Within}
use Rattle.limit_texts.specs.declared.limit.LimitUnit.{LimitUnit}
use Rattle.limit_texts.specs.declared.limit.LimitUnit.TheVariants.{Hundredth, HalfUnit, Thousandth}

-- The name of an option that states a limit.
abbrev pub option_name : LimitOption → List ℕ
option_name TwoC = codes "two-c"
option_name TwoI = codes "two-i"
option_name Residual = codes "residual"
option_name Within = codes "within"

-- The unit in which its limit is counted.
abbrev pub option_unit : LimitOption → LimitUnit
option_unit TwoC = Hundredth
option_unit TwoI = Hundredth
option_unit Residual = HalfUnit
option_unit Within = Thousandth

-- The largest limit that may be stated there, in its unit.
abbrev pub option_largest : LimitOption → ℕ
option_largest TwoC = 1_000_000
option_largest TwoI = 1_000_000
option_largest Residual = 2_000
option_largest Within = 1_000_000

-- What a face difference's limit may be, as a mistake tells it.
abbrev pub face_limits : List ℕ
face_limits = codes "state mgon, as 0.3mgon: from 0mgon to 10000mgon, by 0.01;\n"
    ++ codes "or units of 0.01 mgon: from 0 to 1000000"

-- What the limit of an option may be, as a mistake tells it.
abbrev pub option_limits : LimitOption → List ℕ
option_limits TwoC = face_limits
option_limits TwoI = face_limits
option_limits Residual = codes "state mgon, as 0.3mgon: from 0mgon to 10mgon, by 0.005;\n"
    ++ codes "or half units of 0.005 mgon: from 0 to 2000"
option_limits Within = codes "state mgon, as 0.05mgon: from 0mgon to 1000mgon, by 0.001;\n"
    ++ codes "or units of 0.001 mgon: from 0 to 1000000"

-- The place of an option among them: of several wrong limits the one in the least place is told.
abbrev pub place : LimitOption → ℕ
place TwoC = 0
place TwoI = 1
place Residual = 2
place Within = 3
