-- What a script tells and how it gives it.
use Rattle.std.specs.Prelude.{ℕ, Bool}
use Rattle.byte_ends.specs.declared.script.Script.{Script}
use Rattle.byte_ends.specs.Source.{Told}

-- What it has left to give, and how it ends.
abbrev pub script_told : Script → Told
script_told s = record { bytes = s.rest.now; fails = s.fails }

-- The most bytes that it gives for one read.
abbrev pub script_step : Script → ℕ
script_step s = s.step

-- Whether a read of it has failed.
abbrev pub script_failed : Script → Bool
script_failed s = s.has_failed
