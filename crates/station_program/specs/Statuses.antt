-- The exit status of what is printed in place of a run.
use Rattle.std.specs.Prelude.{◌≡◌, ℕ, Result}
use Rattle.clap.specs.declared.error.kind.ErrorKind.{ErrorKind}
use Rattle.clap.specs.declared.error.kind.ErrorKind.TheVariants.{DisplayHelp, DisplayVersion}
use Rattle.clap.specs.declared.error.kind.ErrorKind.TheVariants.{OutOfMemory}
use Rattle.station_check.specs.RunEndings.{status_of}

-- The exit status of what a parse answers in place of a request, by its kind: of help and of the
-- version by whether it was printed; 1 where memory was refused; and else 2, for a mistake.
abbrev pub IsStatusOfKind : {A E : Type 0} → ErrorKind → Result A E → ℕ → Type 0
IsStatusOfKind DisplayHelp printed status = status ≡ status_of printed
IsStatusOfKind DisplayVersion printed status = status ≡ status_of printed
IsStatusOfKind OutOfMemory printed status = status ≡ 1
IsStatusOfKind mistake printed status = status ≡ 2
