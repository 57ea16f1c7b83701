use Rattle.std.proofs.Common.{◌≡◌, ◌++◌, map, string_bytes}
use Rattle.std.specs.Prelude.{encode_utf8_all}
use Rattle.command_run.specs.Unopened.{shown}
use Rattle.command_run.proofs.unopened.path_line.Given as goal

abbrev pub invariant-loop-character : goal.invariant-loop-character
invariant-loop-character l =
    string_bytes l.line ≡ l.words ++ encode_utf8_all (map shown l.yielded)
