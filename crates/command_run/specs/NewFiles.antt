-- A file that is made at its first byte, or where it is flushed.
use Rattle.std.specs.Prelude.{ℕ, Bool, List, Option}
use Rattle.command_run.specs.declared.new_file.NewFile.{NewFile}

-- The host of such a file.
abbrev pub host_of : {H N : Type 0} → NewFile H N → H
host_of s = s.host.now

-- Its path.
abbrev pub path_of : {H N : Type 0} → NewFile H N → List ℕ
path_of s = s.path.now

-- The file, once it is made.
abbrev pub file_of : {H N : Type 0} → NewFile H N → Option N
file_of s = s.file

-- Whether a call of it has failed.
abbrev pub has_failed : {H N : Type 0} → NewFile H N → Bool
has_failed s = s.has_failed
