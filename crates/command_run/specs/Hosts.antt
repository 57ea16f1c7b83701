-- What is known of what a run is given from outside.
use Rattle.std.specs.Prelude.{◌≡◌, ℕ, Bool, false, List, Option}
use Rattle.byte_ends.specs.declared.sink.Sink.{Ghosts}
use Rattle.byte_ends.specs.declared.source.Source.{Ghosts as Readers}
use Rattle.byte_ends.specs.Source.{Told, ReaderChange, UntilDropped, reader_change}
use Rattle.clap.specs.Words.{Text}
use Rattle.command_run.specs.declared.host.Host.{Ghosts as Hosts}
use Rattle.command_run.specs.declared.host.NoWords.{NoWords}
use Rattle.station_record.specs.declared.named.NamedReader.{NamedReader}

-- What happened to a reader, which was `old` and is `new`.
abbrev pub change_of : {R : Type 0} → Readers R → R → R → ReaderChange
change_of seen old new = reader_change seen.told seen.failed seen.gave old new

-- A reader was taken in, and what happened to it until it was dropped is so.
abbrev pub IsTakenIn : {R : Type 0} → Readers R → R → (ReaderChange → Type 0) → Type 0
IsTakenIn seen taken P = UntilDropped seen.told seen.failed seen.gave taken P

-- What is known of the files of paths: how they are seen once they are open, what the file of a
-- path gives, and whether it may be one that can't be opened.
pub record Files (F : Type 0) : Type 1 where
  pub seen : Readers F
  pub gives : List ℕ → Option Told
  pub may_not_open : List ℕ → Bool

-- What a host knows of the files of paths.
abbrev pub files_of : {H F I N : Type 0} → Readers F → Hosts H F I N → H → Files F
files_of seen known host = record {
  seen = seen;
  gives = known.known_file host;
  may_not_open = known.may_not_open host;
}

-- What is known of what a run is given: the words of its command line, and why they may be lacking;
-- the files of paths; how new files are seen, and what that of a path holds; how standard input is
-- seen, and what it is.
pub record Known (F N I : Type 0) : Type 1 where
  pub words : Option (List Text)
  pub may_lack : NoWords → Bool
  pub files : Files F
  pub new_files : Ghosts N
  pub new_file : List ℕ → Option (List ℕ)
  pub inputs : Readers I
  pub input : I

-- What a host knows of what a run is given, with this input and new files that are seen so.
abbrev pub known_of : {H F I M N : Type 0} → Readers F → Ghosts N → Readers I → Hosts H F I M → H
    → I → Known F N I
known_of files new_files inputs known host input = record {
  words = known.known_words host;
  may_lack = known.may_lack host;
  files = files_of files known host;
  new_files = new_files;
  new_file = known.known_new host;
  inputs = inputs;
  input = input;
}

-- The file of a path, as it is when it is opened: it has the path for its name, its reader tells
-- what is known of the path, and no read of it has failed.
pub record IsUnread {F : Type 0} (files : Files F) (path : List ℕ) (file : NamedReader F)
    : Type 0 where
  pub named : file.name.now ≡ path
  pub tells : files.seen.told file.reader ≡ files.gives path
  pub unfailed : files.seen.failed file.reader ≡ false

-- A new file of a path, before it is made: it holds what is known of one, and no call of it has
-- failed.
pub record IsNew {N : Type 0} (seen : Ghosts N) (known : List ℕ → Option (List ℕ)) (path : List ℕ)
    (file : N) : Type 0 where
  pub holds : seen.holds file ≡ known path
  pub unfailed : seen.failed file ≡ false
