-- What a run that explains a fault prints, and what its answer says.
use Rattle.std.specs.Prelude.{ℕ, List, Option, Result, OnOk, OnErr, IfErr, ⊤}
use Rattle.std.specs.Borrow.{Bor}
use Rattle.std.specs.Io.KnownBytes.{Appends}
use Rattle.byte_ends.specs.Sink.{AppendsSome, WriterChange}
use Rattle.station_check.specs.Answerable.{FailsAtWrite, IsUnwritten, Flushes}
use Rattle.station_check.specs.declared.fault.Fault.{Fault}
use Rattle.station_check.specs.declared.fault.Fault.TheVariants.{Write, Memory}
use Rattle.station_explain.specs.Explaining.{Explains}
use Rattle.station_explain.specs.Table.{Explanation}

-- What a run that explains may answer: that a call of `out` failed, or that memory ran out.
abbrev pub IsOfExplain : Fault → Type 0
IsOfExplain Write = ⊤
IsOfExplain Memory = ⊤
IsOfExplain fault = ⊥

-- A run that prints this text: with Ok it was written whole and flushed; where a call of `out`
-- failed, and only there the answer says so, some of its first bytes were; at any other refusal
-- nothing was asked of `out`.
pub record IsExplainRun {A : Type 0} (table : List (Bor (List Explanation)))
    (fault : Option Explanation) (r : Result A Fault) (out : WriterChange) : Type 0 where
  pub text : List ℕ
  pub of_fault : Explains table fault text
  pub of_explain : IfErr r IsOfExplain
  pub written : OnOk r (Appends out.holds out.holds' text)
  pub flushed : Flushes r out.is_flushed
  pub cut_short : OnErr r (AppendsSome out.holds out.holds' text)
  pub fails : FailsAtWrite r out
  pub unwritten : IsUnwritten r out
