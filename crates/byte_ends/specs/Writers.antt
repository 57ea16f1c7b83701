-- What happened to a writer, of whatever kind it is.
use Rattle.std.specs.Prelude.{◌≡◌}
use Rattle.byte_ends.specs.Sink.{WriterChange}
use Rattle.byte_ends.specs.declared.sink.Sink.{Ghosts}

-- What happened to this writer, which was `old` and is `new`: as its kind of sink has it, which a
-- clause writes `W.Sink`.
abbrev pub writer_change : {S : Type 0} → Ghosts S → S → S → WriterChange
writer_change sink old new = record {
  holds = sink.holds old;
  holds' = sink.holds new;
  failed = sink.failed old;
  failed' = sink.failed new;
  is_flushed = sink.flushed new;
  is_unasked = new ≡ old;
}
