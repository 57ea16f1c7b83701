use Rattle.std.proofs.Common.{◌≡◌, ◌∙◌, ◌<◌, List, ℕ, length, false, sym, refl, subst, flat_map}
use Rattle.std.proofs.Common.{rules}
use Rattle.std.specs.Prelude.{OnOk, OnErr, slice_index}
use Rattle.std.specs.Io.KnownBytes.{Appends}
use Rattle.std.specs.List.{list_any}
use Rattle.byte_digests.specs.DigestLines.{escaped, is_escaped}
use Rattle.byte_ends.specs.Sink.{AppendsSome}
use Rattle.byte_digests.proofs.Written.{plain_name, partly_none, partly_then, partly_some}
use Rattle.byte_digests.proofs.Written.{next_byte, in_any_case}
use Rattle.byte_digests.proofs.digest_line.write_name.Goals as goal

pub returns-then-not-has_escapes-clause-ok : goal.returns-then-not-has_escapes-clause-ok
returns-then-not-has_escapes-clause-ok g c =
    let plain : list_any is_escaped c.args.name.now ≡ false = search rules in
    let same : flat_map escaped c.args.name.now ≡ c.args.name.now =
    plain_name c.args.name.now plain in
    subst (λ (text : List ℕ). OnOk c.write_all.result (Appends
    (g.W.Sink.holds c.args.writer.now) (g.W.Sink.holds c.write_all.new.self) text))
    (sym same) c.write_all.ensures.ok

pub returns-then-not-has_escapes-clause-cut_short :
    goal.returns-then-not-has_escapes-clause-cut_short
returns-then-not-has_escapes-clause-cut_short g c =
    let plain : list_any is_escaped c.args.name.now ≡ false = search rules in
    let same : flat_map escaped c.args.name.now ≡ c.args.name.now =
    plain_name c.args.name.now plain in
    subst (λ (text : List ℕ). OnErr c.write_all.result (AppendsSome
    (g.W.Sink.holds c.args.writer.now) (g.W.Sink.holds c.write_all.new.self) text))
    (sym same) c.write_all.ensures.cut_short

pub name-init : goal.name-init
name-init g c = record { text = partly_none _ _; failed = refl }

pub name-preserved : goal.name-preserved
name-preserved g c =
    let name = c.args.name.now in
    let i = c.name.byte-index in
    let inside : i < length name = search rules in
    record {
      text = partly_then _ _ (escaped (slice_index name i)) _ _ _ _ c.name.invariant.text
          c.in_ok-write_byte.ensures.ok (next_byte escaped name i inside);
      failed = c.in_ok-write_byte.ensures.failed ∙ c.name.invariant.failed;
    }

pub returns-in_err-write_byte-clause-cut_short : goal.returns-in_err-write_byte-clause-cut_short
returns-in_err-write_byte-clause-cut_short g c =
    let name = c.args.name.now in
    let i = c.name.byte-index in
    let inside : i < length name = search rules in
    in_any_case c.from_residual.result
    (partly_some _ _ (escaped (slice_index name i)) _ _ _ _ c.name.invariant.text
    c.in_err-write_byte.ensures.cut_short (next_byte escaped name i inside))
