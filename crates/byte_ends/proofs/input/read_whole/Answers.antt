use Rattle.std.proofs.Common.{rules, ◌≡◌, ℕ, ◌<◌, ◌≤◌, length, List, [], Option, Some, Ok, Err}
use Rattle.std.proofs.Common.{refl}
use Rattle.std.proofs.Common.{subst, take, arith, ap, sym, ◌∙◌, ◌+◌, ◌++◌, Bool}
use Rattle.std.specs.Prelude.{nat_lt, true, false}
use Rattle.std.proofs.lemmas.List.{length-append, append-nil}
use Rattle.byte_ends.specs.Source.{Told, HasGiven, MayGive, given_by, given_then, ended, broken_off}
use Rattle.byte_ends.specs.Source.{ReaderChange, reader_change}
use Rattle.byte_ends.specs.declared.failed.Failed.{Failed}
use Rattle.byte_ends.specs.Input.{input_within, Ended, BrokeOff, RanPast}
use Rattle.byte_ends.proofs.Coming.{given_by_read, given_on, left_is}
use Rattle.byte_ends.proofs.input.read_whole.Goals as goal

-- Where nothing is left, the bytes are all.
ended_at : (limit : ℕ) (bytes : List ℕ) (told : Option Told) (left : Told) → length bytes ≤ limit
    → told ≡ Some ended → MayGive told left
    → input_within limit (given_then bytes left) ≡ Ended bytes
ended_at limit bytes told left le e may =
    let s : nat_lt limit (length bytes) ≡ false = grind arith in
    ap (λ (t : Told). input_within limit (given_then bytes t)) (left_is told ended left e may)
    ∙ rw (append-nil bytes, s) refl

broke_at : (limit : ℕ) (bytes : List ℕ) (told : Option Told) (left : Told) → length bytes ≤ limit
    → told ≡ Some broken_off → MayGive told left
    → input_within limit (given_then bytes left) ≡ BrokeOff bytes
broke_at limit bytes told left le e may =
    let s : nat_lt limit (length bytes) ≡ false = grind arith in
    ap (λ (t : Told). input_within limit (given_then bytes t)) (left_is told broken_off left e may)
    ∙ rw (append-nil bytes, s) refl

past_at : (limit : ℕ) (bytes : List ℕ) (left : Told) → limit < length bytes
    → input_within limit (given_then bytes left) ≡ RanPast
past_at limit bytes left lt =
    let l = length-append bytes left.bytes in
    let e : nat_lt limit (length (bytes ++ left.bytes)) ≡ true = grind arith in rw e refl

-- Where a last read gave nothing, no more was given.
given_still : (reader : ReaderChange) (bytes none : List ℕ) → none ≡ []
    → HasGiven reader (bytes ++ none) → HasGiven reader bytes
given_still reader bytes none e h =
    subst (λ (b : List ℕ). HasGiven reader b)
    (ap (λ (r : List ℕ). bytes ++ r) e ∙ append-nil bytes) h

pub returns-in-Ok-eq0-clause-came : goal.returns-in-Ok-eq0-clause-came
returns-in-Ok-eq0-clause-came g c =
    let told = g.S.Source.told in
    let failed = g.S.Source.failed in
    let gave = g.S.Source.gave in
    let old = c.args.source.now in
    let now = c.reading.source in
    let new = c.read.new.self in
    let bytes = c.reading.bytes.items in
    let n = c.in-Ok-eq0.field-0 in
    record {
      given = bytes;
      by_reads = given_still (reader_change told failed gave old new) bytes (take n c.read.new.buf)
          (ap (λ (n : ℕ). take n c.read.new.buf) c.in-Ok-eq0.field-0-test)
          (given_on told failed gave old now new bytes (take n c.read.new.buf)
          c.reading.invariant.given
          (given_by_read {E = Failed} told failed gave now new (Ok n) c.read.new.buf
          c.in-Ok-eq0.ensures.reads c.in-Ok-eq0.ensures.adds));
      so = λ left may. ended_at c.args.most bytes (told new) left (search rules)
          (c.in-Ok-eq0.ensures.over c.in-Ok-eq0.field-0-test (search rules)) may;
    }

pub returns-then-is_err-clause-came : goal.returns-then-is_err-clause-came
returns-then-is_err-clause-came g c =
    let told = g.S.Source.told in
    let failed = g.S.Source.failed in
    let gave = g.S.Source.gave in
    let now = c.reading.source in
    let new = c.read.new.self in
    record {
      given = c.reading.bytes.items ++ given_by c.read.result c.read.new.buf;
      by_reads = given_on told failed gave c.args.source.now now new c.reading.bytes.items
          (given_by c.read.result c.read.new.buf) c.reading.invariant.given
          (given_by_read {E = Failed} told failed gave now new c.read.result c.read.new.buf
          c.read.ensures.reads c.read.ensures.adds);
      so = λ left may. tt;
    }

pub returns-in-Err-clause-came : goal.returns-in-Err-clause-came
returns-in-Err-clause-came g c =
    let told = g.S.Source.told in
    let failed = g.S.Source.failed in
    let gave = g.S.Source.gave in
    let old = c.args.source.now in
    let now = c.reading.source in
    let new = c.read.new.self in
    let bytes = c.reading.bytes.items in
    record {
      given = bytes;
      by_reads = given_still (reader_change told failed gave old new) bytes [] refl
          (given_on told failed gave old now new bytes [] c.reading.invariant.given
          (given_by_read {E = Failed} told failed gave now new (Err c.in-Err.field-0) c.read.new.buf
          c.in-Err.ensures.reads c.in-Err.ensures.adds));
      so = λ left may. (
        bytes,
        broke_at c.args.most bytes (told new) left (search rules) c.in-Err.ensures.over may,
      );
    }

pub returns-clause-came : goal.returns-clause-came
returns-clause-came g c = record {
  given = c.reading.bytes.items;
  by_reads = c.reading.invariant.given;
  so = λ left may. past_at c.args.most c.reading.bytes.items left (search rules);
}

pub reading-preserved : goal.reading-preserved
reading-preserved g c =
    let told = g.S.Source.told in
    let failed = g.S.Source.failed in
    let gave = g.S.Source.gave in
    let old = c.args.source.now in
    let now = c.reading.source in
    let new = c.read.new.self in
    let bytes = c.reading.bytes.items in
    let n = c.in-Ok.n in
    let items : c.extend_from_slice.new.self.items ≡ bytes ++ take n c.read.new.buf =
    search rules in
    record {
      given = subst (λ (b : List ℕ). HasGiven (reader_change told failed gave old new) b)
          (sym items)
          (given_on told failed gave old now new bytes (take n c.read.new.buf)
          c.reading.invariant.given
          (given_by_read {E = Failed} told failed gave now new (Ok n) c.read.new.buf
          c.in-Ok.ensures.reads c.in-Ok.ensures.adds));
      unfailed = c.in-Ok.ensures.failed ∙ c.reading.invariant.unfailed;
    }
