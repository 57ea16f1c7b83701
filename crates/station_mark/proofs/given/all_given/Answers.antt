use Rattle.std.proofs.Common.{rules, ◌≡◌, ℕ, Bool, List, [], Option, Ok, Err, refl, subst, take, ap}
use Rattle.std.proofs.Common.{sym, ◌∙◌, ◌++◌, inl, inr, Result}
use Rattle.std.specs.Prelude.{IfErr}
use Rattle.std.proofs.lemmas.List.{append-nil}
use Rattle.byte_ends.specs.Source.{Adds, HasGiven, Reads, Told, given_by, reader_change}
use Rattle.byte_ends.specs.declared.failed.Failed.{Failed}
use Rattle.byte_ends.proofs.Coming.{given_by_read, given_on}
use Rattle.station_mark.proofs.given.all_given.Goals as goal

-- What was given before a read, and by it.
given_with : {S : Type 0} (told : S → Option Told) (failed : S → Bool)
    (gave : S → ℕ → List ℕ → Type 0) (old now new : S) (bytes : List ℕ) (r : Result ℕ Failed)
    (buf : List ℕ) → HasGiven (reader_change told failed gave old now) bytes
    → Reads (told now) (told new) r buf → Adds (gave now) (gave new) (given_by r buf)
    → HasGiven (reader_change told failed gave old new) (bytes ++ given_by r buf)
given_with told failed gave old now new bytes r buf given reads adds =
    given_on told failed gave old now new bytes (given_by r buf) given
    (given_by_read told failed gave now new r buf reads adds)

-- The same, where the read gave nothing.
given_still : {S : Type 0} (told : S → Option Told) (failed : S → Bool)
    (gave : S → ℕ → List ℕ → Type 0) (old now new : S) (bytes : List ℕ) (r : Result ℕ Failed)
    (buf : List ℕ) → HasGiven (reader_change told failed gave old now) bytes
    → Reads (told now) (told new) r buf → Adds (gave now) (gave new) (given_by r buf)
    → given_by r buf ≡ [] → HasGiven (reader_change told failed gave old new) bytes
given_still told failed gave old now new bytes r buf given reads adds none =
    subst (λ (b : List ℕ). HasGiven (reader_change told failed gave old new) b)
    (ap (λ (b : List ℕ). bytes ++ b) none ∙ append-nil bytes)
    (given_with told failed gave old now new bytes r buf given reads adds)

-- What holds, whatever was answered, is so where a failure was.
where_err : {T E P : Type 0} (r : Result T E) → P → IfErr r (λ e. P)
where_err (Ok x) p = tt
where_err (Err e) p = p

pub returns-in-Ok-eq0-clause-given : goal.returns-in-Ok-eq0-clause-given
returns-in-Ok-eq0-clause-given g c = record {
  reads = given_still g.S.Source.told g.S.Source.failed g.S.Source.gave c.args.source.now
      c.reading.source c.read.new.self c.reading.bytes.items (Ok c.in-Ok-eq0.field-0)
      c.read.new.buf c.reading.invariant.given c.in-Ok-eq0.ensures.reads
      c.in-Ok-eq0.ensures.adds
      (ap (λ (n : ℕ). take n c.read.new.buf) c.in-Ok-eq0.field-0-test);
  left = inl (record {
    ended = c.in-Ok-eq0.ensures.over c.in-Ok-eq0.field-0-test (search rules);
    unfailed = c.in-Ok-eq0.ensures.failed ∙ c.reading.invariant.unfailed;
  });
}

pub returns-in-Err-clause-given : goal.returns-in-Err-clause-given
returns-in-Err-clause-given g c = record {
  reads = given_still g.S.Source.told g.S.Source.failed g.S.Source.gave c.args.source.now
      c.reading.source c.read.new.self c.reading.bytes.items (Err c.in-Err.field-0)
      c.read.new.buf c.reading.invariant.given c.in-Err.ensures.reads c.in-Err.ensures.adds refl;
  left = record { broken = c.in-Err.ensures.over; failed = c.in-Err.ensures.failed };
}

pub returns-clause-given : goal.returns-clause-given
returns-clause-given g c = record {
  reads = c.reading.invariant.given;
  left = inr (search rules, c.reading.invariant.unfailed);
}

pub reading-preserved : goal.reading-preserved
reading-preserved g c =
    let items : c.extend_from_slice.new.self.items
    ≡ c.reading.bytes.items ++ take c.in-Ok.n c.read.new.buf = search rules in
    record {
      given = subst (λ (b : List ℕ). HasGiven (reader_change g.S.Source.told g.S.Source.failed
          g.S.Source.gave c.args.source.now c.read.new.self) b)
          (sym items)
          (given_with g.S.Source.told g.S.Source.failed g.S.Source.gave c.args.source.now
          c.reading.source c.read.new.self c.reading.bytes.items (Ok c.in-Ok.n) c.read.new.buf
          c.reading.invariant.given c.in-Ok.ensures.reads c.in-Ok.ensures.adds);
      unfailed = c.in-Ok.ensures.failed ∙ c.reading.invariant.unfailed;
    }

pub returns-in_err-extend_from_slice-in-Ok-clause-some :
    goal.returns-in_err-extend_from_slice-in-Ok-clause-some
returns-in_err-extend_from_slice-in-Ok-clause-some g c =
    where_err c.from_residual.result (
      c.reading.bytes.items ++ take c.in-Ok.n c.read.new.buf,
      given_with g.S.Source.told g.S.Source.failed g.S.Source.gave c.args.source.now
          c.reading.source c.read.new.self c.reading.bytes.items (Ok c.in-Ok.n) c.read.new.buf
          c.reading.invariant.given c.in-Ok.ensures.reads c.in-Ok.ensures.adds,
    )
