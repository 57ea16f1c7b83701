-- A read after the first bytes of a buffer.
use Rattle.std.proofs.Common.{◌≡◌, ℕ, suc, ◌+◌, ◌-◌, ◌<◌, ◌≤◌, List, [], ◌∷◌, ◌++◌, length, take}
use Rattle.std.proofs.Common.{drop, Option, Result, Ok, Err, slice_range, MatchResult}
use Rattle.std.proofs.Common.{refl, sym, ap, ◌∙◌, arith, length-take, drop-drop}
use Rattle.std.specs.Prelude.{IfOk, Bool}
use Rattle.std.proofs.lemmas.List.{drop-take, drop-append-le, take-append-le}
use Rattle.byte_ends.specs.Source.{Told, Reads, Fails, AfterRead, TellsOver, MayGive, Through, Adds}
use Rattle.byte_ends.specs.Source.{given_by, given_then, reader_change, ended, broken_off}
use Rattle.byte_ends.proofs.Coming.{given_by_read, left_is}
use Rattle.byte_ends.specs.declared.failed.Failed.{Failed}
use Rattle.gsi_file.specs.Filling.{Grows}

take_after : (pre ys : List ℕ) (held n : ℕ) → length pre ≡ held
    → take (held + n) (pre ++ ys) ≡ pre ++ take n ys
take_after [] ys held n e = let z : held + n ≡ n = omega arith in ap (λ k. take k ys) z
take_after (x ∷ pre) ys held n e =
    let s : held + n ≡ suc (length pre + n) = omega arith in
    ap (λ k. take k (x ∷ (pre ++ ys))) s ∙ ap (λ zs. x ∷ zs)
    (take_after pre ys (length pre) n refl)

-- A read into the room after a buffer's first bytes appends what it gave, or failed and left them.
pub reads_after : (old new : Told) (pre mid post : List ℕ) (held : ℕ) (r : Result ℕ Failed)
    → length pre ≡ held → 0 < length mid → IfOk r (λ n. n ≤ length mid) → AfterRead old new r mid →
    MatchResult r (λ n. Grows old new pre (take (held + n) (pre ++ (mid ++ post))) n)
    (λ _. (take held (pre ++ (mid ++ post)) ≡ pre) × Fails old new)
reads_after old new pre mid post held (Ok n) e some le h = record {
  given = take n mid;
  now = take_after pre (mid ++ post) held n e
      ∙ ap (λ zs. pre ++ zs) (take-append-le n mid post le);
  count = omega (arith, length-take n mid);
  told = record { next = h.next; same = h.same; end = λ none room. h.end none some };
}
reads_after old new pre mid post held (Err e') e some le h =
    (take_whole pre (mid ++ post) held e, h)
  where
    take_whole : (xs ys : List ℕ) (k : ℕ) → length xs ≡ k → take k (xs ++ ys) ≡ xs
    take_whole [] ys k e = let z : k ≡ 0 = omega arith in ap (λ j. take j ys) z
    take_whole (x ∷ xs) ys k e =
        let s : k ≡ suc (length xs) = omega arith in
        ap (λ j. take j (x ∷ (xs ++ ys))) s ∙ ap (λ zs. x ∷ zs) (take_whole xs ys (length xs) refl)

-- A range that begins n bytes later is the range without its first n bytes.
pub slice_range_after : (xs : List ℕ) (a e n : ℕ) → a + n ≤ e
    → slice_range xs (a + n) e ≡ drop n (slice_range xs a e)
slice_range_after xs a e n le =
    let whole : n + (e - (a + n)) ≡ e - a = omega arith in
    ap (take (e - (a + n))) (sym (drop-drop n a xs))
    ∙ sym (drop-take n (e - (a + n)) (drop a xs))
    ∙ ap (λ k. drop n (take k (drop a xs))) whole

-- A range has at most as many bytes as lie between its two ends.
pub range_length : (xs : List ℕ) (a e : ℕ) → length (slice_range xs a e) ≤ e - a
range_length xs a e = omega (arith, length-take (e - a) (drop a xs))

-- The bytes in hand are the first bytes of the room without those before them.
range_of_take : (xs : List ℕ) (a e : ℕ) → a ≤ e → slice_range xs a e ≡ drop a (take e xs)
range_of_take xs a e le =
    let whole : a + (e - a) ≡ e = omega arith in
    sym (drop-take a (e - a) xs) ∙ ap (λ k. drop a (take k xs)) whole

-- A read after the first bytes of the room, as one after those in hand.
pub grows_after : (old new : Told) (buf buf' hand : List ℕ) (a e n : ℕ) → a ≤ e
    → e ≤ length buf → slice_range buf a e ≡ hand → Grows old new (take e buf) (take (e + n) buf') n
    → Grows old new hand (slice_range buf' a (e + n)) n
grows_after old new buf buf' hand a e n le inside same g = record {
  given = g.given;
  now =
      range_of_take buf' a (e + n) (omega arith)
      ∙ ap (drop a) g.now
      ∙ drop-append-le a (take e buf) g.given (omega (arith, length-take e buf))
      ∙ ap (λ xs. xs ++ g.given) (sym (range_of_take buf a e le) ∙ same);
  count = g.count;
  told = g.told;
}

no_bytes : (n : ℕ) (buf : List ℕ) → take n buf ≡ [] → 0 < length buf → n ≡ 0
no_bytes n buf e some = omega (arith, ap length e, length-take n buf)

-- A read is one of a source that told what it gave and what is left.
after_read : (told : Option Told) (buf : List ℕ) (r : Result ℕ Failed)
    → TellsOver told r (length buf) → (left : Told) → MayGive told left
    → AfterRead (given_then (given_by r buf) left) left r buf
after_read told buf (Ok n) over left may = record {
  next = refl;
  same = refl;
  end = λ none some. let e : left ≡ ended =
      left_is told ended left (over (no_bytes n buf none some) some) may in
      (ap (λ (t : Told). t.bytes) e, ap (λ (t : Told). t.fails) e);
}
after_read told buf (Err e') over left may =
    let e : left ≡ broken_off = left_is told broken_off left over may in
    record {
      unchanged = refl;
      end = (ap (λ (t : Told). t.bytes) e, ap (λ (t : Told). t.fails) e);
    }

-- Whatever a source may give after a read, the read is one of a source that told it.
pub reads_as : {S : Type 0} (told : S → Option Told) (failed : S → Bool)
    (gave : S → ℕ → List ℕ → Type 0) (old new : S)
    (buf : List ℕ) (r : Result ℕ Failed) → Reads (told old) (told new) r buf
    → TellsOver (told new) r (length buf) → Adds (gave old) (gave new) (given_by r buf)
    → Through (reader_change told failed gave old new) (λ o n. AfterRead o n r buf)
reads_as told failed gave old new buf r reads over adds = record {
  given = given_by r buf;
  by_reads = given_by_read told failed gave old new r buf reads adds;
  so = after_read (told new) buf r over;
}
