-- What came of a reader.
use Rattle.std.proofs.Common.{◌≡◌, ◌++◌, List, ℕ, [], Option, Some, None, Result, Ok, Err, refl}
use Rattle.std.proofs.Common.{sym, Bool}
use Rattle.std.proofs.Common.{ap, ◌∙◌, subst, append_assoc, take}
use Rattle.std.proofs.lemmas.List.{append-nil}
use Rattle.byte_ends.specs.Came.{BytesCame}
use Rattle.byte_ends.specs.Source.{Told, MayGive, HasGiven, Adds, Reads, Through, given_by}
use Rattle.byte_ends.specs.Source.{ReaderChange, reader_change, given_then, ended}

-- Histories that grew by some bytes and then by others have grown by both.
pub adds_then : (a b c : ℕ → List ℕ → Type 0) (xs ys : List ℕ) → Adds a b xs → Adds b c ys
    → Adds a c (xs ++ ys)
adds_then a b c xs ys p q history given h =
    subst (λ (all : List ℕ). c history all) (append_assoc given xs ys)
    (q history (given ++ xs) (p history given h))

-- Histories that are as they were have grown by nothing.
pub adds_none : (a : ℕ → List ℕ → Type 0) → Adds a a []
adds_none a history given h =
    subst (λ (all : List ℕ). a history all) (sym (append-nil given)) h

-- Some bytes, then others, and then what is left.
then_both : (xs ys : List ℕ) (left : Told)
    → given_then xs (given_then ys left) ≡ given_then (xs ++ ys) left
then_both xs ys left =
    ap (λ (bytes : List ℕ). record { bytes = bytes; fails = left.fails })
    (sym (append_assoc xs ys left.bytes))

-- Without a read nothing is given.
pub given_none : {S : Type 0} (told : S → Option Told) (failed : S → Bool)
    (gave : S → ℕ → List ℕ → Type 0) (s : S)
    → HasGiven (reader_change told failed gave s s) []
given_none told failed gave s = record { adds = adds_none (gave s); might = λ left may. may }

-- What some reads gave and then others, all of them gave.
pub given_on : {S : Type 0} (told : S → Option Told) (failed : S → Bool)
    (gave : S → ℕ → List ℕ → Type 0) (old now new : S)
    (xs ys : List ℕ) → HasGiven (reader_change told failed gave old now) xs
    → HasGiven (reader_change told failed gave now new) ys
    → HasGiven (reader_change told failed gave old new) (xs ++ ys)
given_on told failed gave old now new xs ys p q = record {
  adds = adds_then (gave old) (gave now) (gave new) xs ys p.adds q.adds;
  might = λ left may. subst (λ (t : Told). MayGive (told old) t) (then_both xs ys left)
      (p.might (given_then ys left) (q.might left may));
}

might_by_read : {E : Type 0} (old new : Option Told) (r : Result ℕ E) (buf : List ℕ)
    → Reads old new r buf → (left : Told) → MayGive new left
    → MayGive old (given_then (given_by r buf) left)
might_by_read None new r buf h left may = tt
might_by_read (Some o) None r buf h left may = absurd h
might_by_read (Some o) (Some n) (Ok k) buf h left may =
    let b : take k buf ++ left.bytes ≡ o.bytes =
    ap (λ (t : Told). take k buf ++ t.bytes) may ∙ sym h.next in
    let f : left.fails ≡ o.fails = ap (λ (t : Told). t.fails) may ∙ h.same in
    rw (b, f) refl
might_by_read (Some o) (Some n) (Err e) buf h left may = may ∙ h.unchanged

-- What one read gave.
pub given_by_read : {S E : Type 0} (told : S → Option Told) (failed : S → Bool)
    (gave : S → ℕ → List ℕ → Type 0)
    (old new : S) (r : Result ℕ E) (buf : List ℕ) → Reads (told old) (told new) r buf
    → Adds (gave old) (gave new) (given_by r buf)
    → HasGiven (reader_change told failed gave old new) (given_by r buf)
given_by_read told failed gave old new r buf reads adds = record {
  adds = adds;
  might = might_by_read (told old) (told new) r buf reads;
}

-- Without a read, of whatever may be left.
pub through_none : {S : Type 0} (told : S → Option Told) (failed : S → Bool)
    (gave : S → ℕ → List ℕ → Type 0) (s : S)
    (P : Told → Told → Type 0) → ((t : Told) → P t t)
    → Through (reader_change told failed gave s s) P
through_none told failed gave s P so = record {
  given = [];
  by_reads = given_none told failed gave s;
  so = λ left may. so left;
}

-- Through some reads and then others.
pub through_then : {S : Type 0} (told : S → Option Told) (failed : S → Bool)
    (gave : S → ℕ → List ℕ → Type 0)
    (old now new : S) (P Q R : Told → Told → Type 0)
    → Through (reader_change told failed gave old now) P
    → Through (reader_change told failed gave now new) Q
    → ((first then last : Told) → P first then → Q then last → R first last)
    → Through (reader_change told failed gave old new) R
through_then told failed gave old now new P Q R p q next = record {
  given = p.given ++ q.given;
  by_reads = given_on told failed gave old now new p.given q.given p.by_reads q.by_reads;
  so = λ left may.
      let then = given_then q.given left in
      subst (λ (t : Told). R t left) (then_both p.given q.given left)
      (next (given_then p.given then) then left
      (p.so then (q.by_reads.might left may)) (q.so left may));
}

-- Through the same reads, what follows.
pub through_so : (reader : ReaderChange) (P Q : Told → Told → Type 0) → Through reader P
    → ((first last : Told) → P first last → Q first last) → Through reader Q
through_so reader P Q p next = record {
  given = p.given;
  by_reads = p.by_reads;
  so = λ left may. next (given_then p.given left) left (p.so left may);
}

-- What is left of a reader that has told its end is that end.
pub left_is : (told : Option Told) (end left : Told) → told ≡ Some end → MayGive told left
    → left ≡ end
left_is None end left e may = cc
left_is (Some t) end left e may = may ∙ some_is e
  where
    some_is : Some t ≡ Some end → t ≡ end
    some_is e = cc

-- A reader may always give something.
pub some_left : (told : Option Told) → (t : Told) × MayGive told t
some_left None = (ended, tt)
some_left (Some t) = (t, refl)

-- Where one thing is so of what came, so is what follows from it.
pub came_so : (reader : ReaderChange) (So Then : Told → Type 0) → BytesCame reader So
    → ((t : Told) → So t → Then t) → BytesCame reader Then
came_so reader So Then s next =
    through_so reader (λ came left. So came) (λ came left. Then came) s
    (λ came left so. next came so)

-- What is so of anything that comes is so of what came where nothing was read.
pub anything_came : {S : Type 0} (told : S → Option Told) (failed : S → Bool)
    (gave : S → ℕ → List ℕ → Type 0) (s : S) (So : Told → Type 0) → ((t : Told) → So t)
    → BytesCame (reader_change told failed gave s s) So
anything_came told failed gave s So so =
    through_none told failed gave s (λ came left. So came) so

-- Where a reader told its bytes, those that it gave and what is left are they.
pub given_as_told : (reader : ReaderChange) (given : List ℕ) → HasGiven reader given
    → (t : Told) → reader.told ≡ Some t → (left : Told) → MayGive reader.told' left
    → given_then given left ≡ t
given_as_told reader given by_reads t e left may =
    left_is reader.told t (given_then given left) e (by_reads.might left may)

-- What is so of what came is so of what the reader told.
pub came_as_told : (reader : ReaderChange) (So : Told → Type 0) → BytesCame reader So
    → (t : Told) → reader.told ≡ Some t → So t
came_as_told reader So s t e =
    let left = some_left reader.told' in
    subst So (given_as_told reader s.given s.by_reads t e left.0 left.1) (s.so left.0 left.1)

-- What stood before some reads, by what is left after them.
pub step_back : (reader : ReaderChange) (P : Told → Told → Type 0) → Through reader P
    → (after : Told) → MayGive reader.told' after
    → (before : Told) × MayGive reader.told before × P before after
step_back reader P p after may =
    (given_then p.given after, p.by_reads.might after may, p.so after may)

-- What stands at the end of some reads.
pub at_last : (reader : ReaderChange) (P : Told → Told → Type 0) → Through reader P
    → (after : Told) × ((before : Told) × MayGive reader.told before × P before after)
at_last reader P p =
    let left = some_left reader.told' in (left.0, step_back reader P p left.0 left.1)
