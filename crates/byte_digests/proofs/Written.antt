-- Texts that are written one after the other.
use Rattle.std.proofs.Common.{◌≡◌, ℕ, List, [], ◌∷◌, ◌++◌, take, drop, length, Option, refl, sym}
use Rattle.std.proofs.Common.{ap}
use Rattle.std.proofs.Common.{subst, ◌∙◌, append_assoc, Bool, true, false, flat_map, drop-cons}
use Rattle.std.proofs.Common.{add-one}
use Rattle.std.specs.Io.KnownBytes.{Appends}
use Rattle.std.proofs.KnownBytes.{Appends-nil, Appends-trans}
use Rattle.std.proofs.lemmas.List.{take-append-drop, take_at}
use Rattle.std.specs.Prelude.{◌||◌, ◌==◌, ◌+◌, ◌<◌, slice_index, Result, Ok, Err, OnOk, OnErr}
use Rattle.std.specs.List.{list_any}
use Rattle.byte_digests.specs.DigestLines.{escaped, is_escaped}
use Rattle.byte_ends.specs.Sink.{AppendsSome}

-- Some of the first bytes of a text are some of those of a longer one.
pub some_of_longer : (old new : Option (List ℕ)) (text rest : List ℕ) → AppendsSome old new text
    → AppendsSome old new (text ++ rest)
some_of_longer old new text rest h =
    let got = take h.0 text in
    let left = drop h.0 text ++ rest in
    let whole : text ++ rest ≡ got ++ left =
    ap (λ (t : List ℕ). t ++ rest) (sym (take-append-drop h.0 text))
    ∙ append_assoc got (drop h.0 text) rest in
    let shown : take (length got) (text ++ rest) ≡ got =
    ap (take (length got)) whole ∙ take_at got left (length got) refl in
    (length got, subst (λ (t : List ℕ). Appends old new t) (sym shown) h.1)

-- A text, and some of the one after it, are some of both.
pub then_some : (old now new : Option (List ℕ)) (first text : List ℕ) → Appends old now first
    → AppendsSome now new text → AppendsSome old new (first ++ text)
then_some old now new first text p h =
    let got = first ++ take h.0 text in
    let whole : first ++ text ≡ got ++ drop h.0 text =
    ap (λ (t : List ℕ). first ++ t) (sym (take-append-drop h.0 text))
    ∙ sym (append_assoc first (take h.0 text) (drop h.0 text)) in
    let shown : take (length got) (first ++ text) ≡ got =
    ap (take (length got)) whole ∙ take_at got (drop h.0 text) (length got) refl in (
      length got,
      subst (λ (t : List ℕ). Appends old new t) (sym shown)
          (Appends-trans old now new first (take h.0 text) p h.1),
    )

-- What holds, whatever was answered, is so where a failure was.
pub in_any_case : {T E P : Type 0} (r : Result T E) → P → OnErr r P
in_any_case (Ok x) p = tt
in_any_case (Err e) p = p

-- What follows from what is so with Ok, or where a failure was.
pub so_ok : {T E P Q : Type 0} (r : Result T E) → (P → Q) → OnOk r P → OnOk r Q
so_ok (Ok x) next p = next p
so_ok (Err e) next p = tt

pub so_err : {T E P Q : Type 0} (r : Result T E) → (P → Q) → OnErr r P → OnErr r Q
so_err (Ok x) next p = tt
so_err (Err e) next p = next p

neither : (p q : Bool) → p || q ≡ false → (p ≡ false) × (q ≡ false)
neither true q e = cc
neither false q e = (refl, e)

plain_byte : (x : ℕ) → is_escaped x ≡ false → escaped x ≡ x ∷ []
plain_byte x e =
    let one = neither (x == 92) ((x == 10) || (x == 13)) e in
    let two = neither (x == 10) (x == 13) one.1 in rw (one.0, two.0, two.1) refl

-- A name without such a byte stands as it is.
pub plain_name : (name : List ℕ) → list_any is_escaped name ≡ false
    → flat_map escaped name ≡ name
plain_name [] e = refl
plain_name (x ∷ xs) e =
    let here = neither (is_escaped x) (list_any is_escaped xs) e in
    ap (λ (t : List ℕ). t ++ flat_map escaped xs) (plain_byte x here.0)
    ∙ ap (λ (t : List ℕ). x ∷ t) (plain_name xs here.1)

-- Of a text all but this rest was written.
pub record Partly (text rest : List ℕ) (old now : Option (List ℕ)) : Type 0 where
  pub done : List ℕ
  pub split : done ++ rest ≡ text
  pub got : Appends old now done

pub partly_none : (text : List ℕ) (old : Option (List ℕ)) → Partly text text old old
partly_none text old = record { done = []; split = refl; got = Appends-nil old }

-- One piece more.
pub partly_then : (text rest piece after : List ℕ) (old now new : Option (List ℕ))
    → Partly text rest old now → Appends now new piece → rest ≡ piece ++ after
    → Partly text after old new
partly_then text rest piece after old now new p h e = record {
  done = p.done ++ piece;
  split = append_assoc p.done piece after ∙ ap (λ (r : List ℕ). p.done ++ r) (sym e) ∙ p.split;
  got = Appends-trans old now new p.done piece p.got h;
}

-- Some of one piece more.
pub partly_some : (text rest piece after : List ℕ) (old now new : Option (List ℕ))
    → Partly text rest old now → AppendsSome now new piece → rest ≡ piece ++ after
    → AppendsSome old new text
partly_some text rest piece after old now new p h e =
    subst (λ (t : List ℕ). AppendsSome old new t)
    (ap (λ (r : List ℕ). p.done ++ r) (sym e) ∙ p.split)
    (then_some old now new p.done (piece ++ after) p.got (some_of_longer now new piece after h))

-- What is left of a name begins with its next byte, however a byte is written.
pub next_byte : (written : ℕ → List ℕ) (name : List ℕ) (i : ℕ) → i < length name
    → flat_map written (drop i name)
    ≡ written (slice_index name i) ++ flat_map written (drop (i + 1) name)
next_byte written name i lt =
    ap (λ (rest : List ℕ). flat_map written rest)
    (drop-cons name i 0 lt ∙ ap (λ k. slice_index name i ∷ drop k name) (sym (add-one i)))
