-- The answers of a file by its first bytes, where these break a limit already.
use Rattle.std.proofs.Common.{◌≡◌, ℕ, ◌<◌, Bool, true, false, cond, List, [], ◌∷◌, ◌++◌}
use Rattle.std.proofs.Common.{length}
use Rattle.std.proofs.Common.{Option, None, Some, refl, sym, ap, ◌∙◌, arith, subst, ◌&&◌, not}
use Rattle.std.proofs.lemmas.Bool.Decides.{nat_tests}
use Rattle.std.proofs.lemmas.List.{append-nil}
use Rattle.std.specs.List.{list_all}
use Rattle.std.specs.Option.{option_map}
use Rattle.std.specs.Prelude.{nat_le, ⊤}
use Rattle.gsi_file.proofs.Breaks.{answers_by, breaks, same_answers}
use Rattle.gsi_file.proofs.Fronts.{shortest_front}
use Rattle.gsi_file.specs.FileAnswers.{FileAnswers, answers_within}
use Rattle.gsi_file.specs.Parts.{parts}
use Rattle.gsi_file.specs.declared.file_fault.FileKind.{FileKind}
use Rattle.gsi_file.specs.declared.file_fault.FileKind.TheVariants.{Read, FileTooLong, LineTooLong}

first_here : (p : List ℕ → Bool) (xs : List ℕ) → p [] ≡ true → shortest_front p xs ≡ Some []
first_here p [] h = ap (λ b. cond b (Some []) None) h
first_here p (x ∷ xs) h = ap (λ b. cond b (Some [])
    (option_map (λ f. x ∷ f) (shortest_front (λ f. p (x ∷ f)) xs))) h

-- The shortest first bytes that pass a test, whatever follows these bytes.
abbrev FrontOf : (List ℕ → Bool) → List ℕ → Type 0
FrontOf p xs = (front : List ℕ) × ((ys : List ℕ) → shortest_front p (xs ++ ys) ≡ Some front)

one_more : (p : List ℕ → Bool) (x : ℕ) (xs : List ℕ) (b : Bool) → p [] ≡ b
    → FrontOf (λ f. p (x ∷ f)) xs → FrontOf p (x ∷ xs)
one_more p x xs true e r = (
  [],
  λ ys. ap (λ b. cond b (Some [])
      (option_map (λ f. x ∷ f) (shortest_front (λ f. p (x ∷ f)) (xs ++ ys)))) e,
)
one_more p x xs false e r = (
  x ∷ r.0,
  λ ys. ap (λ b. cond b (Some [])
      (option_map (λ f. x ∷ f) (shortest_front (λ f. p (x ∷ f)) (xs ++ ys)))) e
      ∙ ap (option_map (λ f. x ∷ f)) (r.1 ys),
)

-- Where bytes pass a test, the shortest first ones that do stand among them.
front_among : (p : List ℕ → Bool) (xs : List ℕ) → p xs ≡ true → FrontOf p xs
front_among p [] h = ([], λ ys. first_here p ys h)
front_among p (x ∷ xs) h =
    one_more p x xs (p []) refl (front_among (λ f. p (x ∷ f)) xs h)

too_many : (count room : ℕ) (b : Bool) → room < count → not (nat_le count room && b) ≡ true
too_many count room b lt = grind (arith, nat_tests)

-- Where there are more bytes than a limit, the answers are those of them alone, whatever follows.
pub past_limit : (room : ℕ) (bytes rest : List ℕ) (fails fails' : Bool) → room < length bytes
    → answers_within room (bytes ++ rest) fails ≡ answers_within room bytes fails'
past_limit room bytes rest fails fails' lt =
    let front = front_among (breaks room) bytes
    (too_many (length bytes) room (list_all (λ part. nat_le (length part) 1024) (parts bytes)) lt)
    in
    same_answers room (bytes ++ rest) fails
    ∙ ap (answers_by room (bytes ++ rest) fails) (front.1 rest)
    ∙ sym (ap (answers_by room bytes fails')
    (subst (λ (b : List ℕ). shortest_front (breaks room) b ≡ Some front.0) (append-nil bytes)
    (front.1 [])))
    ∙ sym (same_answers room bytes fails')

-- What a file ends with where a limit is broken, or a read failed.
abbrev pub IsFaultAtEnd : Option FileKind → Type 0
IsFaultAtEnd None = ⊥
IsFaultAtEnd (Some kind) = ⊤

broken_by : (room : ℕ) (bytes : List ℕ) (o : Option (List ℕ))
    → IsFaultAtEnd (answers_by room bytes true o).last
broken_by room bytes None = tt
broken_by room bytes (Some front) = tt

-- Where a read failed, the answers end with a fault.
pub failed_at_end : (room : ℕ) (bytes : List ℕ) → IsFaultAtEnd (answers_within room bytes true).last
failed_at_end room bytes =
    subst (λ (a : FileAnswers). IsFaultAtEnd a.last) (sym (same_answers room bytes true))
    (broken_by room bytes (shortest_front (breaks room) bytes))

-- Where a limit is broken, too.
pub past_at_end : (room : ℕ) (bytes : List ℕ) (fails : Bool) → room < length bytes
    → IsFaultAtEnd (answers_within room bytes fails).last
past_at_end room bytes fails lt =
    subst (λ (a : FileAnswers). IsFaultAtEnd a.last)
    (sym (past_limit room bytes [] true true lt) ∙ past_limit room bytes [] true fails lt)
    (failed_at_end room bytes)

-- It is no failed read.
abbrev pub IsNoRead : Option FileKind → Type 0
IsNoRead None = ⊤
IsNoRead (Some Read) = ⊥
IsNoRead (Some kind) = ⊤

no_read_by : (b : Bool) → IsNoRead (Some (cond b FileTooLong LineTooLong))
no_read_by true = tt
no_read_by false = tt

unread_by : (room : ℕ) (bytes : List ℕ) (o : Option (List ℕ))
    → IsNoRead (answers_by room bytes false o).last
unread_by room bytes None = tt
unread_by room bytes (Some front) = no_read_by _

-- Where no read failed, none is answered.
pub no_read_at_end : (room : ℕ) (bytes : List ℕ) → IsNoRead (answers_within room bytes false).last
no_read_at_end room bytes =
    subst (λ (a : FileAnswers). IsNoRead a.last) (sym (same_answers room bytes false))
    (unread_by room bytes (shortest_front (breaks room) bytes))
