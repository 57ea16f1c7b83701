-- The first byte that breaks a limit, and the first bytes up to it.
use Rattle.std.proofs.Common.{◌≡◌, ℕ, zero, suc, ◌-◌, ◌<◌, ◌≤◌, Bool, true, false, cond, not, List}
use Rattle.std.proofs.Common.{[], ◌∷◌, length, take, Option, None, Some, refl, sym, ap, ◌∙◌, arith}
use Rattle.std.proofs.Common.{length-take, take-take}
use Rattle.std.specs.Prelude.{if◌then◌else◌, nat_lt}
use Rattle.std.specs.Option.{option_map}
use Rattle.gsi_file.specs.declared.file_fault.FileKind.TheVariants.{FileTooLong, LineTooLong}
use Rattle.gsi_file.specs.Parts.{front_of, ended_lines}
use Rattle.gsi_file.specs.FileAnswers as spec
use Rattle.gsi_file.specs.FileAnswers.{FileAnswers, IsFirstBreak, is_within, least, first_break}
use Rattle.gsi_file.specs.FileAnswers.{answers_before, answers_of_all, answers_within}
use Rattle.gsi_file.proofs.Fronts.{shortest_front}

-- Whether a limit is broken.
abbrev pub breaks : ℕ → List ℕ → Bool
breaks room f = not (is_within room f)

-- The answers, by the first bytes that break a limit.
abbrev pub answers_by : ℕ → List ℕ → Bool → Option (List ℕ) → FileAnswers
answers_by room bytes fails (Some front) = record {
  lines = ended_lines (front_of front);
  last = Some (if nat_lt room (length front) then FileTooLong else LineTooLong);
}
answers_by room bytes fails None = answers_of_all bytes fails

none_here : (b : Bool) → cond b (Some []) None
    ≡ option_map (λ n. take {A = ℕ} n []) (cond b (Some 0) None)
none_here true = refl
none_here false = refl

one_more : (x : ℕ) (xs : List ℕ) (b : Bool) (o : Option ℕ)
    → cond b (Some []) (option_map (λ f. x ∷ f) (option_map (λ n. take n xs) o))
    ≡ option_map (λ n. take n (x ∷ xs)) (cond b (Some 0) (option_map (λ n. suc n) o))
one_more x xs true o = refl
one_more x xs false None = refl
one_more x xs false (Some n) = refl

-- The shortest first bytes are the least number of them.
least_front : (p : List ℕ → Bool) (xs : List ℕ)
    → shortest_front p xs ≡ option_map (λ n. take n xs) (least (λ n. p (take n xs)) (length xs))
least_front p [] = none_here (p [])
least_front p (x ∷ xs) =
    ap (λ o. cond (p []) (Some []) (option_map (λ f. x ∷ f) o)) (least_front (λ f. p (x ∷ f)) xs)
    ∙ one_more x xs (p []) (least (λ n. p (x ∷ take n xs)) (length xs))

-- A bound of an answer.
abbrev IsAtMost : ℕ → Option ℕ → Type 0
IsAtMost last None = Unit {0}
IsAtMost last (Some n) = n ≤ last

within_zero : (b : Bool) → IsAtMost 0 (cond b (Some 0) None)
within_zero true = omega arith
within_zero false = tt

within_suc : (last : ℕ) (b : Bool) (o : Option ℕ) → IsAtMost last o
    → IsAtMost (suc last) (cond b (Some 0) (option_map (λ n. suc n) o))
within_suc last true o h = omega arith
within_suc last false None h = tt
within_suc last false (Some n) h = omega (arith, h)

least_within : (p : ℕ → Bool) (last : ℕ) → IsAtMost last (least p last)
least_within p zero = within_zero (p 0)
least_within p (suc last) = within_suc last (p 0) (least (λ n. p (suc n)) last)
    (least_within (λ n. p (suc n)) last)

same_by : (room : ℕ) (bytes : List ℕ) (fails : Bool) (o : Option ℕ) → IsAtMost (length bytes) o
    → spec.answers_by room bytes fails o ≡ answers_by room bytes fails
    (option_map (λ n. take n bytes) o)
same_by room bytes fails None h = refl
same_by room bytes fails (Some x) h =
    let count : length (take x bytes) ≡ x = omega (arith, length-take x bytes, h) in
    let front : front_of (take x bytes) ≡ take (x - 1) bytes =
    ap (λ k. take (k - 1) (take x bytes)) count ∙ take-take (x - 1) x bytes (omega arith) in
    ap (λ (zs : List ℕ). record {
      lines = ended_lines zs;
      last = Some (if nat_lt room x then FileTooLong else LineTooLong);
    }) (sym front)
    ∙ ap (λ (k : ℕ). record {
      lines = ended_lines (front_of (take x bytes));
      last = Some (if nat_lt room k then FileTooLong else LineTooLong);
    }) (sym count)

-- The answers by the first byte that breaks a limit are those by the first bytes that do.
pub same_answers : (room : ℕ) (bytes : List ℕ) (fails : Bool)
    → answers_within room bytes fails ≡ answers_by room bytes fails
    (shortest_front (breaks room) bytes)
unfolding answers_within
same_answers room bytes fails =
    same_by room bytes fails (first_break room bytes)
    (least_within (λ n. breaks room (take n bytes)) (length bytes))
    ∙ ap (answers_by room bytes fails) (sym (least_front (breaks room) bytes))

least_is : (p : ℕ → Bool) (last x : ℕ) → x ≤ last → p x ≡ true → ((n : ℕ) → n < x → p n ≡ false)
    → least p last ≡ Some x
least_is p zero zero le here before = ap (λ b. cond b (Some 0) None) here
least_is p zero (suc x) le here before = absurd (omega arith)
least_is p (suc last) zero le here before = ap
    (λ b. cond b (Some 0) (option_map (λ n. suc n) (least (λ n. p (suc n)) last))) here
least_is p (suc last) (suc x) le here before =
    ap (λ b. cond b (Some 0) (option_map (λ n. suc n) (least (λ n. p (suc n)) last)))
    (before 0 (omega arith))
    ∙ ap (option_map (λ n. suc n)) (least_is (λ n. p (suc n)) last x (omega arith) here
    (λ n lt. before (suc n) (omega arith)))

least_none : (p : ℕ → Bool) (last : ℕ) → ((n : ℕ) → n ≤ last → p n ≡ false) → least p last ≡ None
least_none p zero none = ap (λ b. cond b (Some 0) None) (none 0 (omega arith))
least_none p (suc last) none =
    ap (λ b. cond b (Some 0) (option_map (λ n. suc n) (least (λ n. p (suc n)) last)))
    (none 0 (omega arith))
    ∙ ap (option_map (λ n. suc n)) (least_none (λ n. p (suc n)) last
    (λ n le. none (suc n) (omega arith)))

-- Where this byte is the first to break a limit, the answers are those before it.
pub broken_limit : (room : ℕ) (bytes : List ℕ) (fails : Bool) (x : ℕ) → IsFirstBreak room bytes x
    → answers_within room bytes fails ≡ answers_before room bytes x
unfolding answers_within
broken_limit room bytes fails x h =
    ap (spec.answers_by room bytes fails) (least_is (λ n. breaks room (take n bytes)) (length bytes)
    x h.inside (ap not h.breaks) (λ n lt. ap not (h.before n lt)))

-- Where no first bytes break a limit, the answers are those of all bytes.
pub no_broken_limit : (room : ℕ) (bytes : List ℕ) (fails : Bool)
    → ((n : ℕ) → n ≤ length bytes → is_within room (take n bytes) ≡ true)
    → answers_within room bytes fails ≡ answers_of_all bytes fails
unfolding answers_within
no_broken_limit room bytes fails h =
    ap (spec.answers_by room bytes fails) (least_none (λ n. breaks room (take n bytes))
    (length bytes) (λ n le. ap not (h n le)))
