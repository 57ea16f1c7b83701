-- The place of the first byte that ends a line.
use Rattle.std.proofs.Common.{◌≡◌, ℕ, ◌<◌, ◌≤◌, List, length, get_or, not, Option, Some, None, sym}
use Rattle.std.proofs.Common.{ap, ◌∙◌, arith}
use Rattle.std.specs.Prelude.{cond}
use Rattle.std.specs.List.{position, position_or_len}
use Rattle.std.proofs.lemmas.Bool.{lt-ltb, le-ltb, false_from_ne_true}
use Rattle.std.proofs.lemmas.List.Sums.{prefix_len_is}
use Rattle.memchr.specs.Find.{IsFirstByte, is_byte2}
use Rattle.gsi_file.specs.Parts.{is_line_end}

abbrev place : List ℕ → ℕ
place bytes = position_or_len is_line_end bytes

found : (bytes : List ℕ) → place bytes < length bytes → position is_line_end bytes
    ≡ Some (place bytes)
found bytes lt = ap (λ b. cond b (Some (place bytes)) None) (lt-ltb (place bytes) (length bytes) lt)

missed : (bytes : List ℕ) → length bytes ≤ place bytes → position is_line_end bytes ≡ None
missed bytes le = ap (λ b. cond b (Some (place bytes)) None)
    (le-ltb (place bytes) (length bytes) le)

-- The first byte of two is the first that ends a line.
pub is_position : (bytes : List ℕ) (r : Option ℕ) → IsFirstByte (is_byte2 10 13) bytes r
    → r ≡ position is_line_end bytes
is_position bytes None none = sym (missed bytes (omega (
  arith,
  prefix_len_is
      (λ b. not (is_line_end b)) bytes (length bytes) 0 (omega arith)
      (λ k lt. ap not (false_from_ne_true (is_line_end (get_or bytes k 0))
      (none k (omega arith) lt))) (λ lt. absurd (omega (arith, lt))),
)))
is_position bytes (Some k) found_at =
    let first : place bytes ≡ k = prefix_len_is (λ b. not (is_line_end b)) bytes k 0
    (let lt = found_at.0.high in omega (arith, lt))
    (λ j lt. ap not (false_from_ne_true (is_line_end (get_or bytes j 0))
    (found_at.0.before j (omega arith) lt))) (λ lt. ap not found_at.1) in
    let inside : place bytes < length bytes =
    (let lt = found_at.0.high in omega (arith, first, lt)) in
    ap Some (sym first) ∙ sym (found bytes inside)
