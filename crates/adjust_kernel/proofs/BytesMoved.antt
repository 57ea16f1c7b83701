-- Eight or sixteen bytes as one number, of which the first byte is the lowest.
use Rattle.std.proofs.Common.{◌≡◌, ℕ, zero, suc, ◌+◌, ◌-◌, ◌*◌, ◌/◌, ◌%◌, ◌^◌, ◌<◌, ◌≤◌, List, []}
use Rattle.std.proofs.Common.{◌∷◌}
use Rattle.std.proofs.Common.{◌++◌, length, drop, replicate, refl, sym, ap, ◌∙◌, subst, arith}
use Rattle.std.specs.List.{AllByRecursion, slice_index}
use Rattle.std.specs.Int.{from_le_bytes, w64, w128}
use Rattle.std.proofs.Math.Nat.{div-one, zero-div, div-div-eq-div-mul}
use Rattle.std.proofs.lemmas.Nat.{div-mul-add, mod-mul-add, pow-add}
use Rattle.std.proofs.lemmas.List.{length-drop}
use lib.Lanes.{number_l, digits_l}
use Rattle.adjust_kernel.specs.Names.{padded}

-- Each of these numbers is a byte.
abbrev pub AreBytes : List ℕ → Type 0
AreBytes bytes = AllByRecursion (λ b. b < 256) bytes

-- The number of some bytes.
abbrev number : List ℕ → ℕ
number [] = 0
number (b ∷ bytes) = number bytes * 256 + b

-- The number of the bytes from a place on: the byte there, and the number of those after it.
from_place : (k : ℕ) (bytes : List ℕ) → k < length bytes
    → number (drop k bytes) ≡ slice_index bytes k + number (drop (suc k) bytes) * 256
from_place k [] inside = absurd (omega (arith, inside))
from_place zero (b ∷ bytes) inside = omega arith
from_place (suc k) (b ∷ bytes) inside = from_place k bytes (omega (arith, inside))

-- No byte stands from the end on.
from_end : (bytes : List ℕ) → number (drop (length bytes) bytes) ≡ 0
from_end [] = refl
from_end (b ∷ bytes) = from_end bytes

module _ (bytes : List ℕ) (count : ℕ) (e : length bytes ≡ count) where
  -- Past so many bytes none stands, and before that one at each place.
  none_past : number (drop count bytes) ≡ 0
  none_past = subst (λ (n : ℕ). number (drop n bytes) ≡ 0) e (from_end bytes)

  byte_at : (k : ℕ) → k < count → number (drop k bytes)
      ≡ slice_index bytes k + number (drop (suc k) bytes) * 256
  byte_at k inside = from_place k bytes (omega (arith, e, inside))

-- Eight bytes that are read as one number give their number.
eight_read : (bytes : List ℕ) → length bytes ≡ 8 → from_le_bytes w64 bytes ≡ number bytes
eight_read bytes e =
    let here = byte_at bytes 8 e in
    omega (
      arith,
      none_past bytes 8 e,
      here 0 (omega arith),
      here 1 (omega arith),
      here 2 (omega arith),
      here 3 (omega arith),
      here 4 (omega arith),
      here 5 (omega arith),
      here 6 (omega arith),
      here 7 (omega arith),
    )

-- Sixteen bytes that are read as one number give their number.
sixteen_read : (bytes : List ℕ) → length bytes ≡ 16 → from_le_bytes w128 bytes ≡ number bytes
sixteen_read bytes e =
    let here = byte_at bytes 16 e in
    omega (
      arith,
      none_past bytes 16 e,
      here 0 (omega arith),
      here 1 (omega arith),
      here 2 (omega arith),
      here 3 (omega arith),
      here 4 (omega arith),
      here 5 (omega arith),
      here 6 (omega arith),
      here 7 (omega arith),
      here 8 (omega arith),
      here 9 (omega arith),
      here 10 (omega arith),
      here 11 (omega arith),
      here 12 (omega arith),
      here 13 (omega arith),
      here 14 (omega arith),
      here 15 (omega arith),
    )

spelled_zero : (k : ℕ) → digits_l 256 k 0 ≡ replicate k 0
spelled_zero zero = refl
spelled_zero (suc k) = ap (λ (bytes : List ℕ). 0 ∷ bytes) (spelled_zero k)

-- A number has the bytes that it is of, and then zeros.
spelled_number : (k : ℕ) (bytes : List ℕ) → AreBytes bytes → length bytes ≤ k
    → digits_l 256 k (number bytes) ≡ bytes ++ replicate (k - length bytes) 0
spelled_number k [] small le =
    let none : k ≡ k - 0 = omega arith in
    spelled_zero k ∙ ap (λ (n : ℕ). replicate n 0) none
spelled_number zero (b ∷ bytes) small le = absurd (omega (arith, le))
spelled_number (suc k) (b ∷ bytes) small le =
    ap (λ (x : ℕ). x ∷ digits_l 256 k ((number bytes * 256 + b) / 256))
    (mod-mul-add (number bytes) 256 b small.0)
    ∙ ap (λ (n : ℕ). b ∷ digits_l 256 k n) (div-mul-add (number bytes) 256 b small.0)
    ∙ ap (λ (xs : List ℕ). b ∷ xs) (spelled_number k bytes small.1 (omega (arith, le)))
    ∙ ap (λ (n : ℕ). b ∷ (bytes ++ replicate n 0)) rest
  where
    rest : k - length bytes ≡ suc k - length (b ∷ bytes)
    rest = omega arith

-- The number without its lowest bytes is that of the bytes after them.
shifted : (from : ℕ) (bytes : List ℕ) → AreBytes bytes
    → number bytes / 2 ^ (8 * from) ≡ number (drop from bytes)
shifted zero bytes small = div-one (number bytes)
shifted (suc from) [] small = zero-div (2 ^ (8 * suc from))
shifted (suc from) (b ∷ bytes) small =
    let q = 2 ^ (8 * from) in
    let e : 8 * suc from ≡ 8 + 8 * from = omega arith in
    ap (λ (k : ℕ). (number bytes * 256 + b) / 2 ^ k) e
    ∙ ap (λ (p : ℕ). (number bytes * 256 + b) / p) (pow-add 2 8 (8 * from))
    ∙ sym (div-div-eq-div-mul (number bytes * 256 + b) 256 q)
    ∙ ap (λ (n : ℕ). n / q) (div-mul-add (number bytes) 256 b small.0)
    ∙ shifted from bytes small.1

drop_bytes : (from : ℕ) (bytes : List ℕ) → AreBytes bytes → AreBytes (drop from bytes)
drop_bytes zero bytes small = small
drop_bytes (suc from) [] small = tt
drop_bytes (suc from) (b ∷ bytes) small = drop_bytes from bytes small.1

-- Bytes that are moved down as one number lose those before the place, and zeros follow.
moved : (bytes : List ℕ) (from last : ℕ) → length bytes ≤ 16 → AreBytes bytes
    → last ≡ number bytes / 2 ^ (8 * from) → digits_l 256 16 last ≡ padded (drop from bytes)
moved bytes from last short small is =
    ap (digits_l 256 16) (is ∙ shifted from bytes small)
    ∙ spelled_number 16 (drop from bytes) (drop_bytes from bytes small)
    (omega (arith, short, length-drop from bytes))

-- Eight bytes are moved down as a number of 64 bits.
pub eight_moved : (bytes : List ℕ) (from last : ℕ) → length bytes ≡ 8 → AreBytes bytes
    → last ≡ from_le_bytes w64 bytes / 2 ^ (8 * from)
    → digits_l 256 16 (number_l 18446744073709551616 (last ∷ 0 ∷ [])) ≡ padded (drop from bytes)
eight_moved bytes from last e small is =
    let alone : number_l 18446744073709551616 (last ∷ 0 ∷ []) ≡ last = omega arith in
    ap (digits_l 256 16) alone
    ∙ moved bytes from last (omega (arith, e)) small
    (is ∙ ap (λ (n : ℕ). n / 2 ^ (8 * from)) (eight_read bytes e))

-- Sixteen bytes are moved down as a number of 128 bits, which is then of two halves.
pub sixteen_moved : (bytes : List ℕ) (from last low high : ℕ) → length bytes ≡ 16 → AreBytes bytes
    → last ≡ from_le_bytes w128 bytes / 2 ^ (8 * from)
    → low ≡ last % 18446744073709551616 → high ≡ last / 18446744073709551616
    → digits_l 256 16 (number_l 18446744073709551616 (low ∷ high ∷ [])) ≡ padded (drop from bytes)
sixteen_moved bytes from last low high e small is lower upper =
    let halves : number_l 18446744073709551616 (low ∷ high ∷ []) ≡ last =
    omega (arith, lower, upper) in
    ap (digits_l 256 16) halves
    ∙ moved bytes from last (omega (arith, e)) small
    (is ∙ ap (λ (n : ℕ). n / 2 ^ (8 * from)) (sixteen_read bytes e))
