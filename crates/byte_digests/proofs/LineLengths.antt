-- How long a line is.
use Rattle.std.proofs.Common.{◌≡◌, ◌+◌, ◌*◌, ◌<◌, ◌≤◌, ℕ, List, [], ◌∷◌, ◌++◌, length}
use Rattle.std.proofs.Common.{Bool, true, false, flat_map, arith}
use Rattle.std.proofs.Common.{length-append, cond, ap}
use Rattle.std.specs.Prelude.{◌==◌}
use Rattle.byte_digests.specs.declared.digest_line.TheConstants.{LINE_FEED}
use Rattle.std.specs.List.{list_any}
use Rattle.byte_digests.specs.DigestLines.{escaped, is_escaped, mark_of, digits_of, digest_line}

escaped_short : (x : ℕ) → length (escaped x) ≤ 2
escaped_short x = by (x == 92) (x == 10) (x == 13)
  where
    by : (a b c : Bool) → length (cond a (92 ∷ 92 ∷ []) (cond b (92 ∷ 110 ∷ [])
        (cond c (92 ∷ 114 ∷ []) (x ∷ [])))) ≤ 2
    by true b c = omega arith
    by false true c = omega arith
    by false false true = omega arith
    by false false false = omega arith

-- An escaped name has at most twice the bytes of the name.
pub name_short : (name : List ℕ) → length (flat_map escaped name) ≤ 2 * length name
name_short [] = omega arith
name_short (x ∷ xs) =
    let longer : length (escaped x ++ flat_map escaped xs)
    ≡ length (escaped x) + length (flat_map escaped xs) =
    length-append (escaped x) (flat_map escaped xs) in
    omega (arith, escaped_short x, name_short xs, longer)

pub mark_short : (name : List ℕ) → length (mark_of name) ≤ 1
mark_short name = by (list_any is_escaped name)
  where
    by : (b : Bool) → length {A = ℕ} (cond b (92 ∷ []) []) ≤ 1
    by true = omega arith
    by false = omega arith

-- A line with 66 bytes before its name, and at most one after it.
pub beside_name : (name digits : List ℕ) (at mid after room : ℕ) → at ≡ length (mark_of name)
    → mid ≡ at + length digits → length digits ≡ 66
    → after ≤ length (flat_map escaped name) + 1 → room < mid + after
    → room < 68 + 2 * length name
beside_name name digits at mid after room e f l le h =
    omega (arith, e, f, l, le, h, mark_short name, name_short name)

-- How long a line is, by its parts.
pub line_length : (digest name digits : List ℕ) → digits ≡ digits_of digest
    → length (digest_line digest name)
    ≡ length (mark_of name) + length digits + length (flat_map escaped name) + 1
line_length digest name digits h =
    let after = flat_map escaped name ++ LINE_FEED ∷ [] in
    omega (
      arith,
      ap (λ (d : List ℕ). length d) h,
      length-append (mark_of name) (digits_of digest ++ after),
      length-append (digits_of digest) after,
      length-append (flat_map escaped name) (LINE_FEED ∷ []),
    )
