-- A load of bytes, and the lanes at which one is not printable.
use Rattle.std.proofs.Common.{◌≡◌, ℕ, ◌+◌, ◌%◌, ◌^◌, ◌<◌, ◌≤◌, ◌⊎◌, inl, inr, Bool, true, false}
use Rattle.std.proofs.Common.{cond, not, List, map, length, get_or, bit_or, refl, ap, ◌∙◌, arith}
use Rattle.std.specs.Prelude.{nat_lt, ◌==◌, if◌then◌else◌}
use Rattle.std.specs.Int.{trailing_zeros, w64}
use Rattle.std.specs.List.{prefix_len}
use Rattle.std.proofs.lemmas.Bool.{true≢false, false≢true, ltb-true, ltb-false}
use Rattle.std.proofs.lemmas.List.{length-map}
use Rattle.std.proofs.lemmas.Simd.{length-chunk, map-map, mask_l-mod, first_set_mask_l}
use Rattle.std.proofs.lemmas.Simd.{run_in_chunk_le, run_in_chunk_fails, run_in_chunk_stops}
use lib.Lanes.{chunk, mask_l, top}
use Rattle.gsi_word.specs.Words.{IsLineByte}

-- The lane of a byte: its highest bit is set where one of two tests holds.
abbrev lane : Bool → Bool → ℕ
lane below above = bit_or (cond below 255 0) (cond above 255 0)

neither : (below above : Bool) → top 7 (lane below above) ≡ false → (below ≡ false)
    × (above ≡ false)
neither true true e = absurd (true≢false e)
neither true false e = absurd (true≢false e)
neither false true e = absurd (true≢false e)
neither false false e = (refl, refl)

either : (below above : Bool) → top 7 (lane below above) ≡ true → (below ≡ true) ⊎ (above ≡ true)
either true above e = inl refl
either false true e = inr refl
either false false e = absurd (false≢true e)

-- A byte whose lane is not set is printable.
pub printable_where_unset : (b : ℕ) → top 7 (lane (nat_lt b 32) (nat_lt 126 b)) ≡ false
    → IsLineByte b
printable_where_unset b e = let both = neither (nat_lt b 32) (nat_lt 126 b) e in
    (ltb-false _ _ both.0, ltb-false _ _ both.1)

-- A byte whose lane is set is not printable.
pub unprintable_where_set : (b : ℕ) → top 7 (lane (nat_lt b 32) (nat_lt 126 b)) ≡ true
    → ¬ IsLineByte b
unprintable_where_set b e p = elim (either (nat_lt b 32) (nat_lt 126 b) e) [
  | inl below ↦ let lt = ltb-true _ _ below in omega (arith, lt, p.0)
  | inr above ↦ let lt = ltb-true _ _ above in omega (arith, lt, p.1)
]

-- The lanes z of a load, computed by f from its bytes, of which the lowest that is set is sought.
module _ (bytes : List ℕ) (at : ℕ) (room : at + 16 ≤ length bytes) (run : ℕ) (z : List ℕ) (f : ℕ
    → ℕ)
    (found : run ≡ (if mask_l (map (top 7) z) % 2 ^ 64 == 0 then 16
    else trailing_zeros w64 (mask_l (map (top 7) z) % 2 ^ 64)))
    (lanes : z ≡ map f (chunk at 16 bytes)) where
  counted : run ≡ prefix_len (λ b. not (top 7 (f b))) (chunk at 16 bytes)
  counted =
      let load = chunk at 16 bytes in
      let long = length-chunk at 16 bytes room in
      let set = λ (b : ℕ). top 7 (f b) in
      let mask = ap (λ l. mask_l (map (top 7) l) % 2 ^ 64) lanes
      ∙ ap (λ l. mask_l l % 2 ^ 64) (map-map (top 7) f load)
      ∙ mask_l-mod (map set load) 64 (omega (arith, length-map load set, long)) in
      found ∙ ap (λ (m : ℕ). if m == 0 then 16 else trailing_zeros w64 m) mask
      ∙ first_set_mask_l set load 16 long (omega arith)

  -- The lanes before the first that is set are at most the 16 of the load.
  pub run_is_short : run ≤ 16
  run_is_short = run_in_chunk_le (λ b. top 7 (f b)) bytes at 16 run 0 room counted

  -- The bytes of the lanes before the first that is set are printable.
  pub run_is_printable : ((b : ℕ) → top 7 (f b) ≡ false → IsLineByte b) → (k : ℕ) → at ≤ k
      → k < at + run → IsLineByte (get_or bytes k 0)
  run_is_printable unset k from to = unset (get_or bytes k 0)
      (run_in_chunk_fails (λ b. top 7 (f b)) bytes at 16 run 0 room counted k from to)

  -- Where a lane is set, the byte of the first of them is not printable.
  pub run_ends_at_an_unprintable : ((b : ℕ) → top 7 (f b) ≡ true → ¬ IsLineByte b) → run < 16
      → ¬ IsLineByte (get_or bytes (at + run) 0)
  run_ends_at_an_unprintable set short = set (get_or bytes (at + run) 0)
      (run_in_chunk_stops (λ b. top 7 (f b)) bytes at 16 run 0 room counted short)
