-- The rows at the end of a table that are so, as they are gone through from the last.
use Rattle.std.proofs.Common.{◌≡◌, ◌∙◌, ℕ, ◌+◌, ◌-◌, ◌<◌, ◌≤◌, Bool, true, false, List, length}
use Rattle.std.proofs.Common.{get_or, map, take, ap, sym, arith}
use Rattle.std.specs.List.{suffix_len}
use Rattle.std.proofs.lemmas.List.{get_or-map, length-map}
use Rattle.std.proofs.lemmas.List.Sums.{suffix_len-take_no, suffix_len-take_yes}
use Rattle.csv.specs.Records.{fields_of}
use Rattle.csv.specs.declared.record.ByteRecord.{ByteRecord}

module _ (so : List (List ℕ) → Bool) (rows : List ByteRecord) (row : ByteRecord) (end : ℕ)
    (some : 0 < end) (inside : end ≤ length rows) (is : row ≡ get_or rows (end - 1) row) where
  last : get_or (map fields_of rows) (end - 1) (fields_of row) ≡ fields_of row
  last = get_or-map fields_of rows (end - 1) row (fields_of row) (omega (arith, some, inside))
      ∙ ap fields_of (sym is)

  long : end ≤ length (map fields_of rows)
  long = omega (arith, inside, length-map rows fields_of)

  pub last-other : so (fields_of row) ≡ false
      → suffix_len so (take end (map fields_of rows)) ≡ 0
  last-other e = suffix_len-take_no so (map fields_of rows) end (fields_of row) some long
      (ap so last ∙ e)

  pub last-so : so (fields_of row) ≡ true
      → suffix_len so (take end (map fields_of rows))
      ≡ 1 + suffix_len so (take (end - 1) (map fields_of rows))
  last-so e = suffix_len-take_yes so (map fields_of rows) end (fields_of row) some long
      (ap so last ∙ e)
