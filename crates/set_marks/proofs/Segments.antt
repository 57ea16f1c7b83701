-- Code lines before readings, in the order of the blocks before which they stand.
use Rattle.std.proofs.Common.{◌≡◌, ℕ, suc, ◌<◌, ◌≤◌, List, [], ◌∷◌, ◌++◌, map, refl, arith}
use Rattle.std.specs.Prelude.{⊤}
use Rattle.std.specs.List.{AllByRecursion}
use Rattle.std.proofs.lemmas.Bool.{ne_eqb}
use Rattle.gsi_word.specs.Blocks.{GsiBlock}
use Rattle.set_marks.specs.declared.mark.Code.{Code}
use Rattle.set_marks.specs.declared.mark.BlockMark.{BlockMark}
use Rattle.set_marks.specs.declared.sight.Sight.{Sight}
use Rattle.set_marks.specs.Marks.{code_block}
use Rattle.set_marks.specs.MarkedFile.{codes_before, with_codes}

-- the code lines before the first of these readings
abbrev pub marks_at : List Sight → List Code → List BlockMark
marks_at [] codes = []
marks_at (r ∷ rs) codes = map (λ c. record { block = r.block; wide = r.wide; code = c }) codes

-- their blocks
abbrev pub codes_at : List Sight → List Code → List GsiBlock
codes_at [] codes = []
codes_at (r ∷ rs) codes = map (λ c. code_block r.wide c) codes

-- Each code line stands before a block of this number or a later one, and no later than the next.
abbrev pub AreUp : ℕ → List BlockMark → Type 0
AreUp n [] = ⊤
AreUp n (m ∷ ms) = (n ≤ m.block) × AreUp m.block ms

-- Where they stand before later blocks, they do before these or later ones.
pub up_later : (n k : ℕ) (ms : List BlockMark) → n ≤ k → AreUp k ms → AreUp n ms
up_later n k [] le up = tt
up_later n k (m ∷ ms) le up = ((let l = up.0 in omega arith), up.1)

-- each code line stands before a block of at least this number
abbrev pub AreFrom : ℕ → List BlockMark → Type 0
AreFrom n ms = AllByRecursion (λ m. n ≤ m.block) ms

-- Code lines of later blocks are none of this block.
pub none_before : (n k : ℕ) (ms : List BlockMark) → n < k → AreFrom k ms → codes_before ms n ≡ []
none_before n k [] lt from = refl
none_before n k (m ∷ ms) lt from =
    let le = from.0 in rw (ne_eqb m.block n (λ e. absurd (omega (arith, lt, le, e))))
    (none_before n k ms lt from.1)

-- Where they are of later blocks, they are of these or later ones.
pub from_later : (n k : ℕ) (ms : List BlockMark) → n ≤ k → AreFrom k ms → AreFrom n ms
from_later n k [] le from = tt
from_later n k (m ∷ ms) le from = ((let l = from.0 in omega arith), from_later n k ms le from.1)

-- Code lines of earlier blocks put nothing before these.
pub earlier_codes : (n k : ℕ) (first ms : List BlockMark) (bs : List GsiBlock) → n < k
    → AllByRecursion (λ m. m.block ≡ n) first
    → with_codes (first ++ ms) k bs ≡ with_codes ms k bs
earlier_codes n k first ms [] lt are = refl
earlier_codes n k first ms (b ∷ bs) lt are =
    (λ i. same first are i ++ (b ∷ earlier_codes n (suc k) first ms bs (omega arith) are i)) where
      same : (ms' : List BlockMark) → AllByRecursion (λ m. m.block ≡ n) ms'
          → codes_before (ms' ++ ms) k ≡ codes_before ms k
      same [] are = refl
      same (m ∷ ms') are = let e = are.0 in
          rw (ne_eqb m.block k (λ f. absurd (omega (arith, e, f, lt)))) (same ms' are.1)
