-- What is left of a name after its first byte.
use Rattle.std.proofs.Common.{ℕ, ◌<◌, List, ◌∷◌, length, arith}
use Rattle.std.proofs.lemmas.List.Elements.{All-tail}
use Rattle.adjust_kernel.specs.Names.{IsName, IsPrintable}

-- It is a name, where there is any.
pub is_rest : (b : ℕ) (rest : List ℕ) → IsName (b ∷ rest) → 0 < length rest → IsName rest
is_rest b rest is some = record {
  some = some;
  short = let short = is.short in omega (arith, short);
  printable = All-tail IsPrintable b rest is.printable;
}
