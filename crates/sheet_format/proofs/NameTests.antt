-- The test of a name, and what it says.
use Rattle.std.proofs.Common.{◌≡◌, ℕ, Bool, true, List, [], ◌∷◌, All, Option, None, Some, IfSome}
use Rattle.std.proofs.Common.{OnSome, refl, subst, arith}
use Rattle.std.specs.Int.{is_in_range}
use Rattle.std.specs.List.{list_all}
use Rattle.std.proofs.lemmas.Bool.{and_from, and_parts, leb-true, le-leb}
use Rattle.std.proofs.lemmas.Bool.Decides.{nat_tests}
use Rattle.std.proofs.lemmas.List.Elements.{All-cons, All-head, All-nil, All-tail}
use Rattle.adjust_kernel.specs.Names.{IsName, IsPrintable}
use Rattle.adjust_kernel.specs.declared.name.TheConstants.{FIRST_PRINTABLE, LAST_PRINTABLE}
use Rattle.sheet_format.specs.Faults.{is_name}

abbrev is_printable : ℕ → Bool
is_printable b = is_in_range FIRST_PRINTABLE LAST_PRINTABLE b

printable-found : (b : ℕ) → is_printable b ≡ true → IsPrintable b
printable-found b e = grind (arith, nat_tests)

printable-test : (b : ℕ) → IsPrintable b → is_printable b ≡ true
printable-test b h = grind (arith, nat_tests)

all-found : (bs : List ℕ) → list_all is_printable bs ≡ true → All IsPrintable bs
all-found [] e = All-nil IsPrintable
all-found (b ∷ bs) e =
    let p = and_parts _ _ e in
    All-cons IsPrintable b bs (printable-found b p.0) (all-found bs p.1)

all-test : (bs : List ℕ) → All IsPrintable bs → list_all is_printable bs ≡ true
all-test [] h = refl
all-test (b ∷ bs) h = and_from _ _ (printable-test b (All-head IsPrintable b bs h))
    (all-test bs (All-tail IsPrintable b bs h))

-- Bytes that pass the test are a name.
pub name-found : (bs : List ℕ) → is_name bs ≡ true → IsName bs
name-found bs e =
    let (size, bytes) = and_parts _ _ e in
    let (some, short) = and_parts _ _ size in
    record { some = leb-true _ _ some; short = leb-true _ _ short; printable = all-found bs bytes }

-- A name passes the test.
pub name-test : (bs : List ℕ) → IsName bs → is_name bs ≡ true
name-test bs h = and_from _ _ (and_from _ _ (le-leb _ _ h.some) (le-leb _ _ h.short))
    (all-test bs h.printable)

-- A name that was made of bytes says that they pass the test.
pub test-of-some : (bs : List ℕ) (name : Option (List ℕ)) → IfSome name (λ n. n ≡ bs)
    → IfSome name IsName → OnSome name (is_name bs ≡ true)
test-of-some bs None e h = tt
test-of-some bs (Some n) e h = name-test bs (subst IsName e h)
