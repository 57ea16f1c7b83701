-- The directions of the targets, one after the other, as far as each has one.
use Rattle.std.proofs.Common.{◌≡◌, ◌∙◌, ℕ, ◌<◌, ◌+◌, List, [], ◌∷◌, ◌++◌, length, map, take, get_or}
use Rattle.std.proofs.Common.{Option, Some, None, refl, sym, arith, ℤ, pos, inl}
use Rattle.std.proofs.lemmas.List.{get_or-map, get_or-take, length-map, length-take-le, map_push}
use Rattle.std.proofs.lemmas.List.{take_more}
use Rattle.std.proofs.lemmas.Option.{none-some}
use Rattle.direction_table.specs.Tables.{IsMissingOrMemory, IsNoneAt}
use Rattle.direction_table.specs.declared.fault.TableFault.TheVariants.{Missing}

-- Where all is stated, nothing is missing.
pub not-missing : (directions : List ℤ) (place : ℕ) → place < length (map Some directions)
    → IsNoneAt (map Some directions) place → ⊥
not-missing directions place inside none = none-some (get_or directions place (pos 0)) (sym none
    ∙ get_or-map Some directions place (pos 0) None
    (omega (arith, inside, length-map directions Some)))

-- Where the first so many places have directions, one of them is at each.
not-before : (stated : List (Option ℤ)) (items : List ℤ) (place m : ℕ) → place < length stated
    → take place stated ≡ map Some items → m < place → IsNoneAt stated m → ⊥
not-before stated items place m inside same below none =
    let early : m < length (take place stated) =
    omega (arith, below, inside, length-take-le place stated (omega (arith, inside))) in
    not-missing items m (rw same at early)
    (rw same at (get_or-take place stated m None below ∙ none))

-- Where all before a place is stated, but nothing at it, that target is the first that is missing.
pub missing : (stated : List (Option ℤ)) (items : List ℤ) (place : ℕ) → place < length stated
    → take place stated ≡ map Some items → get_or stated place None ≡ None
    → IsMissingOrMemory stated (Missing (place + 1))
missing stated items place inside same none =
    inl (
      place + 1,
      refl,
      (
        place,
        refl,
        record {
          inside = inside;
          here = none;
          before = λ m below. not-before stated items place m inside same below;
        },
      ),
    )

-- With one more target's direction, the list has what is stated of that many.
pub one_more : (stated : List (Option ℤ)) (items : List ℤ) (place : ℕ) (direction : ℤ)
    → place < length stated → take place stated ≡ map Some items
    → get_or stated place None ≡ Some direction
    → take (place + 1) stated ≡ map Some (items ++ (direction ∷ []))
one_more stated items place direction inside same here =
    rw (take_more stated place None inside, same, here, map_push Some items direction) refl

-- By these a list of stated directions is proved.
pub ruleset as_far = (missing, one_more)
