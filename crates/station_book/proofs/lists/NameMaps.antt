-- What a map has by name after a new name, and whether it has a name.
use Rattle.std.proofs.Common.{◌≡◌, ℕ, Bool, true, false, cond, eqb, ◌&&◌, ◌||◌, List, [], ◌∷◌, ◌++◌}
use Rattle.std.proofs.Common.{length, take, is_some, refl, sym, ap, ◌∙◌, inl, inr}
use Rattle.std.specs.List.{list_any}
use Rattle.std.specs.Map.{lookup}
use Rattle.std.specs.Str.{bytes_eq}
use Rattle.std.proofs.lemmas.Bool.{and_parts, and_from, eqb-true, eq-eqb, or_parts, cases_Bool}
use Rattle.std.proofs.Math.Seq.{take-append_seam}
use Rattle.std.proofs.lemmas.Slice.Eq.{bytes_eq-Decides}
use Rattle.indexmap.specs.IndexMap.{insert_entry}
use Rattle.adjust_kernel.specs.Names.{padded}
use Rattle.station_book.proofs.lists.Elements.{same_test}

-- `==` of two names, as its derive says it of their cells
abbrev pub name_eq : List ℕ → List ℕ → Bool
name_eq a b = bytes_eq (padded a) (padded b) && eqb (length a) (length b)

-- Names that are `==` are one name.
pub name_eq-same : (a b : List ℕ) → name_eq a b ≡ true → a ≡ b
name_eq-same a b e =
    let (cells, lengths) = and_parts (bytes_eq (padded a) (padded b))
    (eqb (length a) (length b)) e in
    let whole : padded a ≡ padded b = (bytes_eq-Decides (padded a) (padded b)).0 cells in
    let n : length a ≡ length b = eqb-true (length a) (length b) lengths in
    sym (take-append_seam a _) ∙ ap (take (length a)) whole ∙ ap (λ (k : ℕ). take k (padded b)) n
    ∙ take-append_seam b _

-- One name is `==` to itself.
pub same-name_eq : (a b : List ℕ) → a ≡ b → name_eq a b ≡ true
same-name_eq a b e = and_from (bytes_eq (padded a) (padded b)) (eqb (length a) (length b))
    ((bytes_eq-Decides (padded a) (padded b)).1 (ap padded e))
    (eq-eqb (length a) (length b) (ap length e))

-- two names are `==` exactly where their bytes are
pub names_by_bytes : (a b : List ℕ) → name_eq a b ≡ bytes_eq a b
names_by_bytes a b = same_test (name_eq a b) (bytes_eq a b)
    (λ t. (bytes_eq-Decides a b).1 (name_eq-same a b t))
    (λ t. same-name_eq a b ((bytes_eq-Decides a b).0 t))

known_by_bytes : {V : Type 0} (name : List ℕ) (es : List (List ℕ × V))
    → list_any (λ e. name_eq name e.0) es ≡ list_any (λ e. bytes_eq name e.0) es
known_by_bytes name [] = refl
known_by_bytes name (e ∷ es) = λ i. names_by_bytes name e.0 i || known_by_bytes name es i

insert-new : {K V : Type 0} (eq : K → K → Bool) (es : List (K × V)) (k : K) (v : V)
    → list_any (λ e. eq k e.0) es ≡ false → insert_entry eq es k v ≡ es ++ (k, v) ∷ []
insert-new eq [] k v h = refl
insert-new eq (e ∷ es) k v h =
    let (here, later) = or_parts (eq k e.0) (list_any (λ e. eq k e.0) es) h in
    ap (λ b. cond b ((e.0, v) ∷ es) (e ∷ insert_entry eq es k v)) here
    ∙ ap (λ r. e ∷ r) (insert-new eq es k v later)

-- the entries of a map after a name that it has not
pub inserted : {V : Type 0} (es : List (List ℕ × V)) (name : List ℕ) (s : V)
    → list_any (λ e. bytes_eq name e.0) es ≡ false
    → insert_entry name_eq es name s ≡ es ++ (name, s) ∷ []
inserted es name s out = insert-new name_eq es name s (known_by_bytes name es ∙ out)

found_any : {V : Type 0} (k : List ℕ) (es : List (List ℕ × V))
    → is_some (lookup (name_eq k) es) ≡ list_any (λ e. name_eq k e.0) es
found_any k [] = refl
found_any k (e ∷ es) = elim (cases_Bool (name_eq k e.0)) [
  | inl t ↦ rw t
  | inr f ↦ rw f (found_any k es)
]

-- whether the map has the key
pub found_known : {V : Type 0} (k : List ℕ) (es : List (List ℕ × V))
    → is_some (lookup (name_eq k) es) ≡ list_any (λ e. bytes_eq k e.0) es
found_known k es = found_any k es ∙ known_by_bytes k es
