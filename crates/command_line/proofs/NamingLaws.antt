-- The words of an argument, joined to a line.
use Rattle.std.proofs.Common.{◌≡◌, ℕ, List, [], ◌∷◌, ◌++◌, map, Some, codes, refl, sym, ap, subst}
use Rattle.std.proofs.Common.{◌∙◌}
use Rattle.std.specs.Prelude.{option_map}
use Rattle.std.specs.Borrow.{Bor}
use Rattle.std.specs.List.{flat_map, join_by}
use Rattle.clap.specs.Words.{matched_of, raw_values}
use Rattle.clap.specs.declared.parser.matches.Found.{Found}
use Rattle.station_explain.specs.Naming.{Names}
use Rattle.command_line.specs.CommandLine.{NamesFault}

-- Words with a text before each are the same whether they are lent or not.
lent : (between : List ℕ) (words : List (Bor (List ℕ)))
    → flat_map (λ word. between ++ word) (map (λ word. word.now) words)
    ≡ flat_map (λ word. between ++ word.now) words
lent between [] = refl
lent between (word ∷ words) = ap (λ rest. (between ++ word.now) ++ rest) (lent between words)

-- Words are joined the same whether they are lent or not.
join_lent : (between : List ℕ) (words : List (Bor (List ℕ)))
    → join_by (λ word. word) between (map (λ word. word.now) words)
    ≡ join_by (λ word. word.now) between words
join_lent between [] = refl
join_lent between (word ∷ words) = ap (λ rest. word.now ++ rest) (lent between words)

-- The line of an argument's words names what it names.
pub names_fault : (found : Found) (words : List (Bor (List ℕ))) (line name : List ℕ)
    → option_map raw_values (matched_of found (codes "FAULT")) ≡ Some (map (λ word. word.now) words)
    → line ≡ join_by (λ word. word.now) (codes " ") words → Names line name → NamesFault found name
names_fault found words line name given joined named = record {
  words = map (λ word. word.now) words;
  given = given;
  named = subst (λ text. Names text name) (joined ∙ sym (join_lent (codes " ") words)) named;
}
