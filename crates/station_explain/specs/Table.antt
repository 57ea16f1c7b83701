-- The table of explanations: what the program says of each fault.
use Rattle.std.specs.Prelude.{◌≡◌, ℕ, List, map}
use Rattle.std.specs.Borrow.{Bor}
use Rattle.station_explain.specs.declared.explanations.Said.{Said}
use Rattle.station_explain.specs.declared.explanations.TheConstants.{EXPLANATIONS}

-- What the program says of a fault.
abbrev pub Explanation : Type 0
Explanation = Said (Bor (List (Bor (List ℕ)))) (Bor (List ℕ))

-- It as texts alone, wherever they lie.
abbrev pub Texts : Type 0
Texts = Said (List (List ℕ)) (List ℕ)

-- the texts of an explanation
abbrev pub texts_of : Explanation → Texts
texts_of e = record {
  names = map (λ name. name.now) e.names.now;
  meaning = e.meaning.now;
  when = e.when.now;
  example = e.example.now;
  remedy = e.remedy.now;
}

-- the texts of all explanations, in groups, as they stand in the program
abbrev pub all_texts : List (List Texts)
all_texts = map (λ group. map (λ e. record {
  names = map (λ name. name.now) e.names.now;
  meaning = e.meaning.now;
  when = e.when.now;
  example = e.example.now;
  remedy = e.remedy.now;
}) group.now) EXPLANATIONS

-- The table has these texts.
abbrev pub IsTheTable : List (Bor (List Explanation)) → Type 0
IsTheTable table = map (λ group. map texts_of group.now) table ≡ all_texts
