-- Texts that state changes of a kind, and the first that states none.
use Rattle.std.proofs.Common.{◌≡◌, ℕ, suc, ◌+◌, ◌<◌, List, [], ◌∷◌, ◌++◌, length, map, take, drop}
use Rattle.std.proofs.Common.{get_or, sym, ap, subst, ◌∙◌, drop-cons}
use Rattle.std.proofs.lemmas.List.{map-append, map_more, take-append-drop}
use Rattle.std.specs.Borrow.{Bor}
use Rattle.changed_lines.specs.declared.change.Change.{Change}
use Rattle.changed_lines.specs.declared.stated.EditKind.{EditKind}
use Rattle.changed_lines.specs.declared.stated.Unstated.{Unstated}
use Rattle.changed_lines.specs.declared.stated.Unstated.TheVariants as unstated
use Rattle.changed_lines.specs.Stated.{AddsOfKind, AreUnsaid, IsFirstUnsaid, IsUnsaid}
use Rattle.changed_lines.specs.Stated.{SayEach, SaysOfKind}

-- One text more says one change more.
zip_more : (k : EditKind) (texts : List (List ℕ)) (cs : List Change) (text : List ℕ) (c : Change)
    → SayEach k texts cs → SaysOfKind k text c → SayEach k (texts ++ text ∷ []) (cs ++ c ∷ [])
zip_more k [] [] text c all one = (one, tt)
zip_more k [] (d ∷ cs) text c all one = absurd all
zip_more k (t ∷ texts) [] text c all one = absurd all
zip_more k (t ∷ texts) (d ∷ cs) text c all one = (all.0, zip_more k texts cs text c all.1 one)

pub more_texts : (k : EditKind) (texts : List (Bor (List ℕ))) (i : ℕ) (d : Bor (List ℕ))
    (cs new : List Change) → i < length texts
    → SayEach k (map (λ text. text.now) (take i texts)) cs
    → AddsOfKind k cs (get_or texts i d).now new
    → SayEach k (map (λ text. text.now) (take (i + 1) texts)) new
more_texts k texts i d cs new inside say adds =
    subst (λ (ts : List (List ℕ)). SayEach k ts new)
    (sym (map_more (λ (text : Bor (List ℕ)). text.now) texts i d inside))
    (subst (λ (l : List Change). SayEach k (map (λ (text : Bor (List ℕ)). text.now) (take i texts)
    ++ (get_or texts i d).now ∷ []) l) (sym adds.added)
    (zip_more k (map (λ (text : Bor (List ℕ)). text.now) (take i texts)) cs (get_or texts i d).now
    adds.change say adds.says))

-- Or it is the first that says none, or memory ran out.
pub wrong_of_texts : (k : EditKind) (texts : List (Bor (List ℕ))) (i : ℕ) (d : Bor (List ℕ))
    (cs : List Change) (why : Unstated) → i < length texts
    → SayEach k (map (λ text. text.now) (take i texts)) cs → IsUnsaid k (get_or texts i d).now why
    → AreUnsaid k (map (λ text. text.now) texts) why
wrong_of_texts k texts i d cs unstated.Memory inside say wrong = tt
wrong_of_texts k texts i d cs (unstated.Wrong told) inside say wrong =
    let now : Bor (List ℕ) → List ℕ = λ text. text.now in
    let parts : texts ≡ take i texts ++ get_or texts i d ∷ drop (suc i) texts =
    sym (take-append-drop i texts)
    ∙ ap (λ l. take i texts ++ l) (drop-cons texts i d inside) in
    let whole : map now texts
    ≡ map now (take i texts) ++ now (get_or texts i d) ∷ map now (drop (suc i) texts) =
    ap (map now) parts
    ∙ map-append now (take i texts) (get_or texts i d ∷ drop (suc i) texts) in
    subst (λ (t : List ℕ). IsFirstUnsaid k (map now texts) t) (sym wrong.0) (record {
      before = map now (take i texts);
      after = map now (drop (suc i) texts);
      cs = cs;
      whole = whole;
      right = say;
      wrong = wrong.1;
    })

-- Among those that say changes, none says none.
none_wrong : (k : EditKind) (before after : List (List ℕ)) (text : List ℕ) (cs : List Change)
    → ((c : Change) → ¬ SaysOfKind k text c) → ¬ SayEach k (before ++ text ∷ after) cs
none_wrong k [] after text [] wrong all = all
none_wrong k [] after text (c ∷ cs) wrong all = wrong c all.0
none_wrong k (t ∷ before) after text [] wrong all = all
none_wrong k (t ∷ before) after text (c ∷ cs) wrong all =
    none_wrong k before after text cs wrong all.1

-- Where a text says none, the texts don't state changes.
pub no_changes : (k : EditKind) (texts : List (List ℕ)) (text : List ℕ)
    → IsFirstUnsaid k texts text → (cs : List Change) → ¬ SayEach k texts cs
no_changes k texts text first cs all =
    none_wrong k first.before first.after text cs first.wrong
    (subst (λ (ts : List (List ℕ)). SayEach k ts cs) first.whole all)
