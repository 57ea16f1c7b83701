-- Texts that state notes, and the first that states none.
use Rattle.std.proofs.Common.{◌≡◌, ℕ, suc, ◌+◌, ◌<◌, List, [], ◌∷◌, ◌++◌, length, map, take, drop}
use Rattle.std.proofs.Common.{get_or, sym, ap, subst, ◌∙◌, drop-cons}
use Rattle.std.proofs.lemmas.List.{map-append, map_more, take-append-drop}
use Rattle.std.specs.Borrow.{Bor}
use Rattle.report_notes.specs.Stated.{AddsNote, AreNoted, AreUnnoted, IsFirstUnnoted, IsUnnoted}
use Rattle.report_notes.specs.Stated.{StatesNote}
use Rattle.report_notes.specs.declared.notes.Note.{Note}
use Rattle.report_notes.specs.declared.stated.Unnoted.{Unnoted}
use Rattle.report_notes.specs.declared.stated.Unnoted.TheVariants as unnoted
use Rattle.report_phrases.specs.declared.language.Language.{Language}

-- One text more states one note more.
zip_more : (language : Language) (texts : List (List ℕ)) (ns : List Note) (text : List ℕ) (n : Note)
    → AreNoted language texts ns → StatesNote language text n
    → AreNoted language (texts ++ text ∷ []) (ns ++ n ∷ [])
zip_more language [] [] text n all one = (one, tt)
zip_more language [] (m ∷ ns) text n all one = absurd all
zip_more language (t ∷ texts) [] text n all one = absurd all
zip_more language (t ∷ texts) (m ∷ ns) text n all one =
    (all.0, zip_more language texts ns text n all.1 one)

pub more_texts : (language : Language) (texts : List (Bor (List ℕ))) (i : ℕ) (d : Bor (List ℕ))
    (ns new : List Note)
    → i < length texts → AreNoted language (map (λ text. text.now) (take i texts)) ns
    → AddsNote language ns (get_or texts i d).now new
    → AreNoted language (map (λ text. text.now) (take (i + 1) texts)) new
more_texts language texts i d ns new inside noted adds =
    subst (λ (ts : List (List ℕ)). AreNoted language ts new)
    (sym (map_more (λ (text : Bor (List ℕ)). text.now) texts i d inside))
    (subst (λ (l : List Note). AreNoted language
    (map (λ (text : Bor (List ℕ)). text.now) (take i texts)
    ++ (get_or texts i d).now ∷ []) l) (sym adds.added)
    (zip_more language (map (λ (text : Bor (List ℕ)). text.now) (take i texts)) ns
    (get_or texts i d).now
    adds.note noted adds.states))

-- Or it is the first that states none, or memory ran out.
pub wrong_of_texts : (language : Language) (texts : List (Bor (List ℕ))) (i : ℕ)
    (d : Bor (List ℕ)) (ns : List Note) (why : Unnoted) → i < length texts
    → AreNoted language (map (λ text. text.now) (take i texts)) ns
    → IsUnnoted language (get_or texts i d).now why
    → AreUnnoted language (map (λ text. text.now) texts) why
wrong_of_texts language texts i d ns unnoted.Memory inside noted wrong = tt
wrong_of_texts language texts i d ns (unnoted.Wrong told) inside noted wrong =
    let now : Bor (List ℕ) → List ℕ = λ text. text.now in
    let parts : texts ≡ take i texts ++ get_or texts i d ∷ drop (suc i) texts =
    sym (take-append-drop i texts)
    ∙ ap (λ l. take i texts ++ l) (drop-cons texts i d inside) in
    let whole : map now texts
    ≡ map now (take i texts) ++ now (get_or texts i d) ∷ map now (drop (suc i) texts) =
    ap (map now) parts
    ∙ map-append now (take i texts) (get_or texts i d ∷ drop (suc i) texts) in
    subst (λ (t : List ℕ). IsFirstUnnoted language (map now texts) t) (sym wrong.0) (record {
      before = map now (take i texts);
      after = map now (drop (suc i) texts);
      notes = ns;
      whole = whole;
      right = noted;
      wrong = wrong.1;
    })

-- Among those that state notes, none states none.
none_wrong : (language : Language) (before after : List (List ℕ)) (text : List ℕ) (ns : List Note)
    → ((n : Note) → ¬ StatesNote language text n) → ¬ AreNoted language (before ++ text ∷ after) ns
none_wrong language [] after text [] wrong all = all
none_wrong language [] after text (n ∷ ns) wrong all = wrong n all.0
none_wrong language (t ∷ before) after text [] wrong all = all
none_wrong language (t ∷ before) after text (n ∷ ns) wrong all =
    none_wrong language before after text ns wrong all.1

-- Where a text states none, the texts don't state notes.
pub no_notes : (language : Language) (texts : List (List ℕ)) (text : List ℕ)
    → IsFirstUnnoted language texts text
    → (ns : List Note) → ¬ AreNoted language texts ns
no_notes language texts text first ns all =
    none_wrong language first.before first.after text ns first.wrong
    (subst (λ (ts : List (List ℕ)). AreNoted language ts ns) first.whole all)
