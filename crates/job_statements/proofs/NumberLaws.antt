-- Texts that state numbers state no others, and none at all where one can't stand where it does.
use Rattle.std.proofs.Common.{◌≡◌, ◌≢◌, ◌∙◌, ◌∷◌, ◌++◌, ◌+◌, ◌<◌, ℕ, List, [], Option, None, Some}
use Rattle.std.proofs.Common.{◌≤◌, ap, ap₂, arith, codes, drop, drop-drop, get_or, length}
use Rattle.std.proofs.Common.{length-append, map, refl}
use Rattle.std.proofs.Common.{◌⊎◌, drop-cons, false, inl, inr, is_some, subst, suc, sym, take, true}
use Rattle.std.proofs.Common.{true≢false, zero}
use Rattle.std.proofs.Math.ListN.{get_or-append}
use Rattle.std.proofs.Math.Seq.{drop-append_seam, get_or-append_seam}
use Rattle.std.proofs.lemmas.Bool.{or_cases}
use Rattle.std.proofs.lemmas.List.{append-nil, get_or_default, map-append, map_more}
use Rattle.std.proofs.lemmas.List.{take-append-drop}
use Rattle.std.proofs.lemmas.List.Elements.{filter_map-append}
use Rattle.std.proofs.lemmas.List.Quantifiers.{all_pairs_push}
use Rattle.std.proofs.lemmas.Slice.Eq.{bytes_eq-Decides}
use Rattle.std.specs.Borrow.{Bor}
use Rattle.std.specs.List.{AllPairs, AllZip, filter_map, list_any}
use Rattle.std.specs.Prelude.{IfSome, option_map, unwrap_or, Bool, ◌||◌}
use Rattle.std.specs.Str.{bytes_eq}
use Rattle.std.specs.Str.Pattern.{LacksTextAt, RFindsText, SplitsAroundMatch}
use Rattle.std.specs.Str.Parse.{digits_value, without_leading_plus}
use Rattle.adjust_kernel.specs.Names.{IsName}
use Rattle.gsi_word.specs.Names.{name_of}
use Rattle.job_statements.specs.declared.stated.NamedNumber.{NamedNumber}
use Rattle.job_statements.specs.declared.stated.StatedNumber.{StatedNumber}
use Rattle.job_statements.specs.StatedNumbers.{HasNoEquals, HasParts, Holds, IsCutAtLast}
use Rattle.job_statements.specs.StatedNumbers.{IsStatedBy, OfStation, StateAll}
use Rattle.job_statements.specs.StatedNumbers.{StatesOne, WritesNumber, named_number, number_of_each}
use Rattle.job_statements.specs.WrongTexts.{AddsText, IsAmong, IsFaultAfter, IsFirstWrong}
use Rattle.job_statements.specs.WrongTexts.{IsUnstated, IsUnstatedAfter, IsUnwritten}
use Rattle.job_statements.specs.declared.numbers.CountFault.{CountFault}
use Rattle.job_statements.specs.declared.numbers.CountFault.TheVariants as fault
use Rattle.job_statements.specs.declared.numbers.Unstated.{Unstated}
use Rattle.job_statements.specs.declared.numbers.Unstated.TheVariants as unstated

-- A text in which no '=' is found has none.
pub no_equals : (text : List ℕ) → ((i : ℕ) → i ≤ length text → LacksTextAt (codes "=") text i)
    → HasNoEquals text
no_equals text nowhere before after e =
    nowhere (length before) (omega (arith, ap length e, length-append before (codes "=" ++ after)))
    after (ap (drop (length before)) e ∙ drop-append_seam before (codes "=" ++ after))

-- A cut round the last '=' that is found is the one at the last.
pub cut_at_last : (text before after : List ℕ)
    → SplitsAroundMatch (RFindsText (codes "=")) text before after → IsCutAtLast text before after
cut_at_last text before after s =
    let i = s.0 in
    let j = s.1 in
    let at = s.2.1 in
    let is_before = s.3 in
    let is_after = s.4 in
    let fits = s.7 in
    record {
      whole = sym (take-append-drop i text) ∙ (ap (λ x. x ++ drop i text) (sym is_before)
          ∙ ap (λ x. before ++ x) (at.split ∙ ap (λ x. codes "=" ++ x) (sym is_after)));
      last = λ earlier rest e.
          s.2.0 (j + length earlier) (omega (arith, at.ends))
          (omega (arith, fits, ap length e, length-append earlier (codes "=" ++ rest))) rest
          (sym (drop-drop (length earlier) j text) ∙ (ap (drop (length earlier)) (sym is_after ∙ e)
          ∙ drop-append_seam earlier (codes "=" ++ rest)));
    }

-- A text has one last '='.
one_cut : (a b c d : List ℕ) → a ++ (codes "=" ++ b) ≡ c ++ (codes "=" ++ d)
    → HasNoEquals b → HasNoEquals d → (a ≡ c) × (b ≡ d)
one_cut [] b [] d e none_b none_d = (refl, ap (drop 1) e)
one_cut [] b (y ∷ c) d e none_b none_d = absurd (none_b c d (ap (drop 1) e))
one_cut (x ∷ a) b [] d e none_b none_d = absurd (none_d a b (sym (ap (drop 1) e)))
one_cut (x ∷ a) b (y ∷ c) d e none_b none_d =
    let rest = one_cut a b c d (ap (drop 1) e) none_b none_d in
    (ap₂ (λ z zs. z ∷ zs) (ap (λ l. get_or l 0 0) e) rest.0, rest.1)

-- So it has its parts once.
same_parts : (text : List ℕ) (a b : Option (List ℕ)) (d f : List ℕ) → HasParts text a d
    → HasParts text b f → (a ≡ b) × (d ≡ f)
same_parts text None None d f p q = (refl, p.1 ∙ sym q.1)
same_parts text None (Some b) d f p q = absurd (p.0 b f q.whole)
same_parts text (Some a) None d f p q = absurd (q.0 a d p.whole)
same_parts text (Some a) (Some b) d f p q =
    let same = one_cut a d b f (sym p.whole ∙ q.whole) p.last q.last in (ap Some same.0, same.1)

-- A number of a station, or of each.
abbrev pub of : Option (List ℕ) → ℕ → OfStation
of station n = (station, n)

-- It states one number at most.
same_told : (largest : ℕ) (text : List ℕ) (a b : OfStation) → StatesOne largest text a
    → StatesOne largest text b → a ≡ b
same_told largest text a b s t =
    let parts = same_parts text s.before t.before s.digits t.digits s.parts t.parts in
    let station : a.0 ≡ b.0 =
    s.of_station ∙ (ap (option_map name_of) parts.0 ∙ sym t.of_station) in
    let number : a.1 ≡ b.1 =
    s.number.value
    ∙ (ap (λ digits. digits_value 10 (without_leading_plus digits)) parts.1 ∙ sym t.number.value) in
    ap₂ of station number

-- Texts state one list of numbers at most.
same_numbers : (largest : ℕ) (texts : List (List ℕ)) (a b : List OfStation)
    → AllZip (StatesOne largest) texts a → AllZip (StatesOne largest) texts b → a ≡ b
same_numbers largest [] [] [] s t = refl
same_numbers largest [] (x ∷ a) b s t = absurd s
same_numbers largest [] [] (y ∷ b) s t = absurd t
same_numbers largest (text ∷ texts) [] b s t = absurd s
same_numbers largest (text ∷ texts) (x ∷ a) [] s t = absurd t
same_numbers largest (text ∷ texts) (x ∷ a) (y ∷ b) s t =
    ap₂ (λ z zs. z ∷ zs) (same_told largest text x y s.0 t.0)
    (same_numbers largest texts a b s.1 t.1)

-- The numbers of texts, cut where the texts are.
record Cut (largest : ℕ) (before after : List (List ℕ)) (text : List ℕ) (numbers : List OfStation)
    : Type 0 where
  first : List OfStation
  here : OfStation
  rest : List OfStation
  whole : numbers ≡ first ++ here ∷ rest
  of_first : AllZip (StatesOne largest) before first
  of_here : StatesOne largest text here

cut : (largest : ℕ) (before after : List (List ℕ)) (text : List ℕ) (numbers : List OfStation)
    → AllZip (StatesOne largest) (before ++ text ∷ after) numbers
    → Cut largest before after text numbers
cut largest [] after text [] all = absurd all
cut largest [] after text (n ∷ numbers) all = record {
  first = [];
  here = n;
  rest = numbers;
  whole = refl;
  of_first = tt;
  of_here = all.0;
}
cut largest (t ∷ before) after text [] all = absurd all
cut largest (t ∷ before) after text (n ∷ numbers) all =
    let more = cut largest before after text numbers all.1 in
    record {
      first = n ∷ more.first;
      here = more.here;
      rest = more.rest;
      whole = ap (λ l. n ∷ l) more.whole;
      of_first = (all.0, more.of_first);
      of_here = more.of_here;
    }

-- Of numbers no two of which are of one station, none before one is of its station.
not_among : (numbers rest : List OfStation) (told : OfStation)
    → AllPairs (λ (one other : OfStation). one.0 ≢ other.0) (numbers ++ told ∷ rest)
    → ¬ (IsAmong told.0 numbers)
not_among numbers rest told apart among =
    let k = among.0 in
    let at : get_or (numbers ++ told ∷ rest) k among.1 ≡ among.1 =
    get_or-append numbers (told ∷ rest) among.1 k among.2 ∙ among.3 in
    let last : get_or (numbers ++ told ∷ rest) (length numbers) among.1 ≡ told =
    get_or-append_seam numbers told rest among.1 in
    apart k (length numbers) among.1 among.2
    (omega (arith, length-append numbers (told ∷ rest)))
    (ap (λ (t : OfStation). t.0) at ∙ (among.4 ∙ sym (ap (λ (t : OfStation). t.0) last)))

-- Digits that write a number up to a largest, which 32 bits hold, write none for no reason.
none_unwritten : (largest : ℕ) (digits : List ℕ) (n : ℕ) (why : CountFault)
    → largest < 4_294_967_296 → WritesNumber largest digits n → ¬ (IsUnwritten largest digits why)
none_unwritten largest digits n fault.Name held w none = none
none_unwritten largest digits n fault.Digits held w none =
    absurd (omega (arith, held, w.few, none n (w.numeral, w.value)))
none_unwritten largest digits n (fault.Range number) held w none =
    let same : n ≡ none.1 = w.value ∙ sym none.2.1 in
    none.4 (omega (arith, same, w.some), omega (arith, same, w.few))
none_unwritten largest digits n fault.EachTwice held w none = none
none_unwritten largest digits n fault.OneTwice held w none = none

-- A text that states a number of a station that the numbers before it don't have can stand there.
can_stand : (largest : ℕ) (numbers : List OfStation) (text : List ℕ) (told : OfStation)
    (why : CountFault) → largest < 4_294_967_296 → ¬ (IsAmong told.0 numbers)
    → StatesOne largest text told → ¬ (IsFaultAfter largest numbers text why)
can_stand largest numbers text told fault.Name held fresh s w =
    let same = same_parts text s.before (Some w.0) s.digits w.1 s.parts w.2 in
    w.3 (subst (λ before. IfSome before IsName) same.0 s.named)
can_stand largest numbers text told fault.Digits held fresh s w =
    let same = same_parts text s.before w.0 s.digits w.1 s.parts w.2 in
    none_unwritten largest w.1 told.1 fault.Digits held
    (subst (λ digits. WritesNumber largest digits told.1) same.1 s.number) w.3
can_stand largest numbers text told (fault.Range number) held fresh s w =
    let same = same_parts text s.before w.0 s.digits w.1 s.parts w.2 in
    none_unwritten largest w.1 told.1 (fault.Range number) held
    (subst (λ digits. WritesNumber largest digits told.1) same.1 s.number) w.3
can_stand largest numbers text told fault.EachTwice held fresh s w =
    let same = same_told largest text (of None w.0) told w.1 s in
    fresh (subst (λ (t : OfStation). IsAmong t.0 numbers) same w.2)
can_stand largest numbers text told fault.OneTwice held fresh s w =
    let same = same_told largest text (of (Some w.0) w.1) told w.2 s in
    fresh (subst (λ (t : OfStation). IsAmong t.0 numbers) same w.3)

-- A part of a text that writes no number makes it one that can't stand anywhere.
pub unwritten_fault : (largest : ℕ) (text : List ℕ) (before : Option (List ℕ)) (digits : List ℕ)
    (why : CountFault) → HasParts text before digits → IsUnwritten largest digits why
    → (numbers : List OfStation) → IsFaultAfter largest numbers text why
unwritten_fault largest text before digits fault.Name parts none = absurd none
unwritten_fault largest text before digits fault.Digits parts none =
    λ numbers. (before, digits, parts, none)
unwritten_fault largest text before digits (fault.Range number) parts none =
    λ numbers. (before, digits, parts, none)
unwritten_fault largest text before digits fault.EachTwice parts none = absurd none
unwritten_fault largest text before digits fault.OneTwice parts none = absurd none

-- Where a text is the first that can't stand where it does, the texts state no numbers.
pub no_numbers : (largest : ℕ) (texts : List (List ℕ)) (text : List ℕ) (why : CountFault)
    → largest < 4_294_967_296 → IsFirstWrong largest texts text why → (numbers : List OfStation)
    → ¬ (StateAll largest texts numbers)
no_numbers largest texts text why held wrong numbers all =
    let each =
    subst (λ t. AllZip (StatesOne largest) t numbers) wrong.whole all.each in
    let c = cut largest wrong.before wrong.after text numbers each in
    let same =
    same_numbers largest wrong.before c.first wrong.numbers c.of_first wrong.right.each in
    let apart =
    subst (AllPairs (λ (one other : OfStation). one.0 ≢ other.0)) c.whole all.apart in
    let fresh =
    subst (λ first. ¬ (IsAmong c.here.0 first)) same (not_among c.first c.rest c.here apart) in
    can_stand largest wrong.numbers text c.here why held fresh c.of_here wrong.wrong

-- One text more states one number more.
zip_more : (largest : ℕ) (texts : List (List ℕ)) (numbers : List OfStation) (text : List ℕ)
    (told : OfStation) → AllZip (StatesOne largest) texts numbers → StatesOne largest text told
    → AllZip (StatesOne largest) (texts ++ text ∷ []) (numbers ++ told ∷ [])
zip_more largest [] [] text told all one = (one, tt)
zip_more largest [] (n ∷ numbers) text told all one = absurd all
zip_more largest (t ∷ texts) [] text told all one = absurd all
zip_more largest (t ∷ texts) (n ∷ numbers) text told all one =
    (all.0, zip_more largest texts numbers text told all.1 one)

-- One number more is stated, of a station that none before is of.
one_more : (largest : ℕ) (texts : List (List ℕ)) (numbers : List OfStation) (text : List ℕ)
    (told : OfStation) → StateAll largest texts numbers → StatesOne largest text told
    → ¬ (IsAmong told.0 numbers) → StateAll largest (texts ++ text ∷ []) (numbers ++ told ∷ [])
one_more largest texts numbers text told all one fresh = record {
  each = zip_more largest texts numbers text told all.each one;
  apart = all_pairs_push (λ (one other : OfStation). one.0 ≢ other.0) numbers told all.apart
      (λ k d inside e.
      let here = get_or numbers k d in
      fresh (k, here, inside, get_or_default numbers k here d inside, e));
}

-- The number of a station stands in a list, where it stands in the rest of it.
among_tail : (station : Option (List ℕ)) (n : OfStation) (numbers : List OfStation)
    → IsAmong station numbers → IsAmong station (n ∷ numbers)
among_tail station n numbers among =
    (suc among.0, among.1, omega (arith, among.2), among.3, among.4)

-- Or where it is the first.
among_head : (station : Option (List ℕ)) (n : OfStation) (numbers : List OfStation)
    → n.0 ≡ station → IsAmong station (n ∷ numbers)
among_head station n numbers is = (zero, n, omega arith, refl, is)

-- And in no other case.
among_cases : (station : Option (List ℕ)) (n : OfStation) (numbers : List OfStation)
    → IsAmong station (n ∷ numbers) → (n.0 ≡ station) ⊎ IsAmong station numbers
among_cases station n numbers among = cases among.0 among.1 among.2 among.3 among.4
  where
    cases : (k : ℕ) (x : OfStation) → k < length (n ∷ numbers) → get_or (n ∷ numbers) k x ≡ x
        → x.0 ≡ station → (n.0 ≡ station) ⊎ IsAmong station numbers
    cases zero x inside at is = inl (ap (λ (t : OfStation). t.0) at ∙ is)
    cases (suc k) x inside at is = inr (k, x, omega (arith, inside), at, is)

-- A value is not none.
some_not_none : {A : Type 0} (x : A) → ¬ (Some x ≡ None)
some_not_none x e = true≢false (ap is_some e)

-- Where no number is of each, none of them is.
no_each : (numbers : List OfStation) → number_of_each numbers ≡ None
    → ¬ (IsAmong None numbers)
no_each [] none among = absurd (omega (arith, among.2))
no_each ((None, n) ∷ numbers) none among = some_not_none n none
no_each ((Some name, n) ∷ numbers) none among =
    elim (among_cases None (of (Some name) n) numbers among) [
      | inl first ↦ some_not_none name first
      | inr later ↦ no_each numbers none later
    ]

-- Where one is, it is among them.
has_each : (numbers : List OfStation) (m : ℕ) → number_of_each numbers ≡ Some m
    → IsAmong None numbers
has_each [] m some = absurd (some_not_none m (sym some))
has_each ((None, n) ∷ numbers) m some = among_head None (of None n) numbers refl
has_each ((Some name, n) ∷ numbers) m some =
    among_tail None (of (Some name) n) numbers (has_each numbers m some)

-- A number of each after others, none of which is of each, is that of each.
each_added : (numbers : List OfStation) (n : ℕ) → number_of_each numbers ≡ None
    → number_of_each (numbers ++ of None n ∷ []) ≡ Some n
each_added [] n none = refl
each_added ((None, m) ∷ numbers) n none = absurd (some_not_none m none)
each_added ((Some name, m) ∷ numbers) n none = each_added numbers n none

-- A number of one station changes nothing of that.
each_kept : (numbers : List OfStation) (name : List ℕ) (n : ℕ)
    → number_of_each (numbers ++ of (Some name) n ∷ []) ≡ number_of_each numbers
each_kept [] name n = refl
each_kept ((None, m) ∷ numbers) name n = refl
each_kept ((Some other, m) ∷ numbers) name n = each_kept numbers name n

-- Where one of two tests or the other holds not, the other doesn't.
right_false : (a b : Bool) → (a || b) ≡ false → b ≡ false
right_false true b e = absurd (true≢false e)
right_false false b e = e

-- Whether a number is of the station of a name.
abbrev pub is_of : List ℕ → NamedNumber → Bool
is_of name told = bytes_eq told.name name

-- Where no number of a single station is of the one of this name, none of them all is.
no_name : (name : List ℕ) (numbers : List OfStation)
    → list_any (is_of name) (filter_map named_number numbers) ≡ false
    → ¬ (IsAmong (Some name) numbers)
no_name name [] none among = absurd (omega (arith, among.2))
no_name name ((None, n) ∷ numbers) none among =
    elim (among_cases (Some name) (of None n) numbers among) [
      | inl first ↦ some_not_none name (sym first)
      | inr later ↦ no_name name numbers none later
    ]
no_name name ((Some other, n) ∷ numbers) none among =
    elim (among_cases (Some name) (of (Some other) n) numbers among) [
      | inl first ↦ true≢false
          (sym (ap (λ b. b || list_any (is_of name) (filter_map named_number numbers))
          ((bytes_eq-Decides other name).1 (ap (λ o. unwrap_or o []) first))) ∙ none)
      | inr later ↦ no_name name numbers (right_false (bytes_eq other name) _ none) later
    ]

-- Where one is, it is among them.
has_name : (name : List ℕ) (numbers : List OfStation)
    → list_any (is_of name) (filter_map named_number numbers) ≡ true
    → IsAmong (Some name) numbers
has_name name [] some = absurd (true≢false (sym some))
has_name name ((None, n) ∷ numbers) some =
    among_tail (Some name) (of None n) numbers (has_name name numbers some)
has_name name ((Some other, n) ∷ numbers) some =
    elim (or_cases (bytes_eq other name) _ some) [
      | inl same ↦ among_head (Some name) (of (Some other) n) numbers
          (ap Some ((bytes_eq-Decides other name).0 same))
      | inr later ↦ among_tail (Some name) (of (Some other) n) numbers
          (has_name name numbers later)
    ]

-- The same of what is stated.
pub has_each_of : (numbers : List OfStation) (stated : StatedNumber) (m : ℕ)
    → Holds numbers stated → stated.of_each ≡ Some m → IsAmong None numbers
has_each_of numbers stated m holds some = has_each numbers m (sym holds.0 ∙ some)

pub has_name_of : (name : List ℕ) (numbers : List OfStation) (stated : StatedNumber)
    → Holds numbers stated → list_any (is_of name) stated.of_one.items ≡ true
    → IsAmong (Some name) numbers
has_name_of name numbers stated holds some =
    has_name name numbers (ap (list_any (is_of name)) (sym holds.1) ∙ some)

-- A number of each is added.
pub adds_each : (numbers : List OfStation) (stated : StatedNumber) (n : ℕ) → Holds numbers stated
    → stated.of_each ≡ None
    → ¬ (IsAmong None numbers) × ((Some n ≡ number_of_each (numbers ++ of None n ∷ []))
    × (stated.of_one.items ≡ filter_map named_number (numbers ++ of None n ∷ [])))
adds_each numbers stated n holds none =
    let no : number_of_each numbers ≡ None = sym holds.0 ∙ none in (
      no_each numbers no,
      (
        sym (each_added numbers n no),
        holds.1 ∙ (sym (append-nil (filter_map named_number numbers))
            ∙ sym (filter_map-append named_number numbers (of None n ∷ []))),
      ),
    )

-- A number of one station is added.
pub adds_one : (numbers : List OfStation) (stated : StatedNumber) (name : List ℕ) (n : ℕ)
    (items : List NamedNumber) → Holds numbers stated
    → list_any (is_of name) stated.of_one.items ≡ false
    → items ≡ stated.of_one.items ++ record { name = name; number = n } ∷ []
    → ¬ (IsAmong (Some name) numbers)
    × ((stated.of_each ≡ number_of_each (numbers ++ of (Some name) n ∷ []))
    × (items ≡ filter_map named_number (numbers ++ of (Some name) n ∷ [])))
adds_one numbers stated name n items holds none more = (
  no_name name numbers (ap (list_any (is_of name)) (sym holds.1) ∙ none),
  (
    holds.0 ∙ sym (each_kept numbers name n),
    more ∙ (ap (λ l. l ++ record { name = name; number = n } ∷ []) holds.1
        ∙ sym (filter_map-append named_number numbers (of (Some name) n ∷ []))),
  ),
)

-- A text more is stated.
more_stated : (largest : ℕ) (texts : List (List ℕ)) (text : List ℕ) (stated new : StatedNumber)
    → IsStatedBy largest texts stated → AddsText largest stated text new
    → IsStatedBy largest (texts ++ text ∷ []) new
more_stated largest texts text stated new is adds =
    let told = adds.0 in
    let added = adds.2 is.0 is.2 in (
      is.0 ++ told ∷ [],
      one_more largest texts is.0 text told is.1 adds.1 added.0,
      added.1,
    )

-- Why a text can't be added is why the texts state nothing.
not_more : (largest : ℕ) (before after texts : List (List ℕ)) (text told : List ℕ)
    (stated : StatedNumber) (why : CountFault) → texts ≡ before ++ text ∷ after
    → IsStatedBy largest before stated → told ≡ text
    → ((numbers : List OfStation) → Holds numbers stated
    → IsFaultAfter largest numbers text why)
    → IsFirstWrong largest texts told why
not_more largest before after texts text told stated why whole is same wrong =
    subst (λ t. IsFirstWrong largest texts t why) (sym same)
    (record {
      before = before;
      after = after;
      numbers = is.0;
      whole = whole;
      right = is.1;
      wrong = wrong is.0 is.2;
    })

-- One text more of those that are lent is stated.
pub more_of_texts : (largest : ℕ) (texts : List (Bor (List ℕ))) (k : ℕ) (d : Bor (List ℕ))
    (stated new : StatedNumber) → k < length texts
    → IsStatedBy largest (map (λ text. text.now) (take k texts)) stated
    → AddsText largest stated (get_or texts k d).now new
    → IsStatedBy largest (map (λ text. text.now) (take (k + 1) texts)) new
more_of_texts largest texts k d stated new inside is adds =
    subst (λ t. IsStatedBy largest t new)
    (sym (map_more (λ (text : Bor (List ℕ)). text.now) texts k d inside))
    (more_stated largest (map (λ text. text.now) (take k texts)) (get_or texts k d).now stated new
    is adds)

-- Or it is the first that can't stand where it does, or memory ran out.
pub wrong_of_texts : (largest : ℕ) (texts : List (Bor (List ℕ))) (k : ℕ) (d : Bor (List ℕ))
    (stated : StatedNumber) (why : Unstated) → k < length texts
    → IsStatedBy largest (map (λ text. text.now) (take k texts)) stated
    → IsUnstatedAfter largest stated (get_or texts k d).now why
    → IsUnstated largest (map (λ text. text.now) texts) why
wrong_of_texts largest texts k d stated unstated.Memory inside is wrong = tt
wrong_of_texts largest texts k d stated (unstated.Wrong told why) inside is wrong =
    let now : Bor (List ℕ) → List ℕ = λ text. text.now in
    let parts : texts ≡ take k texts ++ get_or texts k d ∷ drop (suc k) texts =
    sym (take-append-drop k texts)
    ∙ ap (λ l. take k texts ++ l) (drop-cons texts k d inside) in
    let whole : map now texts
    ≡ map now (take k texts) ++ now (get_or texts k d) ∷ map now (drop (suc k) texts) =
    ap (map now) parts
    ∙ map-append now (take k texts) (get_or texts k d ∷ drop (suc k) texts) in
    not_more largest (map now (take k texts)) (map now (drop (suc k) texts)) (map now texts)
    (get_or texts k d).now told.now stated why whole is wrong.0 wrong.1

-- Texts state one number of each station, or none, and one list of those of single stations.
pub one-statement : (largest : ℕ) (texts : List (List ℕ)) (a b : StatedNumber)
    → IsStatedBy largest texts a → IsStatedBy largest texts b
    → (a.of_each ≡ b.of_each) × (a.of_one.items ≡ b.of_one.items)
one-statement largest texts a b s t =
    let same = same_numbers largest texts s.0 t.0 s.1.each t.1.each in (
      s.2.0 ∙ (ap number_of_each same ∙ sym t.2.0),
      s.2.1 ∙ (ap (filter_map named_number) same ∙ sym t.2.1),
    )
