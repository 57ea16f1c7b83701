-- Names that a content gives: they are read as they are from any content that holds them.
use Rattle.std.proofs.Common.{◌≡◌, ℕ, ◌<◌, Bool, true, false, cond, List, [], ◌∷◌, ◌++◌, length}
use Rattle.std.proofs.Common.{reverse, Option, Some, None, refl, inl, inr, arith, All}
use Rattle.std.specs.Prelude.{IfSome, ◌==◌, ◌&&◌, if◌then◌else◌, slice_get}
use Rattle.std.specs.List.{AllByRecursion, AllZip}
use Rattle.std.specs.Option.{option_map}
use Rattle.std.proofs.lemmas.Bool.{cases_Bool}
use Rattle.std.proofs.lemmas.List.Elements.{All-head, All-tail, All-nil, All-cons}
use Rattle.gsi_word.specs.Words.{GsiWord, IsWord}
use Rattle.gsi_word.specs.Blocks.{GsiBlock, IsBlock, is_starred}
use Rattle.gsi_word.specs.FoundWords.{words_with}
use Rattle.gsi_word.specs.Names.{name_of}
use Rattle.adjust_kernel.specs.Names.{IsName}
use Rattle.station_book.specs.Blocks.{name_of_first, target}
use Rattle.station_book.specs.Places.{History}
use Rattle.station_book.proofs.lists.Elements.{all_in, in_reverse, all_from}
use Rattle.job_statements.specs.declared.beginnings.Beginnings.{Beginnings}
use Rattle.set_marks.specs.declared.sight.Sight.{Sight}
use Rattle.set_marks.specs.Stations.{SetUp, Occupation, sets_up, sights_of, has_code, information}
use Rattle.set_marks.specs.Stations.{begins_named, is_open_as, unless_open, begins_after, set_up_of}
use Rattle.set_marks.specs.Stations.{open_name, set_ups_of, occupations, stated_or, begun}
use Rattle.set_marks.specs.Stations.{stations_of}
use Rattle.job_statements.proofs.Bare.{is_rest}

-- A name that a content gives which holds it.
pub record IsBareName (name : List ℕ) : Type 0 where
  pub is_name : IsName name
  pub bare : name_of name ≡ name

-- What a content that is a name gives is one.
pub name_is_bare : (content : List ℕ) → IsName content → IsBareName (name_of content)
name_is_bare [] is = absurd (let s = is.some in omega arith)
name_is_bare (b ∷ []) is = record { is_name = is; bare = refl }
name_is_bare (b ∷ c ∷ bytes) is = elim (cases_Bool (b == 48)) [
  | inl h ↦ rw h (name_is_bare (c ∷ bytes) (is_rest b (c ∷ bytes) is (omega arith)))
  | inr h ↦ rw h (record { is_name = is; bare = rw h refl })
]

-- The stations have such names.
abbrev pub HaveBareNames : List Occupation → Type 0
HaveBareNames ss = All (λ (s : Occupation). IsBareName s.name) ss

-- The names in a real block are such names: that in its first word, and that in a word 42.
record HasBareNames (b : GsiBlock) : Type 0 where
  target : IsBareName (target b)
  information : IfSome (information b) IsBareName

content_is_name : (starred : Bool) (w : GsiWord) → IsWord (cond starred 16 8) w
    → IsName w.content
content_is_name true w is = record {
  some = (let l = is.content_length in omega arith);
  short = (let l = is.content_length in omega arith);
  printable = is.content;
}
content_is_name false w is = record {
  some = (let l = is.content_length in omega arith);
  short = (let l = is.content_length in omega arith);
  printable = is.content;
}

word_is_bare : (starred : Bool) (w : GsiWord) → IsWord (cond starred 16 8) w
    → IsBareName (name_of w.content)
word_is_bare starred w is = name_is_bare w.content (content_is_name starred w is)

first_is_bare : (starred : Bool) (words : List GsiWord) → 0 < length words
    → All (IsWord (cond starred 16 8)) words → IsBareName (name_of_first words)
first_is_bare starred [] some each = absurd (omega (arith, some))
first_is_bare starred (w ∷ ws) some each =
    word_is_bare starred w (All-head (IsWord (cond starred 16 8)) w ws each)

-- The first of the words of an index is one of the words.
found_is_bare : (starred : Bool) (index : ℕ) (words : List GsiWord)
    → All (IsWord (cond starred 16 8)) words
    → IfSome (option_map (λ w. name_of w.content) (slice_get (words_with index words) 0)) IsBareName
found_is_bare starred index [] each = tt
found_is_bare starred index (w ∷ ws) each = elim (cases_Bool (w.index == index)) [
  | inl h ↦ rw h (word_is_bare starred w (All-head (IsWord (cond starred 16 8)) w ws each))
  | inr h ↦ rw h (found_is_bare starred index ws
      (All-tail (IsWord (cond starred 16 8)) w ws each))
]

names_are_bare : (line : List ℕ) (b : GsiBlock) → IsBlock line b → HasBareNames b
unfolding target
names_are_bare line b is = record {
  target = first_is_bare (is_starred line) b.words is.words.some_word is.words.each;
  information = found_is_bare (is_starred line) 42 b.words is.words.each;
}

zipped : (lines : List (List ℕ)) (bs : List GsiBlock) → AllZip IsBlock lines bs
    → AllByRecursion HasBareNames bs
zipped [] [] zip = tt
zipped [] (b ∷ bs) zip = absurd zip
zipped (l ∷ ls) [] zip = absurd zip
zipped (l ∷ ls) (b ∷ bs) zip = (names_are_bare l b zip.0, zipped ls bs zip.1)

all_bare : (h : History) → AllByRecursion HasBareNames (reverse h) → AllByRecursion HasBareNames h
all_bare h all = all_from HasBareNames h (λ b inside. all_in HasBareNames b (reverse h) all
    (in_reverse b h inside))

-- such a name
abbrev IsBareSetUp : SetUp → Type 0
IsBareSetUp s = IsBareName s.name

both : (ss ts : List SetUp) → AllByRecursion IsBareSetUp ss → AllByRecursion IsBareSetUp ts
    → AllByRecursion IsBareSetUp (ss ++ ts)
both [] ts a b = b
both (s ∷ ss) ts a b = (a.0, both ss ts a.1 b)

-- The name of which a real block begins a station is such a name.
begins_bare : (beginnings : Beginnings) (b : GsiBlock) → HasBareNames b
    → IfSome (begins_named beginnings b) IsBareName
unfolding begins_named
begins_bare beginnings b bare = by (sets_up b) (has_code beginnings.code b) where
  by : (sets coded : Bool) → IfSome
      (if sets then Some (target b) else (if coded then information b else None)) IsBareName
  by true coded = bare.target
  by false true = bare.information
  by false false = tt

begins_after_bare : (same : Bool) (current name : Option (List ℕ)) → IfSome name IsBareName
    → IfSome (unless_open same current name) IsBareName
begins_after_bare same current None bare = tt
begins_after_bare same current (Some name) bare = by (same && is_open_as name current) where
  by : (t : Bool) → IfSome (if t then None else Some name) IsBareName
  by true = tt
  by false = bare

one_bare : (from : ℕ) (name : Option (List ℕ)) → IfSome name IsBareName
    → AllByRecursion IsBareSetUp (set_up_of from name)
one_bare from None bare = tt
one_bare from (Some name) bare = (bare, tt)

set_ups_bare : (beginnings : Beginnings) (h : History) → AllByRecursion HasBareNames h
    → AllByRecursion IsBareSetUp (set_ups_of beginnings h)
set_ups_bare beginnings [] all = tt
set_ups_bare beginnings (b ∷ past) all =
    let ss = set_ups_of beginnings past in
    let from = length (sights_of past) in
    let name = begins_after beginnings (open_name ss) b in
    both ss (set_up_of from name) (set_ups_bare beginnings past all.1)
    (one_bare from name (begins_after_bare beginnings.same_set_up (open_name ss)
    (begins_named beginnings b) (begins_bare beginnings b all.0)))

all_named : (ss : List SetUp) (rs : List Sight) → AllByRecursion IsBareSetUp ss
    → HaveBareNames (occupations ss rs)
all_named [] rs all = All-nil (λ (s : Occupation). IsBareName s.name)
all_named (s ∷ []) rs all = All-cons (λ (o : Occupation). IsBareName o.name) _ [] all.0
    (All-nil (λ (o : Occupation). IsBareName o.name))
all_named (s ∷ t ∷ ss) rs all = All-cons (λ (o : Occupation). IsBareName o.name) _
    (occupations (t ∷ ss) rs) all.0 (all_named (t ∷ ss) rs all.1)

-- The stations of real blocks have such names, and so has one whose name is stated.
pub bare_names : (beginnings : Beginnings) (lines : List (List ℕ)) (h : History)
    → AllZip IsBlock lines (reverse h) → IfSome beginnings.station IsName
    → HaveBareNames (stations_of beginnings h)
bare_names beginnings lines h zip is =
    all_named (begun beginnings h) (sights_of h) (by beginnings.station is) where
      by : (station : Option (List ℕ)) → IfSome station IsName
          → AllByRecursion IsBareSetUp (stated_or station (set_ups_of beginnings h))
      by (Some name) is = (name_is_bare name is, tt)
      by None is = set_ups_bare beginnings h (all_bare h (zipped lines (reverse h) zip))
