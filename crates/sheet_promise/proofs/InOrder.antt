-- From places, where the blocks before each stand newest first, to the blocks in the file's order.
use Rattle.std.proofs.Common.{◌≡◌, ◌≢◌, ℕ, suc, Bool, true, false, List, []}
use Rattle.std.proofs.Common.{◌∷◌, ◌++◌, reverse, Some, refl, sym, ap, ◌∙◌, inl, inr}
use Rattle.std.proofs.Common.{subst, arith}
use Rattle.std.specs.Prelude.{slice_index_or}
use Rattle.std.specs.List.{All, AllByRecursion}
use Rattle.std.proofs.lemmas.Bool.{cases_Bool, and_parts, and_from, false≢true, false_from_ne_true}
use Rattle.std.proofs.lemmas.List.{reverse-append, reverse-reverse, append_assoc}
use Rattle.std.proofs.lemmas.List.Elements.{All-from_recursion}
use Rattle.gsi_word.specs.Blocks.{GsiBlock}
use Rattle.gsi_word.specs.declared.index.TheConstants.{HORIZONTAL_DIRECTION, VERTICAL_ANGLE}
use Rattle.adjust_kernel.specs.Sheets.{SheetValue, IsRow, IsSetNumber}
use Rattle.adjust_kernel.specs.declared.row.Row.{Row}
use Rattle.station_book.specs.declared.face.Face.{Face}
use Rattle.station_book.specs.declared.face.Face.TheVariants.{One, Two}
use Rattle.station_book.specs.Limits.{FaceLimits}
use Rattle.station_book.specs.TwoFaces.{Angles}
use Rattle.station_book.specs.Blocks.{opens_station, opens_set, is_opening, has_direction}
use Rattle.station_book.specs.Places.{History, Place, places, last, before, opening}
use Rattle.station_book.specs.Places.{number_at, is_open, is_set, is_reading, passes_at, target_at}
use Rattle.station_book.specs.Faults.{name_at}
use Rattle.station_book.proofs.lists.Elements.{In, in_contains, contains_in}
use Rattle.station_book.proofs.names.StationNames.{all_reverse}
use Rattle.sheet_promise.proofs.BlockCodes.{Decides, station_decided, set_decided, end_decided}
use Rattle.sheet_promise.proofs.BlockCodes.{IsDirected, directed, has_it, target_is, informs}
use Rattle.sheet_promise.proofs.BlockCodes.{named_is, HasNumber, numbered, number_is}
use Rattle.sheet_promise.proofs.Placed.{IsPlacedSet, IsPlacedNumber, IsPlacedSetUp, ReadsAngles}
use Rattle.sheet_promise.proofs.Placed.{IsPlacedReading, IsPlacedRow, IsOfPlacedRow, ArePlacedRows}
use Rattle.sheet_promise.proofs.PlacedStation.{station_of_reading}
use Rattle.sheet_promise.specs.Readings.{IsOnly, FileBlock, IsOfFile, IsLastBefore, OpensStation}
use Rattle.sheet_promise.specs.Readings.{OpensSet, EndsSet, Informs, IsSetOf, IsNumbered, IsSetUp}
use Rattle.sheet_promise.specs.Readings.{IsReadingOfSet, HoldsAngle, IsInFace, IsReadingIn}
use Rattle.sheet_promise.specs.Readings.{IsTwoFaceRow, IsOfRow}
use Rattle.sheet_promise.specs.Promised.{AreItsDirections}

-- The block at a place with those before it; some block where there is no place.
abbrev pub file_block : Place → FileBlock
file_block [] = record { before = []; block = record { width = 0; words = [] } }
file_block (b ∷ past) = record { before = reverse past; block = b }

-- And the place of such a block.
abbrev pub place_of : FileBlock → Place
place_of f = f.block ∷ reverse f.before

pub back : (f : FileBlock) → file_block (place_of f) ≡ f
back f = λ i. record { before = reverse-reverse f.before i; block = f.block }

there : (p : Place) → p ≢ [] → place_of (file_block p) ≡ p
there [] some = absurd (some refl)
there (b ∷ past) some = λ i. b ∷ reverse-reverse past i

module _ {X : Type 0} where
  last_first : (x : X) (xs : List X) → reverse (x ∷ xs) ≡ reverse xs ++ x ∷ []
  last_first x xs = reverse-append (x ∷ []) xs

  -- The reverse of what stands before and after an element.
  reverse_split : (xs ys : List X) (x : X)
      → reverse (xs ++ x ∷ ys) ≡ reverse ys ++ x ∷ reverse xs
  reverse_split xs ys x =
      reverse-append xs (x ∷ ys) ∙ ap (λ (zs : List X). zs ++ reverse xs) (last_first x ys)
      ∙ append_assoc (reverse ys) (x ∷ []) (reverse xs)

  with_last : (all xs ys : List X) (x y : X) → all ≡ xs ++ x ∷ ys
      → all ++ y ∷ [] ≡ xs ++ x ∷ (ys ++ y ∷ [])
  with_last all xs ys x y e =
      ap (λ (zs : List X). zs ++ y ∷ []) e ∙ append_assoc xs (x ∷ ys) (y ∷ [])

  all_and_last : (P : X → Type 0) (xs : List X) (y : X) → AllByRecursion P xs → P y
      → AllByRecursion P (xs ++ y ∷ [])
  all_and_last P [] y all here = (here, tt)
  all_and_last P (x ∷ xs) y all here = (all.0, all_and_last P xs y all.1 here)

  each_of : (P : X → Type 0) (xs : List X) → All P xs → AllByRecursion P xs
  each_of P [] all = tt
  each_of P (x ∷ xs) all =
      (all 0 x (omega arith), each_of P xs (λ k d below. all (suc k) d (omega (arith, below))))

-- A place of a file is one of its blocks.
pub in_order : (h : History) (p : Place) → In p (places h) → IsOfFile (reverse h) (file_block p)
in_order [] p placed = absurd placed
in_order (b ∷ past) p (inl e) =
    subst (λ (q : Place). IsOfFile (reverse (b ∷ past)) (file_block q)) (sym e)
    (record { after = []; split = last_first b past })
in_order (b ∷ past) p (inr placed) =
    let rest = in_order past p placed in
    record {
      after = rest.after ++ b ∷ [];
      split = last_first b past
          ∙ with_last (reverse past) (file_block p).before rest.after (file_block p).block b
          rest.split;
    }

in_longer : (xs : List GsiBlock) (b : GsiBlock) (past : History)
    → In (b ∷ past) (places (xs ++ b ∷ past))
in_longer [] b past = inl refl
in_longer (x ∷ xs) b past = inr (in_longer xs b past)

-- A block of a file is at a place of it.
pub placed_there : (h : History) (f : FileBlock) → IsOfFile (reverse h) f
    → In (place_of f) (places h)
placed_there h f o =
    let e : h ≡ reverse o.after ++ place_of f =
    sym (reverse-reverse h) ∙ ap reverse o.split ∙ reverse_split f.before o.after f.block in
    subst (λ (g : History). In (place_of f) (places g)) (sym e)
    (in_longer (reverse o.after) f.block (reverse f.before))

-- The last block that passes a test, in the file's order.
record IsSplit (P : GsiBlock → Type 0) (past : History) (b : GsiBlock) (older : History)
    : Type 0 where
  pub between : List GsiBlock
  pub split : reverse past ≡ reverse older ++ b ∷ between
  pub is : P b
  pub none : AllByRecursion (λ c. ¬ P c) between

split_last : (p : GsiBlock → Bool) (P : GsiBlock → Type 0) → Decides p P → (past : History)
    (b : GsiBlock) (older : History) → last p past ≡ b ∷ older → IsSplit P past b older
split_last p P d [] b older e = cc
split_last p P d (c ∷ past) b older e = elim (cases_Bool (p c)) [
  | inl t ↦
      let same : c ∷ past ≡ b ∷ older = rw t at e in
      let block : c ≡ b = cc in
      let rest : past ≡ older = cc in
      record {
        between = [];
        split = last_first c past ∙ (λ i. reverse (rest i) ++ block i ∷ []);
        is = subst P block (d.to c t);
        none = tt;
      }
  | inr f ↦
      let own = split_last p P d past b older (rw f at e) in
      record {
        between = own.between ++ c ∷ [];
        split = last_first c past
            ∙ with_last (reverse past) (reverse older) own.between b c own.split;
        is = own.is;
        none = all_and_last (λ x. ¬ P x) own.between c own.none
            (λ is. false≢true (sym f ∙ d.from c is));
      }
]

is_last : (p : GsiBlock → Bool) (P : GsiBlock → Type 0) → Decides p P → (this that : Place)
    → that ≢ [] → last p (before this) ≡ that → IsLastBefore P (file_block this) (file_block that)
is_last p P d this [] some e = absurd (some refl)
is_last p P d [] (c ∷ older) some e = cc
is_last p P d (b ∷ past) (c ∷ older) some e =
    let own = split_last p P d past c older e in
    record {
      between = own.between;
      split = own.split;
      is = own.is;
      none = All-from_recursion (λ x. ¬ P x) own.between own.none;
    }

last_over : (p : GsiBlock → Bool) (xs : List GsiBlock) (b : GsiBlock) (older : History)
    → AllByRecursion (λ c. p c ≡ false) xs → p b ≡ true → last p (xs ++ b ∷ older) ≡ b ∷ older
last_over p [] b older none is = rw is refl
last_over p (x ∷ xs) b older none is = rw none.0 (last_over p xs b older none.1 is)

each_fails : (p : GsiBlock → Bool) (P : GsiBlock → Type 0) → Decides p P → (xs : List GsiBlock)
    → AllByRecursion (λ c. ¬ P c) xs → AllByRecursion (λ c. p c ≡ false) xs
each_fails p P d [] none = tt
each_fails p P d (x ∷ xs) none =
    (false_from_ne_true (p x) (λ t. none.0 (d.to x t)), each_fails p P d xs none.1)

pub last_is : (p : GsiBlock → Bool) (P : GsiBlock → Type 0) → Decides p P → (this that : FileBlock)
    → IsLastBefore P this that → last p (reverse this.before) ≡ place_of that
last_is p P d this that l =
    ap (λ (bs : List GsiBlock). last p (reverse bs)) l.split
    ∙ ap (last p) (reverse_split that.before l.between that.block)
    ∙ last_over p (reverse l.between) that.block (reverse that.before)
    (all_reverse (λ c. p c ≡ false) l.between
    (each_fails p P d l.between (each_of (λ c. ¬ P c) l.between l.none))) (d.from that.block l.is)

-- What is so of one place alone is so of its block alone.
only_there : (P : Place → Type 0) (Q : FileBlock → Type 0) (p : Place)
    → (P p → Q (file_block p)) → ((f : FileBlock) → Q f → P (place_of f)) → IsOnly P p
    → IsOnly Q (file_block p)
only_there P Q p to from x = record {
  is = to x.is;
  only = λ other o. sym (back other) ∙ ap file_block (x.only (place_of other) (from other o));
}

opens_there : (set : Place) → is_set set ≡ true → OpensSet (file_block set).block
opens_there [] e = cc
opens_there (b ∷ past) e = set_decided.to b e

named_there : (p : Place) (name : List ℕ) → name_at p ≡ Some name
    → Informs (file_block p).block name
named_there [] name e = cc
named_there (b ∷ past) name e = informs b name e

pub some_named : (p : Place) (name : List ℕ) → name_at p ≡ Some name → p ≢ []
some_named [] name e = cc
some_named (b ∷ past) name e = λ n. let bad : (b ∷ past) ≡ [] = n in cc

number_there : (p : Place) (n : ℕ) → number_at p ≡ Some n → HasNumber (file_block p).block n
number_there [] n e = cc
number_there (b ∷ past) n e = numbered b n e

some_set : (p : Place) → is_set p ≡ true → p ≢ []
some_set [] e = cc
some_set (b ∷ past) e = λ n. let bad : (b ∷ past) ≡ [] = n in cc

directed_there : (r : Place) → passes_at has_direction r ≡ true
    → IsDirected (file_block r).block (target_at r)
directed_there [] e = cc
directed_there (b ∷ past) e = directed b e

reads_there : (r : Place) (read : Angles) → ReadsAngles r read
    → HoldsAngle HORIZONTAL_DIRECTION (file_block r).block read.hz
    × HoldsAngle VERTICAL_ANGLE (file_block r).block read.zenith
reads_there [] read reads = absurd reads
reads_there (b ∷ past) read reads = reads

module _ (h : History) where
  set_to : (st set : Place) → st ≢ [] → IsPlacedSet h st set
      → IsSetOf (reverse h) (file_block st) (file_block set)
  set_to st set some o = record {
    of_file = in_order h set (in_contains set (places h) o.placed);
    opens = opens_there set o.opened;
    of_station = is_last opens_station OpensStation station_decided set st some o.of_station;
  }

  set_from : (setup set : FileBlock) → IsSetOf (reverse h) setup set
      → IsPlacedSet h (place_of setup) (place_of set)
  set_from setup set o = record {
    placed = contains_in (place_of set) (places h) (placed_there h set o.of_file);
    opened = set_decided.from set.block o.opens;
    of_station = last_is opens_station OpensStation station_decided set setup o.of_station;
  }

  number_to : (st : Place) (n : ℕ) (set : Place) → st ≢ [] → IsPlacedNumber h st n set
      → IsNumbered (reverse h) (file_block st) n (file_block set)
  number_to st n set some o =
      let own = number_there set n o.numbered in
      record {
        its_set = set_to st set some o.its_set;
        name = own.name;
        informs = own.informs;
        numbered = own.numbered;
      }

  number_from : (setup : FileBlock) (n : ℕ) (set : FileBlock) → IsSetNumber n
      → IsNumbered (reverse h) setup n set → IsPlacedNumber h (place_of setup) n (place_of set)
  number_from setup n set small o = record {
    its_set = set_from setup set o.its_set;
    numbered = number_is set.block n small
        (record { name = o.name; informs = o.informs; numbered = o.numbered });
  }

  setup_to : (name : List ℕ) (st : Place) → IsPlacedSetUp h name st
      → IsSetUp (reverse h) name (file_block st)
  setup_to name st o = record {
    informs = named_there st name o.has_name;
    set = file_block o.set;
    its_set = set_to st o.set (some_named st name o.has_name) o.its_set;
  }

  setup_from : (name : List ℕ) (setup : FileBlock) → IsSetUp (reverse h) name setup
      → IsPlacedSetUp h name (place_of setup)
  setup_from name setup o = record {
    has_name = named_is setup.block name o.informs;
    set = place_of o.set;
    its_set = set_from setup o.set o.its_set;
  }

  -- A station that was set up once by places was set up once in the file's order.
  pub set_up_once : (name : List ℕ) (st : Place) → IsOnly (IsPlacedSetUp h name) st
      → IsOnly (IsSetUp (reverse h) name) (file_block st)
  set_up_once name st x = only_there (IsPlacedSetUp h name) (IsSetUp (reverse h) name) st
      (setup_to name st) (setup_from name) x

  reading_to : (set : Place) (target : List ℕ) (f : Face) (r : Place) → set ≢ []
      → IsPlacedReading h set target f r
      → IsReadingIn (reverse h) (file_block set) target f (file_block r)
  reading_to set target f r some o =
      let own = directed_there r
      (and_parts (passes_at has_direction r) (is_open (before r)) o.reading).0 in
      let angles = reads_there r o.read o.reads in
      record {
        reading = record {
          of_file = in_order h r (in_contains r (places h) o.placed);
          of_set = is_last is_opening EndsSet end_decided r set some o.of_set;
          of_target = subst (λ (name : List ℕ).
              Rattle.sheet_promise.specs.Readings.BeginWith 11 name (file_block r).block.words)
              o.of_target own.of_target;
          directed = own.directed;
        };
        read = o.read;
        hz = angles.0;
        zenith = angles.1;
        of_face = o.of_face;
      }

  -- A reading of a set, by its place.
  record IsReadThere (set : FileBlock) (target : List ℕ) (r : FileBlock) : Type 0 where
    pub placed : In (place_of r) (places h)
    pub reading : is_reading (place_of r) ≡ true
    pub of_set : opening (before (place_of r)) ≡ place_of set
    pub of_target : target_at (place_of r) ≡ target

  read_there : (set : FileBlock) (target : List ℕ) (r : FileBlock) → OpensSet set.block
      → IsReadingOfSet (reverse h) set target r → IsReadThere set target r
  read_there set target r opens o =
      let of_set : opening (reverse r.before) ≡ place_of set =
      last_is is_opening EndsSet end_decided r set o.of_set in
      let now : is_open (reverse r.before) ≡ true =
      ap (λ (p : Place). passes_at opens_set p) of_set ∙ set_decided.from set.block opens in
      record {
        placed = placed_there h r o.of_file;
        reading = and_from (has_direction r.block) (is_open (reverse r.before))
            (has_it r.block target
            (record { of_target = o.of_target; directed = o.directed })) now;
        of_set = of_set;
        of_target = target_is r.block target o.of_target;
      }

  reading_from : (set : FileBlock) (target : List ℕ) (f : Face) (r : FileBlock)
      → OpensSet set.block → IsReadingIn (reverse h) set target f r
      → IsPlacedReading h (place_of set) target f (place_of r)
  reading_from set target f r opens o =
      let own = read_there set target r opens o.reading in
      record {
        placed = contains_in (place_of r) (places h) own.placed;
        reading = own.reading;
        of_set = own.of_set;
        of_target = own.of_target;
        read = o.read;
        reads = (o.hz, o.zenith);
        of_face = o.of_face;
      }

  only_reading_to : (set : Place) (target : List ℕ) (f : Face) (r : Place) → set ≢ []
      → OpensSet (file_block set).block → IsOnly (IsPlacedReading h set target f) r
      → IsOnly (IsReadingIn (reverse h) (file_block set) target f) (file_block r)
  only_reading_to set target f r some opens x =
      only_there (IsPlacedReading h set target f)
      (IsReadingIn (reverse h) (file_block set) target f) r
      (reading_to set target f r some)
      (λ other o. subst (λ (p : Place). IsPlacedReading h p target f (place_of other))
      (there set some) (reading_from (file_block set) target f other opens o)) x

  row_to : (limits : FaceLimits) (st : Place) (row : Row) → st ≢ [] → IsSetNumber row.set
      → IsPlacedRow limits h st row → IsTwoFaceRow limits (reverse h) (file_block st) row
  unfolding only_reading_to only_there reading_to
  row_to limits st row some small x =
      let own = x.its_set.is.its_set in
      let has = some_set x.set own.opened in
      let opens = opens_there x.set own.opened in
      record {
        set = file_block x.set;
        its_set = only_there (IsPlacedNumber h st row.set)
            (IsNumbered (reverse h) (file_block st) row.set) x.set
            (number_to st row.set x.set some)
            (λ other o. subst (λ (p : Place). IsPlacedNumber h p row.set (place_of other))
            (there st some) (number_from (file_block st) row.set other small o)) x.its_set;
        first = file_block x.first;
        face_one = only_reading_to x.set row.target One x.first has opens x.face_one;
        second = file_block x.second;
        face_two = only_reading_to x.set row.target Two x.second has opens x.face_two;
        direction = x.direction;
        two_c = x.two_c;
        within_two_c = x.within_two_c;
        two_i = x.two_i;
        within_two_i = x.within_two_i;
      }

  of_row_to : (limits : FaceLimits) (st : Place) (rows : List Row) (r : FileBlock) → st ≢ []
      → All IsRow rows → IsOfPlacedRow limits h st rows (place_of r)
      → IsOfRow limits (reverse h) (file_block st) rows r
  unfolding row_to
  of_row_to limits st rows r some each x =
      let small : IsSetNumber x.row.set =
      subst (λ (row : Row). IsSetNumber row.set) x.listed.2
      (each x.listed.0 x.row x.listed.1).set in
      record {
        row = x.row;
        listed = x.listed;
        its = row_to limits st x.row some small x.its;
        is_one = elim x.is_one [
          | inl e ↦ inl (ap file_block e ∙ back r)
          | inr e ↦ inr (ap file_block e ∙ back r)
        ];
      }

  -- Rows that are the directions of a station by places are so in the file's order.
  pub its_directions : (limits : FaceLimits) (st : Place) (sheet : SheetValue) → st ≢ []
      → All IsRow sheet.rows → ArePlacedRows limits h st sheet
      → AreItsDirections limits (reverse h) (file_block st) sheet
  its_directions limits st sheet some each x = record {
    rows = λ k d below. row_to limits st (slice_index_or sheet.rows k d) some
        (each k d below).set (x.rows k d below);
    once = x.once;
    whole = λ set r target its_set reading.
        let own = subst (λ (p : Place). IsPlacedSet h p (place_of set)) (there st some)
        (set_from (file_block st) set its_set) in
        let there = read_there set target r its_set.opens reading in
        of_row_to limits st sheet.rows r some each
        (x.whole (place_of r) (contains_in (place_of r) (places h) there.placed) there.reading
        (station_of_reading h (place_of r) (place_of set) there.placed there.reading there.of_set
        ∙ own.of_station));
    targets = x.targets;
    sets = x.sets;
  }
