-- The tree that grows by one block after another: of the steps, each with what is found on it and
-- without a fault of code lines.
use Rattle.std.specs.Prelude.{if◌then◌else◌}
use Rattle.std.proofs.Common.{◌≡◌, ℕ, suc, ◌≤◌, Bool, true, false, ◌&&◌, ◌||◌, not, cond, List, []}
use Rattle.std.proofs.Common.{◌∷◌, ◌++◌, Option, Some, None, is_none, is_some, refl, sym, ap, subst}
use Rattle.std.proofs.Common.{◌∙◌, inl, inr, arith, append_assoc}
use Rattle.std.specs.Option.{option_map}
use Rattle.std.specs.Str.{bytes_eq}
use Rattle.std.proofs.lemmas.Bool.{cases_Bool, or_parts, or_from, ne_eqb}
use Rattle.std.proofs.lemmas.List.{append-nil}
use Rattle.gsi_word.specs.declared.index.TheConstants.{HORIZONTAL_DIRECTION, CODE_INFORMATION}
use Rattle.gsi_word.specs.FoundWords.{is_absent}
use Rattle.gsi_word.specs.declared.found.Found.TheVariants as founds
use Rattle.gsi_word.specs.declared.found.Found as word
use Rattle.gsi_word.specs.Blocks.{GsiBlock}
use Rattle.station_book.specs.declared.fault.BookKind.{BookKind}
use Rattle.station_book.specs.declared.fault.BookKind.TheVariants as kinds
use Rattle.station_book.specs.declared.role.Role.{Role}
use Rattle.station_book.specs.declared.role.Role.TheVariants as role
use Rattle.station_book.specs.Blocks.{role_of, is_station, is_set_code, is_close, is_measurement}
use Rattle.station_book.specs.Blocks.{has_direction, lacks, has_two, named, number, is_opening}
use Rattle.station_book.specs.Blocks.{opens_station, closes_set, name_found, found_in_block}
use Rattle.station_book.specs.Places.{is_among, is_empty}
use Rattle.station_book.specs.Faults.{when, station_faults, same_name, same_number}
use Rattle.station_book.proofs.places.Steps.{set_role}
use Rattle.book_tree.specs.Tree.{SetOf, StationOf, Tree, grown_by, read_in, sets_in, stations_in}
use Rattle.book_tree.specs.Tree.{with_station, name_in, is_used, has_number, has_reading}
use Rattle.book_tree.specs.Tree.{open_readings, tree_end_faults, code_set_faults, code_faults}
use Rattle.book_tree.specs.Tree.{HasNone}
use Rattle.set_marks.specs.MarkedBlocks.{MarkedSet, blocks_of_set, HaveNoCode, IsMarkedSet}
use Rattle.set_marks.specs.MarkedBlocks.{for_readings}
use Rattle.set_marks.specs.Found.{Found}
use Rattle.set_marks.specs.TreeWalks.{after, found_now, found_of, AreFree}
use Rattle.set_marks.specs.MarkedTree.{reads, in_set, begun}
use Rattle.set_marks.proofs.WholeSets.{AreFirst, none_read, none_more, one_more, not_taken, may_end}

-- From one tree on to another, no block on the way has a fault of codes, and the readings on the
-- way are found there.
pub record Walk (t : Tree) (bs : List GsiBlock) (later : Tree) (told : List (Option Found))
    : Type 0 where
  pub ends : after t bs ≡ later
  pub free : AreFree t bs
  pub found : found_of t bs ≡ told

pub stay : (t : Tree) → Walk t [] t []
stay t = record { ends = refl; free = tt; found = refl }

after_both : (t : Tree) (cs bs : List GsiBlock) → after t (cs ++ bs) ≡ after (after t cs) bs
after_both t [] bs = refl
after_both t (a ∷ cs) bs = after_both (grown_by (role_of a) a t) cs bs

free_both : (t : Tree) (cs bs : List GsiBlock) → AreFree t cs → AreFree (after t cs) bs
    → AreFree t (cs ++ bs)
free_both t [] bs a b = b
free_both t (x ∷ cs) bs a b = (a.0, free_both (grown_by (role_of x) x t) cs bs a.1 b)

found_both : (t : Tree) (cs bs : List GsiBlock)
    → found_of t (cs ++ bs) ≡ found_of t cs ++ found_of (after t cs) bs
found_both t [] bs = refl
found_both t (a ∷ cs) bs =
    let here = if has_direction a then found_now t ∷ [] else [] in
    let next = grown_by (role_of a) a t in
    ap (λ fs. here ++ fs) (found_both next cs bs)
    ∙ sym (append_assoc here (found_of next cs) (found_of (after next cs) bs))

-- one way after another
pub onward : (t mid later : Tree) (cs bs : List GsiBlock) (first more : List (Option Found))
    → Walk t cs mid first → Walk mid bs later more → Walk t (cs ++ bs) later (first ++ more)
onward t mid later cs bs first more a b = record {
  ends = after_both t cs bs ∙ ap (λ (u : Tree). after u bs) a.ends ∙ b.ends;
  free = free_both t cs bs a.free (subst (λ (u : Tree). AreFree u bs) (sym a.ends) b.free);
  found = found_both t cs bs ∙ (λ i. a.found i ++ found_of (a.ends i) bs)
      ∙ ap (λ fs. first ++ fs) b.found;
}

-- A block with a code.
pub coded : (t : Tree) (b : GsiBlock) (r : Role) → role_of b ≡ r → is_measurement r ≡ false
    → HasNone (code_faults r t b) → Walk t (b ∷ []) (grown_by r b t) []
coded t b r e m none = record {
  ends = ap (λ r. grown_by r b t) e;
  free = (subst (λ r. HasNone (code_faults r t b)) (sym e) none, tt);
  found = (λ i. cond (is_measurement (e i) && not (lacks HORIZONTAL_DIRECTION b))
      (found_now t ∷ []) [] ++ [])
      ∙ ap (λ v. cond (v && not (lacks HORIZONTAL_DIRECTION b)) (found_now t ∷ []) [] ++ []) m;
}

grown_plain : (t : Tree) (b : GsiBlock) (r : Role)
    → (is_station r || (is_set_code r || is_close r)) ≡ false
    → grown_by r b t ≡ (if is_measurement r && not (lacks HORIZONTAL_DIRECTION b)
    then record t { current = option_map (read_in b) t.current } else t)
grown_plain t b role.Station e = cc
grown_plain t b role.Set e = cc
grown_plain t b role.Close e = cc
grown_plain t b role.Measurement e = refl
grown_plain t b role.Other e = refl

free_plain : (t : Tree) (b : GsiBlock) (r : Role)
    → (is_station r || (is_set_code r || is_close r)) ≡ false
    → ((is_measurement r && not (lacks HORIZONTAL_DIRECTION b)) ≡ true → is_some t.current ≡ true
    → has_reading b (open_readings t) ≡ false) → HasNone (code_faults r t b)
free_plain t b role.Station e free = cc
free_plain t b role.Set e free = cc
free_plain t b role.Close e free = cc
free_plain t b role.Measurement e free =
    by (not (lacks HORIZONTAL_DIRECTION b)) (is_some t.current) free
  where
    by : (x y : Bool) → (x ≡ true → y ≡ true → has_reading b (open_readings t) ≡ false)
        → HasNone (if x && y
        then when (has_reading b (open_readings t)) kinds.FaceTwice ∷ [] else [])
    by true true f = (ap (λ v. when v kinds.FaceTwice) (f refl refl), tt)
    by true false f = tt
    by false y f = tt
free_plain t b role.Other e free = tt

-- A block without a code is a reading, or changes nothing.
uncoded : (t : Tree) (b : GsiBlock) (x : Bool) → is_opening b ≡ false → has_direction b ≡ x
    → (x ≡ true → is_some t.current ≡ true → has_reading b (open_readings t) ≡ false)
    → Walk t (b ∷ [])
    (if x then record t { current = option_map (read_in b) t.current } else t)
    (if x then found_now t ∷ [] else [])
uncoded t b x plain e free = record {
  ends = grown_plain t b (role_of b) plain
      ∙ ap (λ v. cond v (record t { current = option_map (read_in b) t.current }) t) e;
  free = (free_plain t b (role_of b) plain (λ f. free (sym e ∙ f)), tt);
  found = append-nil (if has_direction b then found_now t ∷ [] else [])
      ∙ ap (λ v. cond v (found_now t ∷ []) []) e;
}

-- Over the blocks of a set.
pub over_set : (t : Tree) (code : GsiBlock) (all rs bs : List GsiBlock) → AreFirst all rs bs
    → HaveNoCode bs → Walk (in_set t code rs) bs (in_set t code (reads rs bs))
    (for_readings (found_now (in_set t code rs)) bs)
over_set t code all rs [] first plain = stay (in_set t code rs)
over_set t code all rs (b ∷ bs) first plain =
    let f = found_now (in_set t code rs) in
    let u = in_set t code rs in elim (cases_Bool (has_direction b)) [
      | inl sees ↦
          rw sees (onward u (in_set t code (b ∷ rs)) (in_set t code (reads (b ∷ rs) bs)) (b ∷ []) bs
          (f ∷ []) (for_readings f bs)
          (uncoded u b true plain.0 sees (λ e o. not_taken all rs b bs sees first))
          (over_set t code all (b ∷ rs) bs (one_more all rs b bs sees first) plain.1))
      | inr sees ↦
          rw sees (onward u u (in_set t code (reads rs bs)) (b ∷ []) bs [] (for_readings f bs)
          (uncoded u b false plain.0 sees (λ e o. cc))
          (over_set t code all rs bs (none_more all rs b bs sees first) plain.1))
    ]

-- The readings of a set are those of the first of its blocks.
pub all_read : (all rs bs : List GsiBlock) → AreFirst all rs bs → AreFirst all (reads rs bs) []
all_read all rs [] first = first
all_read all rs (b ∷ bs) first = elim (cases_Bool (has_direction b)) [
  | inl sees ↦ rw sees (all_read all (b ∷ rs) bs (one_more all rs b bs sees first))
  | inr sees ↦ rw sees (all_read all rs bs (none_more all rs b bs sees first))
]

-- Where no set is open, blocks without a code change nothing.
pub over_plain : (t : Tree) (bs : List GsiBlock) → t.current ≡ None → HaveNoCode bs
    → Walk t bs t (for_readings None bs)
over_plain t [] shut plain = stay t
over_plain t (b ∷ bs) shut plain =
    let more = over_plain t bs shut plain.1 in elim (cases_Bool (has_direction b)) [
      | inl sees ↦
          rw sees (onward t t t (b ∷ []) bs (None ∷ []) (for_readings None bs)
          (subst (λ (f : Option Found). Walk t (b ∷ []) t (f ∷ [])) none
          (subst (λ (u : Tree). Walk t (b ∷ []) u (found_now t ∷ [])) stays
          (uncoded t b true plain.0 sees (λ e o. never o)))) more)
      | inr sees ↦
          rw sees (onward t t t (b ∷ []) bs [] (for_readings None bs)
          (uncoded t b false plain.0 sees (λ e o. cc)) more)
    ]
  where
    none : found_now t ≡ None
    none = ap (λ (o : Option SetOf).
        option_map (λ s. record { station = name_in t.code; set = number s.code }) o) shut

    stays : record t { current = option_map (read_in b) t.current } ≡ t
    stays = (λ i. record t { current = option_map (read_in b) (shut i) })
        ∙ (λ i. record t { current = sym shut i })

    never : {A : Type 0} → is_some t.current ≡ true → A
    never o = let e : false ≡ true = ap (λ (o : Option SetOf). is_some o) (sym shut) ∙ o in cc

-- Between stations: a set that is open may end, and no set is of another name than these.
pub record IsReady (names : List (List ℕ)) (t : Tree) : Type 0 where
  pub ends : HasNone (tree_end_faults t)
  pub only : (name : List ℕ) → is_among names name ≡ false
      → is_used (Some name) (stations_in t) ≡ false

-- At a station of this name, after stations of those names, and before the set of this number.
pub record IsAt (names : List (List ℕ)) (name : List ℕ) (n : ℕ) (t : Tree) : Type 0 where
  pub ends : HasNone (tree_end_faults t)
  pub is_named : name_in t.code ≡ Some name
  pub first_time : is_used (Some name) t.older ≡ false
  pub only : (other : List ℕ) → is_among names other ≡ false
      → is_used (Some other) t.older ≡ false
  pub numbers : (k : ℕ) → n ≤ k → has_number (Some k) (sets_in t) ≡ false

pub among_last : (names : List (List ℕ)) (name other : List ℕ)
    → is_among (names ++ name ∷ []) other ≡ false
    → (is_among names other ≡ false) × (bytes_eq name other ≡ false)
among_last [] name other e = (refl, (or_parts (bytes_eq name other) false e).0)
among_last (n ∷ names) name other e =
    let p = or_parts (bytes_eq n other) (is_among (names ++ name ∷ []) other) e in
    let q = among_last names name other p.1 in
    (or_from (bytes_eq n other) (is_among names other) p.0 q.0, q.1)

-- After its sets a station is one of those that have been.
pub ready : (names : List (List ℕ)) (name : List ℕ) (n : ℕ) (t : Tree) → IsAt names name n t
    → IsReady (names ++ name ∷ []) t
ready names name n t at = record {
  ends = at.ends;
  only = λ other e. let p = among_last names name other e in
      by t.code at.is_named (sets_in t) t.older other p.1 (at.only other p.0);
} where
  by : (code : Option GsiBlock) → name_in code ≡ Some name → (sets : List SetOf)
      → (older : List StationOf) → (other : List ℕ) → bytes_eq name other ≡ false
      → is_used (Some other) older ≡ false
      → is_used (Some other) (with_station code sets older) ≡ false
  by None e sets older other f g = g
  by (Some b) e sets older other f g = or_from _ _
      (ap (λ (m : Option (List ℕ)). not (is_empty sets) && same_name m (Some other)) e
      ∙ ap (λ v. not (is_empty sets) && v) f ∙ never (not (is_empty sets))) g
    where
      never : (x : Bool) → (x && false) ≡ false
      never true = refl
      never false = refl

pub both : (os more : List (Option BookKind)) → HasNone os → HasNone more → HasNone (os ++ more)
both [] more a b = b
both (o ∷ os) more a b = (a.0, both os more a.1 b)

pub station_role : (b : GsiBlock) → opens_station b ≡ true → role_of b ≡ role.Station
station_role b e = by (role_of b) e where
  by : (r : Role) → is_station r ≡ true → r ≡ role.Station
  by role.Station t = refl
  by r t = cc

-- A block that closes a set has code 30.
pub close_role : (b : GsiBlock) → closes_set b ≡ true → role_of b ≡ role.Close
close_role b e = by (role_of b) e where
  by : (r : Role) → is_close r ≡ true → r ≡ role.Close
  by role.Close t = refl
  by r t = cc

named_once : (f : word.Found) (name : List ℕ) → name_found f ≡ Some name → is_absent f ≡ false
named_once founds.Absent name e = cc
named_once (founds.One w) name e = refl
named_once founds.Twice name e = cc

pub has_name : (b : GsiBlock) (name : List ℕ) → named b ≡ Some name
    → lacks CODE_INFORMATION b ≡ false
unfolding named lacks
has_name b name e = named_once (found_in_block CODE_INFORMATION b) name e

-- One set after the others of its station: it is found whole, and the next one may come.
pub one_set : (names : List (List ℕ)) (name : List ℕ) (n : ℕ) (t : Tree) (s : MarkedSet)
    → IsMarkedSet n s → IsAt names name n t
    → Walk t (blocks_of_set s) (in_set t s.code (reads [] s.blocks))
    (for_readings (Some (record { station = Some name; set = Some n })) s.blocks)
    × IsAt names name (suc n) (in_set t s.code (reads [] s.blocks))
one_set names name n t s set at =
    let rs = reads [] s.blocks in
    let first = none_read s.blocks set.whole in
    let u = in_set t s.code [] in
    let v = in_set t s.code rs in
    let f : Option Found = Some (record { station = Some name; set = Some n }) in
    let found : found_now u ≡ f =
    (λ i. Some (record { station = at.is_named i; set = set.numbered i })) in
    let opened : Walk t (s.code ∷ []) u [] =
    coded t s.code role.Set (set_role s.code set.opens) refl
    (both (tree_end_faults t) (code_set_faults t s.code) at.ends
    (also (ap (λ x. when x (kinds.WordTwice CODE_INFORMATION)) set.one_word)
    (also (ap (λ x. when x kinds.SetOutside) (inside t.code at.is_named))
    (also (ap (λ (k : Option ℕ). when (is_none k) kinds.SetNumber) set.numbered)
    (also (ap (λ (m : Option (List ℕ)). when (is_used m t.older) kinds.StationTwice) at.is_named
    ∙ ap (λ x. when x kinds.StationTwice) at.first_time)
    (also (ap (λ (k : Option ℕ). when (has_number k (sets_in t)) kinds.SetTwice) set.numbered
    ∙ ap (λ x. when x kinds.SetTwice) (at.numbers n (omega arith))) tt)))))) in
    let read : Walk u s.blocks v (for_readings f s.blocks) =
    subst (λ (g : Option Found). Walk u s.blocks v (for_readings g s.blocks)) found
    (over_set t s.code s.blocks [] s.blocks first set.uncoded) in (
      onward t u v (s.code ∷ []) s.blocks [] (for_readings f s.blocks) opened read,
      record {
        ends = may_end t s.code s.blocks rs set.whole (all_read s.blocks [] s.blocks first);
        is_named = at.is_named;
        first_time = at.first_time;
        only = at.only;
        numbers = λ k le. or_from _ _
            (ap (λ (m : Option ℕ). same_number m (Some k)) set.numbered
            ∙ ne_eqb n k (λ e. absurd (omega (arith, le, e))))
            (at.numbers k (omega (arith, le)));
      },
    )
  where
    also : {A B : Type 0} → A → B → A × B
    also a b = (a, b)

    inside : (o : Option GsiBlock) → name_in o ≡ Some name → is_none o ≡ false
    inside None e = cc
    inside (Some b) e = refl

-- A station of a new name begins.
pub one_station : (names : List (List ℕ)) (name : List ℕ) (t : Tree) (code : GsiBlock)
    → opens_station code ≡ true → has_two CODE_INFORMATION code ≡ false → named code ≡ Some name
    → is_among names name ≡ false → IsReady names t
    → Walk t (code ∷ []) (begun t code) [] × IsAt names name 1 (begun t code)
one_station names name t code opens one is_named new now = (
  coded t code role.Station (station_role code opens) refl
      (both (tree_end_faults t) (station_faults code) now.ends (
        ap (λ x. when x (kinds.WordTwice CODE_INFORMATION)) one,
        (ap (λ x. when x kinds.StationName) (has_name code name is_named), tt),
      )),
  record {
    ends = (refl, (refl, tt));
    is_named = is_named;
    first_time = now.only name new;
    only = now.only;
    numbers = λ k le. refl;
  },
)
