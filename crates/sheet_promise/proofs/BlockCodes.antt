-- What a block begins with and what its words say, as the definitions of the check compute it and
-- as the promise says it.
use Rattle.std.proofs.Common.{◌≡◌, ◌≢◌, ℕ, Bool, true, false, cond, ◌&&◌, ◌||◌, not, eqb}
use Rattle.std.proofs.Common.{List, [], ◌∷◌, Option, Some, None, refl, ap, ◌∙◌, inl, inr}
use Rattle.std.specs.Prelude.{codes, nat_le, slice_get, ⊤}
use Rattle.std.specs.Str.{bytes_eq}
use Rattle.std.proofs.lemmas.Bool.{and_parts, and_from, or_cases, eqb-true, le-leb}
use Rattle.std.proofs.lemmas.Bool.{not-true, not_from_false, or_left, or_right}
use Rattle.std.proofs.lemmas.Slice.Eq.{bytes_eq-Decides}
use Rattle.gsi_word.specs.Angles.{decimal_number}
use Rattle.gsi_word.specs.Blocks.{GsiBlock}
use Rattle.gsi_word.specs.FoundWords.{words_with, found_among, is_absent}
use Rattle.gsi_word.specs.Names.{name_of}
use Rattle.gsi_word.specs.Words.{GsiWord}
use Rattle.gsi_word.specs.declared.index.TheConstants.{POINT_NUMBER, HORIZONTAL_DIRECTION}
use Rattle.gsi_word.specs.declared.index.TheConstants.{CODE_NUMBER, CODE_INFORMATION}
use Rattle.adjust_kernel.specs.declared.bounds.TheConstants.{LARGEST_SET_NUMBER}
use Rattle.adjust_kernel.specs.Sheets.{IsSetNumber}
use Rattle.station_book.specs.declared.role.Role.{Role}
use Rattle.station_book.specs.declared.role.Role.TheVariants as roles
use Rattle.station_book.specs.Blocks.{role_of, code_role, is_station, is_set_code, is_close}
use Rattle.station_book.specs.Blocks.{is_measurement, opens_station, opens_set, closes_set}
use Rattle.station_book.specs.Blocks.{is_opening, lacks, has_direction, name_of_first, target, named}
use Rattle.station_book.specs.Blocks.{name_found, number_of_name, within_numbers, number}
use Rattle.sheet_promise.specs.Readings.{BeginWith, OpensStation, OpensSet, EndsSet, Informs}

-- What words begin with that have this role.
abbrev BeginsAs : Role → List GsiWord → Type 0
BeginsAs roles.Station ws = BeginWith CODE_NUMBER (codes "10") ws
BeginsAs roles.Set ws = BeginWith CODE_NUMBER (codes "20") ws
BeginsAs roles.Close ws = BeginWith CODE_NUMBER (codes "30") ws
BeginsAs roles.Measurement ws = BeginWith POINT_NUMBER (name_of_first ws) ws
BeginsAs roles.Other ws = ⊤

code_begins : (w : GsiWord) (ws : List GsiWord) (a b c : Bool) → w.index ≡ CODE_NUMBER
    → bytes_eq (name_of w.content) (codes "10") ≡ a
    → bytes_eq (name_of w.content) (codes "20") ≡ b
    → bytes_eq (name_of w.content) (codes "30") ≡ c
    → BeginsAs (cond a roles.Station (cond b roles.Set (cond c roles.Close roles.Other))) (w ∷ ws)
code_begins w ws true b c i e f g = (i, (bytes_eq-Decides (name_of w.content) (codes "10")).0 e)
code_begins w ws false true c i e f g =
    (i, (bytes_eq-Decides (name_of w.content) (codes "20")).0 f)
code_begins w ws false false true i e f g =
    (i, (bytes_eq-Decides (name_of w.content) (codes "30")).0 g)
code_begins w ws false false false i e f g = tt

word_begins : (w : GsiWord) (ws : List GsiWord) (p c : Bool) → eqb w.index POINT_NUMBER ≡ p
    → eqb w.index CODE_NUMBER ≡ c
    → BeginsAs (cond p roles.Measurement (cond c (code_role (name_of w.content)) roles.Other))
    (w ∷ ws)
word_begins w ws true c e f = (eqb-true w.index POINT_NUMBER e, refl)
word_begins w ws false true e f =
    code_begins w ws _ _ _ (eqb-true w.index CODE_NUMBER f) refl refl refl
word_begins w ws false false e f = tt

-- A block begins as its role says.
begins : (b : GsiBlock) → BeginsAs (role_of b) b.words
unfolding role_of
begins b = by b.words where
  by : (ws : List GsiWord)
      → BeginsAs (Rattle.station_book.specs.Blocks.word_role (slice_get ws 0)) ws
  by [] = tt
  by (w ∷ ws) = word_begins w ws _ _ refl refl

-- And its role is as it begins.
code_is : (b : GsiBlock) (name : List ℕ) → BeginWith CODE_NUMBER name b.words
    → role_of b ≡ code_role name
unfolding role_of
code_is b name begin = by b.words begin where
  by : (ws : List GsiWord) → BeginWith CODE_NUMBER name ws
      → Rattle.station_book.specs.Blocks.word_role (slice_get ws 0) ≡ code_role name
  by [] begin = absurd begin
  by (w ∷ ws) (i, n) = rw (i, n) refl

measurement_is : (b : GsiBlock) (name : List ℕ) → BeginWith POINT_NUMBER name b.words
    → role_of b ≡ roles.Measurement
unfolding role_of
measurement_is b name begin = by b.words begin where
  by : (ws : List GsiWord) → BeginWith POINT_NUMBER name ws
      → Rattle.station_book.specs.Blocks.word_role (slice_get ws 0) ≡ roles.Measurement
  by [] begin = absurd begin
  by (w ∷ ws) (i, n) = rw i refl

role_station : (r : Role) (ws : List GsiWord) → BeginsAs r ws → is_station r ≡ true
    → BeginWith CODE_NUMBER (codes "10") ws
role_station roles.Station ws begin e = begin
role_station r ws begin e = cc

role_set : (r : Role) (ws : List GsiWord) → BeginsAs r ws → is_set_code r ≡ true
    → BeginWith CODE_NUMBER (codes "20") ws
role_set roles.Set ws begin e = begin
role_set r ws begin e = cc

role_close : (r : Role) (ws : List GsiWord) → BeginsAs r ws → is_close r ≡ true
    → BeginWith CODE_NUMBER (codes "30") ws
role_close roles.Close ws begin e = begin
role_close r ws begin e = cc

role_measurement : (r : Role) (ws : List GsiWord) → BeginsAs r ws → is_measurement r ≡ true
    → BeginWith POINT_NUMBER (name_of_first ws) ws
role_measurement roles.Measurement ws begin e = begin
role_measurement r ws begin e = cc

-- A test and what it stands for.
pub record Decides (p : GsiBlock → Bool) (P : GsiBlock → Type 0) : Type 0 where
  pub to : (b : GsiBlock) → p b ≡ true → P b
  pub from : (b : GsiBlock) → P b → p b ≡ true

pub station_decided : Decides opens_station OpensStation
station_decided = record {
  to = λ b e. role_station (role_of b) b.words (begins b) e;
  from = λ b begin. ap is_station (code_is b (codes "10") begin);
}

pub set_decided : Decides opens_set OpensSet
set_decided = record {
  to = λ b e. role_set (role_of b) b.words (begins b) e;
  from = λ b begin. ap is_set_code (code_is b (codes "20") begin);
}

pub end_decided : Decides is_opening EndsSet
end_decided = record {
  to = λ b e. elim (or_cases (opens_station b) (opens_set b || closes_set b) e) [
    | inl s ↦ inl (station_decided.to b s)
    | inr o ↦ elim (or_cases (opens_set b) (closes_set b) o) [
      | inl s ↦ inr (inl (set_decided.to b s))
      | inr c ↦ inr (inr (role_close (role_of b) b.words (begins b) c))
    ]
  ];
  from = λ b ends. elim ends [
    | inl s ↦ or_left (opens_station b) (opens_set b || closes_set b) (station_decided.from b s)
    | inr o ↦ or_right (opens_station b) (opens_set b || closes_set b) (elim o [
      | inl s ↦ or_left (opens_set b) (closes_set b) (set_decided.from b s)
      | inr c ↦ or_right (opens_set b) (closes_set b) (ap is_close (code_is b (codes "30") c))
    ])
  ];
}

-- A measurement with a direction begins with its target, and has a word for the direction.
pub record IsDirected (b : GsiBlock) (name : List ℕ) : Type 0 where
  pub of_target : BeginWith POINT_NUMBER name b.words
  pub directed : words_with HORIZONTAL_DIRECTION b.words ≢ []

not_none : (ws : List GsiWord) → is_absent (found_among ws) ≡ false → ws ≢ []
not_none [] e n = cc
not_none (w ∷ ws) e n = cc

some_found : (ws : List GsiWord) → ws ≢ [] → is_absent (found_among ws) ≡ false
some_found [] n = absurd (n refl)
some_found (w ∷ []) n = refl
some_found (w ∷ v ∷ ws) n = refl

pub directed : (b : GsiBlock) → has_direction b ≡ true → IsDirected b (target b)
unfolding lacks target
directed b e =
    let p = and_parts (is_measurement (role_of b)) (not (lacks HORIZONTAL_DIRECTION b)) e in
    record {
      of_target = role_measurement (role_of b) b.words (begins b) p.0;
      directed = not_none (words_with HORIZONTAL_DIRECTION b.words)
          (not-true (lacks HORIZONTAL_DIRECTION b) p.1);
    }

pub has_it : (b : GsiBlock) (name : List ℕ) → IsDirected b name → has_direction b ≡ true
unfolding lacks
has_it b name d =
    and_from (is_measurement (role_of b)) (not (lacks HORIZONTAL_DIRECTION b))
    (ap is_measurement (measurement_is b name d.of_target))
    (not_from_false (lacks HORIZONTAL_DIRECTION b)
    (some_found (words_with HORIZONTAL_DIRECTION b.words) d.directed))

pub target_is : (b : GsiBlock) (name : List ℕ) → BeginWith POINT_NUMBER name b.words
    → target b ≡ name
unfolding target
target_is b name begin = by b.words begin where
  by : (ws : List GsiWord) → BeginWith POINT_NUMBER name ws → name_of_first ws ≡ name
  by [] begin = absurd begin
  by (w ∷ ws) begin = begin.1

-- The name in the one word 42.
informs_by : (b : GsiBlock) (name : List ℕ) (ws : List GsiWord)
    → words_with CODE_INFORMATION b.words ≡ ws → name_found (found_among ws) ≡ Some name
    → Informs b name
informs_by b name [] e n = cc
informs_by b name (w ∷ []) e n = record { word = w; only = e; has_name = cc }
informs_by b name (w ∷ v ∷ ws) e n = cc

pub informs : (b : GsiBlock) (name : List ℕ) → named b ≡ Some name → Informs b name
unfolding named
informs b name e = informs_by b name (words_with CODE_INFORMATION b.words) refl e

pub named_is : (b : GsiBlock) (name : List ℕ) → Informs b name → named b ≡ Some name
unfolding named
named_is b name i =
    ap (λ (ws : List GsiWord). name_found (found_among ws)) i.only
    ∙ ap (λ (n : List ℕ). Some n) i.has_name

-- The number of a set is that of its name.
pub record HasNumber (b : GsiBlock) (n : ℕ) : Type 0 where
  pub name : List ℕ
  pub informs : Informs b name
  pub numbered : decimal_number name ≡ Some n

within_is : (o : Option ℕ) (n : ℕ) → within_numbers o ≡ Some n → o ≡ Some n
within_is None n e = cc
within_is (Some m) n e = by (nat_le 1 m && nat_le m LARGEST_SET_NUMBER) e where
  by : (v : Bool) → cond v (Some m) None ≡ Some n → Some m ≡ Some n
  by true e = e
  by false e = cc

numbered_by : (b : GsiBlock) (n : ℕ) (o : Option (List ℕ)) → named b ≡ o
    → number_of_name o ≡ Some n → HasNumber b n
numbered_by b n None e f = cc
numbered_by b n (Some name) e f = record {
  name = name;
  informs = informs b name e;
  numbered = within_is (decimal_number name) n f;
}

pub numbered : (b : GsiBlock) (n : ℕ) → number b ≡ Some n → HasNumber b n
unfolding number
numbered b n e = numbered_by b n (named b) refl e

pub number_is : (b : GsiBlock) (n : ℕ) → IsSetNumber n → HasNumber b n → number b ≡ Some n
unfolding number
number_is b n small h =
    ap number_of_name (named_is b h.name h.informs) ∙ ap within_numbers h.numbered
    ∙ ap (λ (v : Bool). cond v (Some n) None)
    (and_from (nat_le 1 n) (nat_le n LARGEST_SET_NUMBER) (le-leb 1 n small.0)
    (le-leb n LARGEST_SET_NUMBER small.1))
