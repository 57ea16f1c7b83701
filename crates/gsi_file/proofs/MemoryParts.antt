-- The parts of a file in memory are passed one by one: what is left after each.
use Rattle.std.proofs.Common.{◌≡◌, ℕ, zero, suc, ◌+◌, ◌*◌, ◌-◌, ◌<◌, ◌≤◌, Bool, true, false, cond}
use Rattle.std.proofs.Common.{List, [], ◌∷◌, ◌++◌, length, take, drop, Some, None, refl, sym, ap}
use Rattle.std.proofs.Common.{subst, ◌∙◌, arith, inl, inr, length-take, length-drop, drop-cons}
use Rattle.std.proofs.Common.{drop-drop, add-one}
use Rattle.std.specs.Prelude.{slice_index, Option, Result, Ok, Err}
use Rattle.std.proofs.lemmas.List.{take-append-drop, take-take, append-nil, get_or-drop}
use Rattle.std.proofs.lemmas.List.Elements.{All-nil, All-take}
use Rattle.std.proofs.lemmas.List.Splits.{slice_split_at, slice_split_none}
use Rattle.std.proofs.lemmas.Bool.{cases_lt}
use Rattle.byte_ends.specs.Source.{Told}
use Rattle.gsi_file.specs.declared.bounds.TheConstants.{LONGEST_FILE}
use Rattle.gsi_file.specs.declared.file_fault.FileKind.{FileKind}
use Rattle.gsi_file.specs.declared.file_fault.FileKind.TheVariants.{FileTooLong, LineTooLong}
use Rattle.gsi_file.specs.declared.rest.Part.{Part}
use Rattle.gsi_file.specs.declared.rest.Rest.{Rest}
use Rattle.gsi_file.specs.Parts.{parts, is_line, is_line_end, HasNoEnd}
use Rattle.gsi_file.specs.FileAnswers.{FileAnswers, answers_within}
use Rattle.gsi_file.specs.LinePlaces.{places_from, with_place}
use Rattle.gsi_file.specs.PartEnds.{EndsFirst}
use Rattle.gsi_file.specs.ToCome.{only}
use Rattle.gsi_file.specs.Passing.{with_line, answers_left, places_left, counted, MayFollow}
use Rattle.gsi_file.specs.Passing.{PassesPart, SameLeft, FindsPart}
use Rattle.gsi_file.proofs.FirstBytes.{answers_line, answers_end}
use Rattle.gsi_file.proofs.Finding.{IsUsedUp, file_too_long, line_too_long}

cut : (n : ℕ) (bytes : List ℕ) → n < length bytes
    → bytes ≡ take n bytes ++ slice_index bytes n ∷ drop (n + 1) bytes
cut n bytes lt =
    sym (take-append-drop n bytes)
    ∙ ap (λ (l : List ℕ). take n bytes ++ l) (drop-cons bytes n 0 lt
    ∙ ap (λ (k : ℕ). slice_index bytes n ∷ drop k bytes) (sym (add-one n)))

-- The byte right after an end ends an empty part.
next_is_first : (rest : List ℕ) (n : ℕ) → n + 1 < length rest
    → is_line_end (slice_index rest (n + 1)) ≡ true → EndsFirst (drop (n + 1) rest) 0
next_is_first rest n lt end = record {
  inside = omega (arith, length-drop (n + 1) rest, lt);
  before = All-nil (λ b. is_line_end b ≡ false);
  ends = ap is_line_end (get_or-drop (n + 1) rest 0 0
      ∙ ap (λ (k : ℕ). slice_index rest k) (omega arith)) ∙ end;
}

-- A part that a byte ends.
over_end : (left n : ℕ) (rest : List ℕ) (fails : Bool) → EndsFirst rest n → n ≤ 1024 → n < left
    → answers_within left rest fails
    ≡ with_line (take n rest) (answers_within (left - (n + 1)) (drop (n + 1) rest) fails)
over_end left n rest fails first short lt =
    let inside = first.inside in
    let size : length (take n rest) ≡ n = omega (arith, length-take n rest, inside) in
    ap (λ (l : List ℕ). answers_within left l fails) (cut n rest inside)
    ∙ answers_line left (take n rest) (slice_index rest n) (drop (n + 1) rest) fails first.before
    first.ends (omega (arith, size, short)) (omega (arith, size, lt))
    ∙ ap (λ (k : ℕ). with_line (take n rest)
    (answers_within (left - (k + 1)) (drop (n + 1) rest) fails)) size

-- The same, where it is used up.
over_part : (left n used : ℕ) (rest : List ℕ) (fails : Bool) → EndsFirst rest n → n ≤ 1024
    → n < left → IsUsedUp n used rest → used ≤ length rest → used ≤ left
    → answers_within left rest fails
    ≡ with_line (take n rest) (answers_within (left - used) (drop used rest) fails)
over_part left n used rest fails first short lt (inl one) inside fits =
    over_end left n rest fails first short lt
    ∙ ap (λ (k : ℕ). with_line (take n rest)
    (answers_within (left - k) (drop k rest) fails)) (sym one)
over_part left n used rest fails first short lt (inr two) inside fits =
    let e = two.0 in
    let next = next_is_first rest n (omega (arith, e, inside)) two.1 in
    over_end left n rest fails first short lt
    ∙ ap (λ (a : FileAnswers). with_line (take n rest) a)
    (over_end (left - (n + 1)) 0 (drop (n + 1) rest) fails next (omega arith)
    (omega (arith, e, fits))
    ∙ ap (λ (l : List ℕ). answers_within (left - (n + 1) - (0 + 1)) l fails)
    (drop-drop (0 + 1) (n + 1) rest)
    ∙ ap (λ (k : ℕ). answers_within k (drop (n + 1 + (0 + 1)) rest) fails) (omega (arith, e, fits))
    ∙ ap (λ (k : ℕ). answers_within (left - used) (drop k rest) fails) (omega (arith, e)))

-- What is to come after a part.
pub answers_passed : (at n used : ℕ) (rest next : List ℕ) (fails : Bool) → next ≡ drop used rest
    → EndsFirst rest n → n ≤ 1024 → n < LONGEST_FILE - at → IsUsedUp n used rest
    → used ≤ length rest → used ≤ LONGEST_FILE - at
    → answers_within (LONGEST_FILE - at) rest fails
    ≡ with_line (take n rest) (answers_within (LONGEST_FILE - (at + used)) next fails)
answers_passed at n used rest next fails is first short lt up inside fits =
    over_part (LONGEST_FILE - at) n used rest fails first short lt up inside fits
    ∙ ap (λ (k : ℕ). with_line (take n rest) (answers_within k (drop used rest) fails))
    (omega arith)
    ∙ ap (λ (l : List ℕ). with_line (take n rest)
    (answers_within (LONGEST_FILE - (at + used)) l fails)) (sym is)

-- The places of the lines from a part on.
from_end : (at n : ℕ) (rest : List ℕ) → EndsFirst rest n → places_from at (parts rest)
    ≡ with_place (is_line (take n rest)) at (places_from (at + (n + 1)) (parts (drop (n + 1) rest)))
from_end at n rest first =
    let size : at + length (take n rest) + 1 ≡ at + (n + 1) =
    (let inside = first.inside in omega (arith, length-take n rest, inside)) in
    ap (λ (l : List ℕ). places_from at (parts l)) (cut n rest first.inside)
    ∙ ap (λ (ps : List (List ℕ)). places_from at ps)
    (slice_split_at is_line_end (take n rest) (slice_index rest n) (drop (n + 1) rest) first.before
    first.ends)
    ∙ ap (λ (k : ℕ). with_place (is_line (take n rest)) at
    (places_from k (parts (drop (n + 1) rest)))) size

from_part : (at n used : ℕ) (rest : List ℕ) → EndsFirst rest n → IsUsedUp n used rest
    → used ≤ length rest → places_from at (parts rest)
    ≡ with_place (is_line (take n rest)) at (places_from (at + used) (parts (drop used rest)))
from_part at n used rest first (inl one) inside =
    from_end at n rest first
    ∙ ap (λ (k : ℕ). with_place (is_line (take n rest)) at
    (places_from (at + k) (parts (drop k rest)))) (sym one)
from_part at n used rest first (inr two) inside =
    let e = two.0 in
    let next = next_is_first rest n (omega (arith, e, inside)) two.1 in
    from_end at n rest first
    ∙ ap (λ (l : List ℕ). with_place (is_line (take n rest)) at l)
    (from_end (at + (n + 1)) 0 (drop (n + 1) rest) next
    ∙ ap (λ (l : List ℕ). places_from (at + (n + 1) + (0 + 1)) (parts l))
    (drop-drop (0 + 1) (n + 1) rest)
    ∙ ap (λ (k : ℕ). places_from k (parts (drop (n + 1 + (0 + 1)) rest))) (omega (arith, e))
    ∙ ap (λ (k : ℕ). places_from (at + used) (parts (drop k rest))) (omega (arith, e)))

-- The places after a part.
pub places_passed : (at n used : ℕ) (rest next : List ℕ) → next ≡ drop used rest
    → EndsFirst rest n → IsUsedUp n used rest → used ≤ length rest
    → places_from at (parts rest)
    ≡ with_place (is_line (take n rest)) at (places_from (at + used) (parts next))
places_passed at n used rest next is first up inside =
    from_part at n used rest first up inside
    ∙ ap (λ (l : List ℕ). with_place (is_line (take n rest)) at
    (places_from (at + used) (parts l))) (sym is)

-- A line has a byte.
some_byte : (n : ℕ) (rest : List ℕ) → is_line (take n rest) ≡ true → 0 < n
some_byte zero rest e = let f : false ≡ true = e in cc
some_byte (suc n) rest e = omega arith

-- A line takes two bytes, or all that are left.
count_by : (b : Bool) (count at used size more : ℕ) → (b ≡ true → 2 ≤ used) → 1 ≤ size
    → (2 * count ≤ at + 1) × (1 ≤ size → 2 * count ≤ at)
    → (2 * counted b count ≤ at + used + 1) × (1 ≤ more → 2 * counted b count ≤ at + used)
count_by true count at used size more two some few =
    let low = few.1 some in
    let long = two refl in (omega (arith, low, long), λ _. omega (arith, low, long))
count_by false count at used size more two some few =
    let low = few.1 some in (omega (arith, low), λ _. omega (arith, low))

pub count_passed : (count at n used more : ℕ) (rest : List ℕ) → n < length rest → n < used
    → (2 * count ≤ at + 1) × (1 ≤ length rest → 2 * count ≤ at)
    → (2 * counted (is_line (take n rest)) count ≤ at + used + 1)
    × (1 ≤ more → 2 * counted (is_line (take n rest)) count ≤ at + used)
count_passed count at n used more rest inside lt few =
    count_by (is_line (take n rest)) count at used (length rest) more
    (λ line. let some = some_byte n rest line in omega (arith, some, lt)) (omega (arith, inside))
    few

-- A last part takes a byte, where it is a line.
last_by : (b : Bool) (count at size : ℕ) → (b ≡ true → 1 ≤ size)
    → (2 * count ≤ at + 1) × (1 ≤ size → 2 * count ≤ at)
    → (2 * counted b count ≤ at + size + 1) × (1 ≤ 0 → 2 * counted b count ≤ at + size)
last_by true count at size line few =
    let some = line refl in
    let low = few.1 some in (omega (arith, low, some), λ none. absurd (omega (arith, none)))
last_by false count at size line few =
    let low = few.0 in (omega (arith, low), λ none. absurd (omega (arith, none)))

byte_of : (part : List ℕ) → is_line part ≡ true → 1 ≤ length part
byte_of [] e = let f : false ≡ true = e in cc
byte_of (b ∷ part) e = omega arith

pub count_last : (count at : ℕ) (rest : List ℕ)
    → (2 * count ≤ at + 1) × (1 ≤ length rest → 2 * count ≤ at)
    → (2 * counted (is_line rest) count ≤ at + length rest + 1)
    × (1 ≤ 0 → 2 * counted (is_line rest) count ≤ at + length rest)
count_last count at rest few =
    last_by (is_line rest) count at (length rest) (byte_of rest) few

-- Of no bytes nothing comes.
pub none_left : (at : ℕ) (fails : Bool) → fails ≡ false
    → answers_within (LONGEST_FILE - at) [] fails ≡ only None
none_left at fails ends =
    ap (λ (f : Bool). answers_within (LONGEST_FILE - at) [] f) ends
    ∙ answers_end (LONGEST_FILE - at) [] (All-nil (λ b. is_line_end b ≡ false)) (omega arith)
    (omega arith)

-- The last part, which the end of the file ends, and nothing after it.
pub answers_last : (at : ℕ) (rest : List ℕ) (fails : Bool) → fails ≡ false → HasNoEnd rest
    → length rest ≤ 1024 → length rest ≤ LONGEST_FILE - at
    → answers_within (LONGEST_FILE - at) rest fails
    ≡ with_line rest (answers_within (LONGEST_FILE - (at + length rest)) [] fails)
answers_last at rest fails ends plain short fits =
    ap (λ (f : Bool). answers_within (LONGEST_FILE - at) rest f) ends
    ∙ answers_end (LONGEST_FILE - at) rest plain short fits
    ∙ ap (λ (a : FileAnswers). with_line rest a) (sym (none_left (at + length rest) fails ends))

pub places_last : (at next : ℕ) (rest : List ℕ) → HasNoEnd rest
    → places_from at (parts rest)
    ≡ with_place (is_line rest) at (places_from next (parts []))
places_last at next rest plain = ap (λ (ps : List (List ℕ)). places_from at ps)
    (slice_split_none is_line_end rest plain)

-- A limit is broken.
abbrev told : Bool → Told
told fails = record { bytes = []; fails = fails }

plain_before : (k n : ℕ) (rest : List ℕ) → k ≤ n → HasNoEnd (take n rest)
    → HasNoEnd (take k rest)
plain_before k n rest le plain = subst (λ (l : List ℕ). HasNoEnd l) (take-take k n rest le)
    (All-take (λ b. is_line_end b ≡ false) k (take n rest) plain)

breaks_file : (left n : ℕ) (rest : List ℕ) (fails : Bool) → HasNoEnd (take n rest)
    → left ≤ n → left < length rest → left ≤ 1024
    → answers_within left rest fails ≡ only (Some FileTooLong)
breaks_file left n rest fails plain low lt short =
    ap (λ (l : List ℕ). answers_within left l fails) (sym (append-nil rest))
    ∙ file_too_long (told fails) (told fails) left rest left left rest lt refl (record {
      short = short;
      inside = omega arith;
      fits = omega arith;
      most = omega arith;
      plain = plain_before left n rest low plain;
    }) refl

breaks_line : (left n : ℕ) (rest : List ℕ) (fails : Bool) → HasNoEnd (take n rest)
    → n ≤ length rest → 1024 < n → 1024 < left
    → answers_within left rest fails ≡ only (Some LineTooLong)
breaks_line left n rest fails plain inside low lt =
    ap (λ (l : List ℕ). answers_within left l fails) (sym (append-nil rest))
    ∙ line_too_long (told fails) (told fails) left rest left 1025 rest (omega arith) (omega arith)
    (omega arith) (plain_before 1025 n rest (omega arith) plain) refl

-- Where a part is longer than a line, or than what may be taken, the file's or the line's limit is
-- broken.
pub broken : (left n : ℕ) (rest : List ℕ) (fails : Bool) (kind : FileKind)
    → HasNoEnd (take n rest) → n ≤ length rest → (left ≤ 1024 → left ≤ n)
    → (1024 < left → 1024 < n) → (left ≤ 1024 → left < length rest)
    → (left ≤ 1024 → kind ≡ FileTooLong) → (1024 < left → kind ≡ LineTooLong)
    → answers_within left rest fails ≡ only (Some kind)
broken left n rest fails kind plain inside low high past of_file of_line =
    elim (cases_lt 1024 left) [
      | inl long ↦ breaks_line left n rest fails plain inside (high long) long
          ∙ ap (λ (k : FileKind). only (Some k)) (sym (of_line long))
      | inr short ↦ breaks_file left n rest fails plain (low short) (past short) short
          ∙ ap (λ (k : FileKind). only (Some k)) (sym (of_file short))
    ]

-- Before anything was passed.
pub same_left : (r : Rest) → SameLeft r r
same_left r = record { answers = refl; places = refl; counts = λ count h. h }

-- After parts that were blank nothing has come.
same_then : (first old new : Rest) → SameLeft first old → SameLeft old new → SameLeft first new
same_then first old new same then = record {
  answers = same.answers ∙ then.answers;
  places = same.places ∙ then.places;
  counts = λ count h. then.counts count (same.counts count h);
}

-- A part after others that were blank.
pub passes_after : (first old new : Rest) (part : Part) → SameLeft first old
    → PassesPart old part new → PassesPart first part new
passes_after first old new part same passes = record {
  answers = same.answers ∙ passes.answers;
  places = same.places ∙ passes.places;
  counts = λ count h. passes.counts count (same.counts count h);
  tested = passes.tested;
}

-- A part that is blank.
pub blank_passed : (first old new : Rest) (part : Part) → SameLeft first old
    → PassesPart old part new → is_line part.bytes.now ≡ false → SameLeft first new
blank_passed first old new part same passes blank =
    let after = passes_after first old new part same passes in record {
      answers = after.answers ∙ ap (λ (b : Bool). record {
        lines = cond b (part.bytes.now ∷ (answers_left new).lines) (answers_left new).lines;
        last = (answers_left new).last;
      }) blank;
      places = after.places
          ∙ ap (λ (b : Bool). with_place b part.place (places_left new)) blank;
      counts = λ count h. subst (λ (b : Bool). MayFollow (counted b count) new) blank
          (after.counts count h);
    }

-- What is found after them.
pub finds_after : (first old new : Rest) (found : Result (Option Part) FileKind)
    → SameLeft first old → FindsPart old found new → FindsPart first found new
finds_after first old new (Ok (Some part)) same finds =
    (finds.0, passes_after first old new part same finds.1)
finds_after first old new (Ok None) same finds =
    (same_then first old new same finds.0, finds.1)
finds_after first old new (Err kind) same finds =
    (same_then first old new same finds.0, finds.1)

-- One line more may have come after a part that is one.
pub one_more : (count : ℕ) (old new : Rest) (part : Part) → is_line part.bytes.now ≡ true
    → PassesPart old part new → MayFollow count old → MayFollow (count + 1) new
one_more count old new part line passes few =
    subst (λ (b : Bool). MayFollow (counted b count) new) line (passes.counts count few)

pub one_fewer : (count : ℕ) (r : Rest) → MayFollow (count + 1) r → MayFollow count r
one_fewer count r few =
    let most = few.0 in
    (omega (arith, most), λ some. let ended = few.1 some in omega (arith, ended))
