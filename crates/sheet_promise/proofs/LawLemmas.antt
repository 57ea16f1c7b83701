-- The lemmas of the laws, by the names of the laws.
use Rattle.std.proofs.Common.{◌≡◌, ℕ, true, false, Bool, cond, List, [], ◌∷◌, reverse, Option}
use Rattle.std.proofs.Common.{Some, None, Result, Ok, Err, refl, sym, ap, ◌∙◌, subst}
use Rattle.std.proofs.Common.{length, negsuc, arith}
use Rattle.std.specs.Prelude.{ℤ, pos, ◌≤ℤ◌, ◌*◌, unsigned_abs}
use Rattle.std.proofs.lemmas.Int.{ints}
use Rattle.std.proofs.lemmas.List.{length-map}
use Rattle.adjust_kernel.specs.Within.{IsWithin}
use Rattle.adjust_kernel.specs.Matching.{key_of_row, key_of_obs}
use Rattle.adjust_kernel.specs.declared.row.Row.{Row}
use Rattle.std.specs.Prelude.{IfOk}
use Rattle.std.specs.List.{AllZip}
use Rattle.byte_ends.specs.Input.{input_within, Ended, BrokeOff, RanPast}
use Rattle.byte_ends.specs.Source.{Told}
use Rattle.gsi_word.specs.Blocks.{GsiBlock, IsBlock}
use Rattle.gsi_word.proofs.LawLemmas.{one_block}
use Rattle.gsi_file.specs.FileAnswers.{answers_within, answers_by, first_break}
use Rattle.gsi_file.specs.Parts.{numbered_lines}
use Rattle.gsi_file.specs.declared.bounds.TheConstants.{LONGEST_FILE}
use Rattle.adjust_kernel.specs.Sheets.{SheetValue}
use Rattle.adjust_kernel.specs.declared.accepted.Accepted.{Accepted}
use Rattle.sheet_promise.specs.SheetRows.{AreOfSheet}
use Rattle.sheet_format.specs.declared.reading.TheConstants.{LONGEST_SHEET}
use Rattle.station_book.specs.Limits.{FaceLimits, AreLimits}
use Rattle.station_book.specs.Places.{Place}
use Rattle.station_book.specs.Stations.{IsSurveyed, AreStations, stations_of}
use Rattle.station_book.proofs.lists.Elements.{In, in_contains, zip_left}
use Rattle.station_check.specs.Accepted.{IsAccepted}
use Rattle.station_check.specs.declared.fault.Fault.{Fault}
use Rattle.adjust_kernel.specs.Pairs.{choice_stated_by}
use Rattle.adjust_kernel.specs.Promises.{IsAdjustedOverTurns}
use Rattle.adjust_kernel.specs.Verdict.{KeepsLimit, observations}
use Rattle.sheet_promise.specs.LeastByNames.{AreResidualsWithin, IsLeastOverAllTurns, residual_of_row, stated_in}
use Rattle.std.specs.Prelude.{IfSome}
use Rattle.sheet_promise.proofs.ByNames.{IsByPlaces, by_names, only_by_names, over_turns_by_names, within_by_names, size_by_names}
use Rattle.sheet_promise.proofs.PlacedRows.{IsItsStation, placed_rows}
use Rattle.sheet_promise.proofs.InOrder.{file_block, set_up_once, its_directions, some_named}
use Rattle.sheet_promise.proofs.PlacedStation.{only_set_up}
use Rattle.adjust_kernel.specs.Matching.{Key, keys_of}
use Rattle.std.specs.Prelude.{Contains}
use Rattle.sheet_promise.proofs.SheetRows.{of_sheet_text, one_sheet_of}
use Rattle.sheet_promise.proofs.SameObservations.{same_keys}
use Rattle.sheet_promise.specs.Readings.{FileBlock, IsSetUp}
use Rattle.sheet_promise.specs.Promised.{AreItsDirections, IsAnswerOn, IsPromised}

-- A file that comes to its end has its numbered lines.
lines_by : (most : ℕ) (bytes : List ℕ) (fails : Bool) (o : Option ℕ)
    → (answers_by most bytes fails o).last ≡ None
    → (answers_by most bytes fails o).lines ≡ numbered_lines bytes
lines_by most bytes fails (Some x) e = cc
lines_by most bytes true None e = cc
lines_by most bytes false None e = refl

lines_within : (most : ℕ) (bytes : List ℕ) (fails : Bool)
    → (answers_within most bytes fails).last ≡ None
    → (answers_within most bytes fails).lines ≡ numbered_lines bytes
unfolding answers_within
lines_within most bytes fails e = lines_by most bytes fails (first_break most bytes) e

-- A source that was read to its end gave its bytes.
ended_by : (v w : Bool) (given bytes : List ℕ)
    → cond v RanPast (cond w (BrokeOff given) (Ended given)) ≡ Ended bytes → given ≡ bytes
ended_by true w given bytes e = cc
ended_by false true given bytes e = cc
ended_by false false given bytes e = cc

bytes_are : (limit : ℕ) (t : Told) (bytes : List ℕ) → input_within limit t ≡ Ended bytes
    → t.bytes ≡ bytes
bytes_are limit t bytes e = ended_by _ _ t.bytes bytes e

-- What is accepted is promised.
pub acceptance_is_promised : (limits : FaceLimits) (limit : Option ℕ) (gsi source : Told)
    (a : Accepted) → AreLimits limits → IsAccepted limits limit gsi source a
    → IsPromised limits limit gsi.bytes source.bytes a
unfolding AreStations
acceptance_is_promised limits limit gsi source a small x = record {
  are_limits = small;
  blocks = reverse x.blocks;
  lines = subst (λ (ls : List (List ℕ)). AllZip IsBlock ls (reverse x.blocks))
      (lines_within LONGEST_FILE gsi.bytes gsi.fails x.ended) x.lines;
  sheet = x.sheet;
  states = subst (λ (bs : List ℕ). AreOfSheet bs x.sheet)
      (sym (bytes_are LONGEST_SHEET source x.states.bytes x.states.whole))
      (of_sheet_text x.states.bytes x.sheet x.states.states);
  setup = file_block own.0;
  its_station = set_up_once x.blocks x.sheet.name own.0
      (only_set_up limits x.blocks x.sheet.name own.0 its.stands);
  exactly = exactly;
  least = by_names x.sheet x.its.station by_places x.least;
  only = only_by_names x.sheet x.its.station by_places x.least x.unique;
  limited = if_kept limit x.limited;
  over_turns = if_over limit x.over_turns;
  answer = record {
    name = x.says.name ∙ x.named;
    sets = x.says.sets ∙ ap length (sym x.matches.sets)
        ∙ length-map x.sheet.orientations (λ o. o.set);
    targets = x.says.targets ∙ ap length (sym x.matches.targets)
        ∙ length-map x.sheet.directions (λ d. d.name);
    directions = x.says.directions
        ∙ sym (length-map x.its.station.obs
        (key_of_obs x.its.station.sets x.its.station.targets))
        ∙ ap length (sym x.matches.rows) ∙ length-map x.sheet.rows key_of_row;
    denominator = x.says.denominator;
    no_larger = within_by_names x.sheet x.its.station by_places a.greatest x.says.greatest.bound;
    as_large = size_by_names x.sheet x.its.station by_places a.greatest x.says.greatest.reached;
  };
} where
  own : (st : Place) × In st (stations_of x.blocks) × IsSurveyed limits x.blocks st x.its
  own = zip_left (IsSurveyed limits x.blocks) (stations_of x.blocks) x.stations x.surveyed x.its
      (in_contains x.its x.stations x.listed)

  its : IsItsStation limits x.blocks x.sheet own.0
  its = record {
    stations = x.stations;
    surveyed = x.surveyed;
    its = x.its;
    listed = x.listed;
    only = x.only;
    stands = record {
      whole = record { blocks = x.faultless; ending = x.closed };
      listed = own.1;
      has_name = own.2.name ∙ ap (λ (n : List ℕ). Some n) x.named;
    };
    here = own.2;
    targets = x.matches.targets;
    sets = x.matches.sets;
    rows = x.matches.rows;
    within = x.within;
  }

  exactly : AreItsDirections limits (reverse x.blocks) (file_block own.0) x.sheet
  exactly = its_directions x.blocks limits own.0 x.sheet
      (some_named own.0 x.sheet.name its.stands.has_name) x.states.states.sheet.rows.each
      (placed_rows limits x.blocks x.sheet own.0 its)

  by_places : IsByPlaces x.sheet x.its.station
  by_places = record {
    each = x.states.states.sheet.rows.each;
    once = record { targets = exactly.targets.different; sets = exactly.sets.different };
    targets = x.matches.targets;
    sets = x.matches.sets;
    rows = x.matches.rows;
  }

  if_kept : (o : Option ℕ) → IfSome o (KeepsLimit x.its.station x.sheet)
      → IfSome o (λ n. AreResidualsWithin (pos (n * x.sheet.denominator)) x.sheet)
  if_kept None kept = kept
  if_kept (Some n) kept = within_by_names x.sheet x.its.station by_places
      (pos (n * x.sheet.denominator)) kept

  if_over : (o : Option ℕ) → IfSome o (λ n.
      IsAdjustedOverTurns (choice_stated_by x.sheet) (observations x.its.station x.sheet))
      → IfSome o (λ n. IsLeastOverAllTurns x.sheet)
  if_over None kept = kept
  if_over (Some n) kept = over_turns_by_names x.sheet x.its.station by_places kept.least

-- So an answer that is accepted is promised.
pub promised_of : (limits : FaceLimits) (limit : Option ℕ) (gsi source : Told)
    (r : Result Accepted Fault) → AreLimits limits → IfOk r (IsAccepted limits limit gsi source)
    → IfOk r (IsPromised limits limit gsi.bytes source.bytes)
promised_of limits limit gsi source (Ok a) small x =
    acceptance_is_promised limits limit gsi source a small x
promised_of limits limit gsi source (Err fault) small x = tt

-- Lines are one list of blocks.
same_blocks : (lines : List (List ℕ)) (xs ys : List GsiBlock) → AllZip IsBlock lines xs
    → AllZip IsBlock lines ys → xs ≡ ys
same_blocks [] [] [] a b = refl
same_blocks [] (x ∷ xs) ys a b = absurd a
same_blocks [] [] (y ∷ ys) a b = absurd b
same_blocks (l ∷ lines) [] ys a b = absurd a
same_blocks (l ∷ lines) (x ∷ xs) [] a b = absurd b
same_blocks (l ∷ lines) (x ∷ xs) (y ∷ ys) a b =
    let head = one_block l x y a.0 b.0 in
    let rest = same_blocks lines xs ys a.1 b.1 in
    λ i. head i ∷ rest i

size_at_most : (z a b : ℤ) → pos (unsigned_abs z) ≡ a → IsWithin b z → a ≤ℤ b
size_at_most (pos m) a b e w = let h = w.high in omega (arith, ints, e, h)
size_at_most (negsuc m) a b e w = let l = w.low in omega (arith, ints, e, l)

greatest_at_most : (sheet : SheetValue) (a b : Accepted) → IsAnswerOn sheet a
    → IsAnswerOn sheet b → a.greatest ≤ℤ b.greatest
greatest_at_most sheet a b x y =
    let (k, r, inside, at, size) = x.as_large in
    size_at_most (residual_of_row (stated_in sheet) r) a.greatest b.greatest size
    (subst (λ (q : Row). IsWithin b.greatest (residual_of_row (stated_in sheet) q)) at
    (y.no_larger k r inside))

-- A sheet has one answer.
one_answer : (sheet : SheetValue) (a b : Accepted) → IsAnswerOn sheet a → IsAnswerOn sheet b
    → a ≡ b
one_answer sheet a b x y =
    let m = greatest_at_most sheet a b x y in
    let n = greatest_at_most sheet b a y x in
    let greatest : a.greatest ≡ b.greatest = omega (arith, ints, m, n) in
    let name = x.name ∙ sym y.name in
    let sets = x.sets ∙ sym y.sets in
    let targets = x.targets ∙ sym y.targets in
    let directions = x.directions ∙ sym y.directions in
    let denominator = x.denominator ∙ sym y.denominator in
    λ i. record {
      name = name i;
      sets = sets i;
      targets = targets i;
      directions = directions i;
      greatest = greatest i;
      denominator = denominator i;
    }

-- The promise of bytes is of one list of blocks, one sheet, one place and one answer.
pub one_promise : (limits : FaceLimits) (limit : Option ℕ) (gsi stated : List ℕ) (a b : Accepted)
    (p : IsPromised limits limit gsi stated a) (q : IsPromised limits limit gsi stated b)
    → (p.blocks ≡ q.blocks) × (p.sheet ≡ q.sheet) × (p.setup ≡ q.setup) × (a ≡ b)
one_promise limits limit gsi stated a b p q =
    let blocks = same_blocks (numbered_lines gsi) p.blocks q.blocks p.lines q.lines in
    let sheet = one_sheet_of stated p.sheet q.sheet p.states q.states in
    let here : IsSetUp q.blocks q.sheet.name p.setup =
    subst (λ (s : SheetValue). IsSetUp q.blocks s.name p.setup) sheet
    (subst (λ (bs : List GsiBlock). IsSetUp bs p.sheet.name p.setup) blocks p.its_station.is) in
    let own : IsAnswerOn q.sheet a = subst (λ (s : SheetValue). IsAnswerOn s a) sheet p.answer in
    (blocks, sheet, q.its_station.only p.setup here, one_answer q.sheet a b own q.answer)

-- Two sheets that are promised of one station of one field file state the same observations.
pub same_observations : (limits : FaceLimits) (limit some : Option ℕ) (gsi stated other : List ℕ)
    (a b : Accepted) (p : IsPromised limits limit gsi stated a)
    (q : IsPromised limits some gsi other b)
    → p.sheet.name ≡ q.sheet.name → (k : Key) → Contains (keys_of p.sheet) k
    → Contains (keys_of q.sheet) k
same_observations limits limit some gsi stated other a b p q name =
    let blocks = same_blocks (numbered_lines gsi) p.blocks q.blocks p.lines q.lines in
    let here : IsSetUp q.blocks q.sheet.name p.setup =
    subst (λ (n : List ℕ). IsSetUp q.blocks n p.setup) name
    (subst (λ (bs : List GsiBlock). IsSetUp bs p.sheet.name p.setup) blocks p.its_station.is) in
    let setup : p.setup ≡ q.setup = q.its_station.only p.setup here in
    let mine : AreItsDirections limits q.blocks q.setup p.sheet =
    subst (λ (f : FileBlock). AreItsDirections limits q.blocks f p.sheet) setup
    (subst (λ (bs : List GsiBlock). AreItsDirections limits bs p.setup p.sheet) blocks p.exactly) in
    same_keys limits p.are_limits q.blocks q.setup p.sheet q.sheet mine q.exactly
