-- The blocks of a file are read one by one.
use Rattle.std.proofs.Common.{◌≡◌, ℕ, ◌+◌, Bool, true, false, List, [], ◌∷◌, ◌++◌, length, Option}
use Rattle.std.proofs.Common.{Some, None, refl, sym, ap, subst, ◌∙◌, arith, append_assoc, reverse}
use Rattle.std.specs.Prelude.{IfSome, if◌then◌else◌, ◌&&◌, is_some, Err}
use Rattle.std.specs.List.{AllZip}
use Rattle.std.specs.Option.{option_map}
use Rattle.std.proofs.lemmas.List.{append-nil, reverse-append}
use Rattle.gsi_word.specs.Blocks.{GsiBlock, IsBlock}
use Rattle.gsi_file.specs.FileAnswers.{FileAnswers, line_before}
use Rattle.gsi_file.specs.ToCome.{ToCome, Answers, GivesLine, GivesEnd, GivesFault, FaultIsNext}
use Rattle.gsi_file.specs.ToCome.{only, TakesLine}
use Rattle.gsi_file.specs.declared.file_fault.FileFault.{FileFault}
use Rattle.gsi_file.specs.declared.file_fault.FileFault.TheVariants as file
use Rattle.gsi_file.specs.declared.file_fault.FileKind.{FileKind}
use Rattle.station_book.specs.declared.fault.BookKind.{BookKind}
use Rattle.station_book.specs.declared.fault.BookKind.TheVariants as book
use Rattle.station_book.specs.declared.role.Role.{Role}
use Rattle.station_book.specs.declared.role.Role.TheVariants.{Station, Set, Close, Measurement}
use Rattle.station_book.specs.declared.role.Role.TheVariants.{Other}
use Rattle.station_book.specs.Blocks.{role_of, lacks}
use Rattle.station_book.specs.Faults.{first_of}
use Rattle.station_book.specs.Places.{History, is_empty}
use Rattle.station_book.specs.Readings.{own_faults}
use Rattle.job_statements.specs.declared.beginnings.Beginnings.{Beginnings}
use Rattle.set_marks.specs.declared.fault.MarkFault.{MarkFault}
use Rattle.set_marks.specs.declared.fault.MarkFault.TheVariants.{File, Reading, At, Memory}
use Rattle.set_marks.specs.declared.fault.MarkKind.TheVariants as kinds
use Rattle.set_marks.specs.declared.readings.Readings.{Readings}
use Rattle.job_statements.specs.Numbers.{Said}
use Rattle.set_marks.specs.Stations.{SetUp, begun, begins_named, is_two_lines, reading_fault}
use Rattle.set_marks.specs.Stations.{set_up_fault, fault_as, block_fault, own_fault, has_code}
use Rattle.set_marks.specs.Stations.{fault_of_blocks}
use Rattle.set_marks.specs.Keeping.{Adds, Keeps, AreReadings, AnswersReadings, begun_in}
use Rattle.set_marks.specs.Markings.{AreBlocks, IsFileFault}
use Rattle.set_marks.proofs.EndedStations.{keeps_open, keeps_next}

-- The lines of a file up to some place are blocks, and this is kept of them, or is the fault of the
-- first that has one by itself.
pub record AreTaken (beginnings : Beginnings) (stated : Said) (first : FileAnswers)
    (t : ToCome) (r : Readings) (fault : Option MarkFault) : Type 0 where
  pub h : History
  pub done : List (List ℕ)
  pub left : FileAnswers
  pub here : t.answers ≡ Some left
  pub split : first ≡ record { lines = done ++ left.lines; last = left.last }
  pub each : AllZip IsBlock done (reverse h)
  pub number : t.number ≡ length h
  pub fault_is : fault ≡ fault_of_blocks beginnings h
  pub kept : fault ≡ None → Keeps beginnings stated h r

-- Before the first line.
pub none_taken : (beginnings : Beginnings) (stated : Said) (first : FileAnswers) (t : ToCome)
    (r : Readings)
    → t.answers ≡ Some first → t.number ≡ 0 → Keeps beginnings stated [] r
    → AreTaken beginnings stated first t r None
none_taken beginnings stated first t r here number kept = record {
  h = [];
  done = [];
  left = first;
  here = here;
  split = refl;
  each = tt;
  number = number;
  fault_is = refl;
  kept = λ e. kept;
}

-- What is to come after a line.
after_line : (left : FileAnswers) (o : Option FileAnswers) (line : List ℕ)
    → TakesLine (Some left) o line
    → (next : FileAnswers) × (o ≡ Some next) × (left ≡ line_before line next)
after_line left None line e = absurd e
after_line left (Some next) line e = (next, refl, e)

-- Only whether a station has begun counts for the fault of a reading.
same_reading_fault : (ss ts : List SetUp) (number : ℕ) (b : GsiBlock) → is_empty ss ≡ is_empty ts
    → reading_fault ss number b ≡ reading_fault ts number b
same_reading_fault [] [] number b e = refl
same_reading_fault [] (t ∷ ts) number b e = cc
same_reading_fault (s ∷ ss) [] number b e = cc
same_reading_fault (s ∷ ss) (t ∷ ts) number b e = refl

same_fault : (role : Role) (beginnings : Beginnings) (ss ts : List SetUp) (number : ℕ)
    (b : GsiBlock) → is_empty ss ≡ is_empty ts
    → fault_as role beginnings ss number b ≡ fault_as role beginnings ts number b
same_fault Station beginnings ss ts number b e = refl
same_fault Set beginnings ss ts number b e = refl
same_fault Close beginnings ss ts number b e = refl
same_fault Other beginnings ss ts number b e = refl
same_fault Measurement beginnings ss ts number b e =
    ap (λ (o : Option MarkFault). if lacks 21 b then set_up_fault beginnings number b else o)
    (same_reading_fault ss ts number b e)

same_block_fault : (beginnings : Beginnings) (ss ts : List SetUp) (number : ℕ) (b : GsiBlock)
    → is_empty ss ≡ is_empty ts
    → block_fault beginnings ss number b ≡ block_fault beginnings ts number b
same_block_fault beginnings ss ts number b e =
    ap (λ (o : Option MarkFault). if is_two_lines b then Some (At number kinds.TwoLines) else o)
    (same_fault (role_of b) beginnings ss ts number b e)

-- The fault, whatever was kept where there was one already.
next_fault : (beginnings : Beginnings) (stated : Said) (h : History) (r : Readings)
    (b : GsiBlock) (number : ℕ)
    (f : Option MarkFault) → f ≡ fault_of_blocks beginnings h
    → (f ≡ None → Keeps beginnings stated h r)
    → number ≡ length h + 1
    → first_of (f ∷ block_fault beginnings (begun_in r.station) number b ∷ [])
    ≡ fault_of_blocks beginnings (b ∷ h)
next_fault beginnings stated h r b number (Some e) is kept counted =
    ap (λ o. first_of (o ∷ own_fault beginnings h b ∷ [])) is
next_fault beginnings stated h r b number None is kept counted =
    let k = keeps_open beginnings stated h r (kept refl) in
    rw (
      same_block_fault beginnings (begun_in r.station) (begun beginnings h) number b k,
      counted,
    ) (ap (λ o. first_of (o ∷ own_fault beginnings h b ∷ [])) is)

-- The fault before is none, where there is none after it.
none_before : (f g : Option MarkFault) → first_of (f ∷ g ∷ []) ≡ None → f ≡ None
none_before None g e = refl
none_before (Some x) g e = cc

abbrev with_lines : List (List ℕ) → Option FileKind → FileAnswers
with_lines lines last = record { lines = lines; last = last }

-- One more of each of two lists.
one_more : {A B : Type 0} (R : A → B → Type 0) (xs : List A) (ys : List B) (x : A) (y : B)
    → AllZip R xs ys → R x y → AllZip R (xs ++ x ∷ []) (ys ++ y ∷ [])
one_more R [] [] x y h r = (r, tt)
one_more R [] (b ∷ ys) x y h r = absurd h
one_more R (a ∷ xs) [] x y h r = absurd h
one_more R (a ∷ xs) (b ∷ ys) x y h r = (h.0, one_more R xs ys x y h.1 r)

-- One line more.
pub line_taken : (beginnings : Beginnings) (stated : Said) (first : FileAnswers) (t t' : ToCome)
    (r r' : Readings)
    (f f' : Option MarkFault) (number : ℕ) (b : GsiBlock)
    → AreTaken beginnings stated first t r f → GivesLine t t' number b
    → f' ≡ first_of (f ∷ block_fault beginnings (begun_in r.station) number b ∷ [])
    → (f' ≡ None → Adds beginnings b number r r')
    → AreTaken beginnings stated first t' r' f'
line_taken beginnings stated first t t' r r' f f' number b taken gives is adds =
    let counted : number ≡ length taken.h + 1 = gives.counted ∙ ap (λ n. n + 1) taken.number in
    let takes : TakesLine (Some taken.left) t'.answers gives.line =
    subst (λ (o : Option FileAnswers). TakesLine o t'.answers gives.line) taken.here gives.takes in
    let next = after_line taken.left t'.answers gives.line takes in
    record {
      h = b ∷ taken.h;
      done = taken.done ++ gives.line ∷ [];
      left = next.0;
      here = next.1;
      split = taken.split ∙ ap (λ (a : FileAnswers). with_lines (taken.done ++ a.lines) a.last)
          next.2
          ∙ ap (λ (l : List (List ℕ)). with_lines l next.0.last)
          (sym (append_assoc taken.done (gives.line ∷ []) next.0.lines));
      each = subst (λ (l : List GsiBlock). AllZip IsBlock (taken.done ++ gives.line ∷ []) l)
          (sym (reverse-append (b ∷ []) taken.h))
          (one_more IsBlock taken.done (reverse taken.h) gives.line b taken.each gives.is_block);
      number = gives.after ∙ counted ∙ omega arith;
      fault_is = is ∙ next_fault beginnings stated taken.h r b number f taken.fault_is taken.kept
          counted;
      kept = λ e. keeps_next beginnings stated taken.h b r r' (taken.kept (none_before f _
          (sym is ∙ e)))
          (subst (λ n. Adds beginnings b n r r') counted (adds e));
    }

-- At the end of the file.
are_blocks : (beginnings : Beginnings) (stated : Said) (first : FileAnswers) (t t' : ToCome)
    (r : Readings)
    (f : Option MarkFault) (taken : AreTaken beginnings stated first t r f) → GivesEnd t t'
    → AreBlocks first taken.h
are_blocks beginnings stated first t t' r f taken end =
    let over : taken.left ≡ only None =
    subst (λ (o : Option FileAnswers). IfSome o (λ a. a ≡ only None)) taken.here end.here in
    let whole : first.lines ≡ taken.done = ap (λ (a : FileAnswers). a.lines) taken.split
    ∙ ap (λ (a : FileAnswers). taken.done ++ a.lines) over ∙ append-nil taken.done in
    record {
      ended = ap (λ (a : FileAnswers). a.last) taken.split ∙ ap (λ (a : FileAnswers). a.last) over;
      each = subst (λ (l : List (List ℕ)). AllZip IsBlock l (reverse taken.h)) (sym whole)
          taken.each;
    }

pub all_taken : (beginnings : Beginnings) (stated : Said) (first : FileAnswers) (t t' : ToCome)
    (r : Readings)
    → AreTaken beginnings stated first t r None → GivesEnd t t'
    → AreReadings beginnings stated first r
all_taken beginnings stated first t t' r taken end = record {
  blocks = taken.h;
  are_blocks = are_blocks beginnings stated first t t' r None taken end;
  clean = sym taken.fault_is;
  kept = taken.kept refl;
}

-- A reading's fault is none of a line.
no_file_fault_of_reading : (ss : List SetUp) (number : ℕ) (b : GsiBlock) (x : FileFault)
    → reading_fault ss number b ≡ Some (File x) → ⊥
no_file_fault_of_reading [] number b x e = cc
no_file_fault_of_reading (s ∷ ss) number b x e = by (first_of (own_faults b)) e where
  by : (o : Option BookKind) → option_map (Reading number) o ≡ Some (File x) → ⊥
  by None f = cc
  by (Some k) f = cc

no_file_fault_of_set_up : (beginnings : Beginnings) (number : ℕ) (b : GsiBlock) (x : FileFault)
    → set_up_fault beginnings number b ≡ Some (File x) → ⊥
no_file_fault_of_set_up beginnings number b x e =
    by (is_some beginnings.station && is_some (begins_named beginnings b)) e where
      by : (t : Bool) → (if t then Some (At number kinds.HasSetUp) else None) ≡ Some (File x) → ⊥
      by true f = cc
      by false f = cc

no_file_fault_as : (role : Role) (beginnings : Beginnings) (ss : List SetUp) (number : ℕ)
    (b : GsiBlock) (x : FileFault) → fault_as role beginnings ss number b ≡ Some (File x) → ⊥
no_file_fault_as Station beginnings ss number b x e = cc
no_file_fault_as Set beginnings ss number b x e = cc
no_file_fault_as Close beginnings ss number b x e = cc
no_file_fault_as Other beginnings ss number b x e =
    by (has_code beginnings.code b && lacks 42 b) e where
      by : (t : Bool) → (if t then Some (Reading number book.StationName)
          else set_up_fault beginnings number b) ≡ Some (File x) → ⊥
      by true f = cc
      by false f = no_file_fault_of_set_up beginnings number b x f
no_file_fault_as Measurement beginnings ss number b x e = by (lacks 21 b) e where
  by : (l : Bool) → (if l then set_up_fault beginnings number b
      else reading_fault ss number b) ≡ Some (File x) → ⊥
  by true f = no_file_fault_of_set_up beginnings number b x f
  by false f = no_file_fault_of_reading ss number b x f

no_file_fault_of_block : (beginnings : Beginnings) (ss : List SetUp) (number : ℕ) (b : GsiBlock)
    (x : FileFault) → block_fault beginnings ss number b ≡ Some (File x) → ⊥
no_file_fault_of_block beginnings ss number b x e = by (is_two_lines b) e where
  by : (two : Bool) → (if two then Some (At number kinds.TwoLines)
      else fault_as (role_of b) beginnings ss number b) ≡ Some (File x) → ⊥
  by true f = cc
  by false f = no_file_fault_as (role_of b) beginnings ss number b x f

no_file_fault_first : (a b : Option MarkFault) (x : FileFault) → (a ≡ Some (File x) → ⊥)
    → (b ≡ Some (File x) → ⊥) → first_of (a ∷ b ∷ []) ≡ Some (File x) → ⊥
no_file_fault_first None None x f g e = cc
no_file_fault_first None (Some y) x f g e = g e
no_file_fault_first (Some y) b x f g e = f e

no_file_fault : (beginnings : Beginnings) (h : History) (x : FileFault)
    → fault_of_blocks beginnings h ≡ Some (File x) → ⊥
no_file_fault beginnings [] x e = cc
no_file_fault beginnings (b ∷ h) x e = no_file_fault_first (fault_of_blocks beginnings h)
    (own_fault beginnings h b) x (no_file_fault beginnings h x)
    (no_file_fault_of_block beginnings (begun beginnings h) (length h + 1) b x) e

pub fault_taken : (beginnings : Beginnings) (stated : Said) (first : FileAnswers)
    (t t' : ToCome) (r : Readings)
    (e : MarkFault) → AreTaken beginnings stated first t r (Some e) → GivesEnd t t'
    → AnswersReadings beginnings stated first (Err e)
fault_taken beginnings stated first t t' r (Reading n k) taken end = record {
  blocks = taken.h;
  are_blocks = are_blocks beginnings stated first t t' r (Some (Reading n k)) taken end;
  fault_is = sym taken.fault_is;
}
fault_taken beginnings stated first t t' r (At n k) taken end = record {
  blocks = taken.h;
  are_blocks = are_blocks beginnings stated first t t' r (Some (At n k)) taken end;
  fault_is = sym taken.fault_is;
}
fault_taken beginnings stated first t t' r (File x) taken end =
    absurd (no_file_fault beginnings taken.h x (sym taken.fault_is))
fault_taken beginnings stated first t t' r Memory taken end = tt

-- At a fault of the file.
pub file_fault : (beginnings : Beginnings) (stated : Said) (first : FileAnswers) (t t' : ToCome)
    (r : Readings)
    (f : Option MarkFault) (number : ℕ) (kind : FileKind)
    → AreTaken beginnings stated first t r f → GivesFault t t' number kind
    → IsFileFault first number kind
file_fault beginnings stated first t t' r f number kind taken gives = record {
  blocks = taken.h;
  lines = taken.done;
  left = taken.left;
  each = taken.each;
  split = taken.split;
  fault = subst (λ (o : Option FileAnswers). IfSome o (λ a. FaultIsNext a kind)) taken.here
      gives.here;
  counted = gives.counted ∙ ap (λ n. n + 1) taken.number;
}

-- A fault of the file, as it is answered.
pub file_refused : (beginnings : Beginnings) (stated : Said) (first : FileAnswers)
    (t t' : ToCome) (r : Readings)
    (f : Option MarkFault) (fault : FileFault) → AreTaken beginnings stated first t r f
    → Answers t (Err fault) t' → AnswersReadings beginnings stated first (Err (File fault))
file_refused beginnings stated first t t' r f (file.At number kind) taken gives =
    file_fault beginnings stated first t t' r f number kind taken gives
file_refused beginnings stated first t t' r f file.Memory taken gives = absurd gives
