-- A field file comes to a fault exactly where that is its first.
use Rattle.std.proofs.Common.{◌≡◌, ℕ, List, [], ◌∷◌, Option, Some, None, Err, refl, sym, ap, subst}
use Rattle.std.proofs.Common.{inl, inr}
use Rattle.std.specs.Prelude.{◌+◌, ◌++◌, length, reverse}
use mathlib.Core.List.{reverse_aux}
use Rattle.std.specs.List.{AllZip}
use Rattle.std.proofs.lemmas.List.{reverse-reverse}
use Rattle.gsi_word.specs.Blocks.{GsiBlock, IsBlock}
use Rattle.gsi_file.specs.FileAnswers.{FileAnswers}
use Rattle.gsi_file.specs.ToCome.{IsFileFault}
use Rattle.gsi_file.specs.declared.file_fault.FileKind.{FileKind}
use Rattle.gsi_file.specs.declared.file_fault.FileFault.TheVariants as file
use Rattle.station_book.specs.declared.fault.BookKind.{BookKind}
use Rattle.station_book.specs.declared.fault.BookFault.TheVariants as book
use Rattle.station_book.specs.Faults.{fault_at_end, IsWithoutFault}
use Rattle.station_book.specs.Limits.{FaceLimits}
use Rattle.station_book.specs.Places.{History}
use Rattle.station_check.specs.declared.fault.Fault.{Fault}
use Rattle.station_check.specs.declared.fault.Fault.TheVariants.{Gsi, Book, SheetRead, Sheet}
use Rattle.station_check.specs.declared.fault.Fault.TheVariants.{NoStation, Means, Kernel, Write}
use Rattle.station_check.specs.declared.fault.Fault.TheVariants.{Memory}
use Rattle.station_check.specs.FirstFault.{StandsNext, IsFirstFault}
use Rattle.station_check.specs.Outcomes.{ComesTo, FileComesTo, at_end}

-- After these blocks, the lines up to the fault are blocks without one, and it stands next.
record ComesToFault (limits : FaceLimits) (past : History) (lines : List (List ℕ))
    (last : Option FileKind) (fault : Fault) : Type 0 where
  pub before : List (List ℕ)
  pub others : List (List ℕ)
  pub parts : lines ≡ before ++ others
  pub more : List GsiBlock
  pub each : AllZip IsBlock before more
  pub faultless : IsWithoutFault limits (reverse_aux more past)
  pub stands : StandsNext limits (reverse_aux more past) others last fault

-- The fault that stands at once.
at_once : (limits : FaceLimits) (past : History) (lines : List (List ℕ)) (last : Option FileKind)
    (fault other : Fault) → IsWithoutFault limits past → StandsNext limits past lines last other
    → other ≡ fault
    → ComesToFault limits past lines last fault
at_once limits past lines last fault other clean stands same =
    subst (λ (f : Fault). ComesToFault limits past lines last f) same
    (record {
      before = [];
      others = lines;
      parts = refl;
      more = [];
      each = tt;
      faultless = clean;
      stands = stands;
    })

-- The fault of the end.
ends_with : (limits : FaceLimits) (past : History) (fault : Fault) (o : Option BookKind)
    → IsWithoutFault limits past → fault_at_end past ≡ o → Err fault ≡ at_end past o
    → ComesToFault limits past [] None fault
ends_with limits past fault None clean e h = cc
ends_with limits past fault (Some kind) clean e h =
    at_once limits past [] None fault (Book (book.At (length past + 1) kind)) clean
    (refl, (refl, e)) cc

comes_to_fault : (limits : FaceLimits) (past : History) (lines : List (List ℕ))
    (last : Option FileKind) (fault : Fault) → IsWithoutFault limits past
    → ComesTo limits past lines last (Err fault) → ComesToFault limits past lines last fault
comes_to_fault limits past [] (Some kind) fault clean h =
    at_once limits past [] (Some kind) fault (Gsi (file.At (length past + 1) kind)) clean
    (refl, inl refl) cc
comes_to_fault limits past [] None fault clean h =
    ends_with limits past fault (fault_at_end past) clean refl h
comes_to_fault limits past (line ∷ lines) last fault clean (inl h) =
    let e = h.answer in
    at_once limits past (line ∷ lines) last fault (Gsi (file.At (length past + 1) h.kind)) clean
    (refl, inr (line, lines, refl, h.fault)) cc
comes_to_fault limits past (line ∷ lines) last fault clean (inr (inl h)) =
    let e = h.answer in
    at_once limits past (line ∷ lines) last fault (Book (book.At (length past + 1) h.kind)) clean
    (refl, (h.block, h.is_block, h.fault)) cc
comes_to_fault limits past (line ∷ lines) last fault clean (inr (inr h)) =
    let rest = comes_to_fault limits (h.block ∷ past) lines last fault (h.clean, clean) h.after in
    record {
      before = line ∷ rest.before;
      others = rest.others;
      parts = ap (λ (ls : List (List ℕ)). line ∷ ls) rest.parts;
      more = h.block ∷ rest.more;
      each = (h.is_block, rest.each);
      faultless = rest.faultless;
      stands = rest.stands;
    }

-- The fault that a file comes to is its first.
pub is_first : (limits : FaceLimits) (answers : FileAnswers) (fault : Fault)
    → FileComesTo limits answers (Err fault) → IsFirstFault limits answers fault
is_first limits answers fault h =
    let found = comes_to_fault limits [] answers.lines answers.last fault tt h in
    record {
      before = found.before;
      others = found.others;
      parts = found.parts;
      blocks = reverse found.more;
      each = subst (λ (bs : List GsiBlock). AllZip IsBlock found.before bs)
          (sym (reverse-reverse found.more)) found.each;
      faultless = found.faultless;
      stands = found.stands;
    }

-- Where no block has a fault, none has that came before some of them.
pub clean_before : (limits : FaceLimits) (past : History) (more : List GsiBlock)
    → IsWithoutFault limits (reverse_aux more past) → IsWithoutFault limits past
clean_before limits past [] clean = clean
clean_before limits past (b ∷ more) clean = (clean_before limits (b ∷ past) more clean).1

-- What stands next is come to.
next_comes : (limits : FaceLimits) (past : History) (lines : List (List ℕ)) (last : Option FileKind)
    (fault : Fault) → StandsNext limits past lines last fault
    → ComesTo limits past lines last (Err fault)
next_comes limits past [] (Some other) (Gsi (file.At n kind)) (e, inl h) =
    let ends : Some other ≡ Some kind = ap (λ (a : FileAnswers). a.last) h in cc
next_comes limits past [] (Some other) (Gsi (file.At n kind)) (e, inr h) = let some = h.2 in cc
next_comes limits past [] None (Gsi (file.At n kind)) (e, inl h) =
    let ends : None ≡ Some kind = ap (λ (a : FileAnswers). a.last) h in cc
next_comes limits past [] None (Gsi (file.At n kind)) (e, inr h) = let some = h.2 in cc
next_comes limits past (line ∷ lines) last (Gsi (file.At n kind)) (e, inl h) =
    let none : line ∷ lines ≡ [] = ap (λ (a : FileAnswers). a.lines) h in cc
next_comes limits past (line ∷ lines) last (Gsi (file.At n kind)) (e, inr h) =
    let next : line ∷ lines ≡ h.0 ∷ h.1 = h.2 in
    let same : h.0 ≡ line = cc in
    inl (record {
      kind = kind;
      fault = subst (λ (l : List ℕ). IsFileFault l kind) same h.3;
      answer = cc;
    })
next_comes limits past lines last (Gsi file.Memory) h = absurd h
next_comes limits past [] (Some other) (Book (book.At n kind)) (e, (none, h)) = cc
next_comes limits past [] None (Book (book.At n kind)) (e, (none, h)) =
    subst (λ (o : Option BookKind). Err (Book (book.At n kind)) ≡ at_end past o) (sym h) cc
next_comes limits past (line ∷ lines) last (Book (book.At n kind)) (e, (block, is_block, h)) =
    inr (inl (record { block = block; is_block = is_block; kind = kind; fault = h; answer = cc }))
next_comes limits past lines last (Book book.Memory) h = absurd h
next_comes limits past lines last SheetRead h = absurd h
next_comes limits past lines last (Sheet f) h = absurd h
next_comes limits past lines last NoStation h = absurd h
next_comes limits past lines last (Means f) h = absurd h
next_comes limits past lines last (Kernel f) h = absurd h
next_comes limits past lines last Write h = absurd h
next_comes limits past lines last Memory h = absurd h

first_comes : (limits : FaceLimits) (past : History) (before : List (List ℕ)) (more : List GsiBlock)
    (others : List (List ℕ)) (last : Option FileKind) (fault : Fault) → AllZip IsBlock before more
    → IsWithoutFault limits (reverse_aux more past)
    → StandsNext limits (reverse_aux more past) others last fault
    → ComesTo limits past (before ++ others) last (Err fault)
first_comes limits past [] [] others last fault each clean h =
    next_comes limits past others last fault h
first_comes limits past [] (b ∷ more) others last fault each clean h = absurd each
first_comes limits past (line ∷ before) [] others last fault each clean h = absurd each
first_comes limits past (line ∷ before) (b ∷ more) others last fault each clean h =
    inr (inr (record {
      block = b;
      is_block = each.0;
      clean =
          (clean_before limits (b ∷ past) more clean).0;
      after =
          first_comes limits (b ∷ past) before more others last fault each.1 clean h;
    }))

-- A file comes to its first fault.
pub comes_to_first : (limits : FaceLimits) (answers : FileAnswers) (fault : Fault)
    → IsFirstFault limits answers fault → FileComesTo limits answers (Err fault)
comes_to_first limits answers fault h =
    let back : reverse_aux (reverse h.blocks) [] ≡ h.blocks = reverse-reverse h.blocks in
    let comes = first_comes limits [] h.before (reverse h.blocks) h.others answers.last fault h.each
    (subst (λ (bs : History). IsWithoutFault limits bs) (sym back) h.faultless)
    (subst (λ (bs : History). StandsNext limits bs h.others answers.last fault)
    (sym back) h.stands) in
    subst (λ (ls : List (List ℕ)). ComesTo limits [] ls answers.last (Err fault))
    (sym h.parts) comes
