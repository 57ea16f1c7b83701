-- From line to line.
use Rattle.std.proofs.Common.{◌≡◌, ℕ, zero, suc, ◌+◌, ◌-◌, ◌<◌, ◌≤◌, true, false, List, [], ◌∷◌}
use Rattle.std.proofs.Common.{◌++◌}
use Rattle.std.proofs.Common.{length, drop, refl, sym, ap, subst, ◌∙◌, inl, inr, arith}
use Rattle.std.proofs.Common.{append_assoc}
use Rattle.std.proofs.Common.{Some, None}
use Rattle.std.specs.Prelude.{slice_get, ◌==◌}
use Rattle.std.specs.List.{flat_map}
use Rattle.std.proofs.lemmas.Bool.{cases_Bool, ne_eqb}
use Rattle.std.proofs.lemmas.List.{length-drop, append-nil}
use Rattle.std.proofs.lemmas.Option.{slice_get_past}
use Rattle.gsi_file.specs.Parts.{is_line, numbered_lines}
use Rattle.set_marks.specs.Unmarked.{whole_lines}
use Rattle.changed_lines.specs.declared.change.Change.{Change}
use Rattle.changed_lines.specs.declared.fault.ChangeFault.{ChangeFault}
use Rattle.changed_lines.specs.declared.fault.ChangeFault.TheVariants.{LineOrder, NoSuchLine}
use Rattle.changed_lines.specs.declared.fault.ChangeFault.TheVariants.{NameTooLong, ZeroBefore}
use Rattle.changed_lines.specs.declared.fault.ChangeFault.TheVariants.{NoPoint, Memory}
use Rattle.changed_lines.specs.declared.first_line.FirstLine.{FirstLine}
use Rattle.changed_lines.specs.Answers.{AreMade, IsFirstFault, IsFaultAt, IsChanged, IsFault}
use Rattle.changed_lines.specs.Answers.{line_at}
use Rattle.changed_lines.specs.ChangedFile.{numbered, edit_of, edited, in_copy, changed}
use Rattle.changed_lines.specs.ChangedFile.{text_of}
use Rattle.changed_lines.specs.FirstLines.{IsFirstLine, with_line}
use Rattle.changed_lines.specs.Steps.{Waits, Ascends, LeavesChanges, RefusesChange}

-- The changes that ascend after a line say nothing of that line.
pub none_of : (number : ℕ) (before : ℕ) (cs : List Change) → number ≤ before → Ascends before cs
    → edit_of number cs ≡ None
none_of number before [] le up = refl
none_of number before (c ∷ cs) le up =
    let lt = up.0 in
    let e : (c.line == number) ≡ false = other_line c.line number (omega (arith, lt)) in
    rw e (none_of number c.line cs (omega (arith, lt)) up.1) where
      other_line : (a b : ℕ) → b < a → (a == b) ≡ false
      other_line a b lt = ne_eqb a b (λ e. omega (arith, e, lt))

-- So those that wait for a later line say nothing of it.
pub none_waiting : (number before : ℕ) (cs : List Change) → Waits number cs → Ascends before cs
    → edit_of number cs ≡ None
none_waiting number before [] waits up = refl
none_waiting number before (c ∷ cs) waits up =
    none_of number number (c ∷ cs) (omega arith) (waits, up.1)

-- Changes that say the same of each line after these say the same in the copy.
same_copy : (a b : List Change) (count : ℕ) (ls : List (List ℕ))
    → ((m : ℕ) → count < m → edit_of m a ≡ edit_of m b)
    → flat_map (in_copy a) (numbered count ls) ≡ flat_map (in_copy b) (numbered count ls)
same_copy a b count [] same = refl
same_copy a b count (whole ∷ ls) same = elim (cases_Bool (is_line (text_of whole))) [
  | inl h ↦
      let here = same (suc count) (omega arith) in
      let rest = same_copy a b (suc count) ls (λ m lt. same m (omega (arith, lt))) in
      rw h (ap (λ e. edited e whole ++ flat_map (in_copy a) (numbered (suc count) ls)) here
      ∙ ap (λ bs. edited (edit_of (suc count) b) whole ++ bs) rest)
  | inr h ↦ let rest = same_copy a b count ls same in rw h (ap (λ bs. whole ++ bs) rest)
]

-- How the copy stands after so many lines: what is left of the file, of the changes, and the copy.
pub record Goes (bytes : List ℕ) (cs : List Change) (count : ℕ) (rest : List ℕ)
    (left : List Change) (copy : List ℕ) : Type 0 where
  pub lines : drop count (numbered_lines bytes) ≡ numbered_lines rest
  pub room : count + length rest ≤ length bytes
  pub waits : Waits count left
  pub copied : Ascends count left
      → copy ++ flat_map (in_copy left) (numbered count (whole_lines rest)) ≡ changed cs bytes
  pub made : AreMade (numbered_lines bytes) count left → AreMade (numbered_lines bytes) 0 cs
  pub fault : (fault : ChangeFault) → IsFirstFault (numbered_lines bytes) count left fault
      → IsFirstFault (numbered_lines bytes) 0 cs fault

pub begins : (bytes : List ℕ) (cs : List Change) → Waits 0 cs → Goes bytes cs 0 bytes cs []
begins bytes cs waits = record {
  lines = refl;
  room = omega arith;
  waits = waits;
  copied = λ up. refl;
  made = λ made. made;
  fault = λ fault is. is;
}

-- The next of some lines, and its number.
pub drop_next : (n : ℕ) (ls : List (List ℕ)) (l : List ℕ) (more : List (List ℕ))
    → drop n ls ≡ l ∷ more → (drop (suc n) ls ≡ more) × (slice_get ls n ≡ Some l)
drop_next zero [] l more e = absurd (cc)
drop_next zero (x ∷ ls) l more e = (cc, cc)
drop_next (suc n) [] l more e = absurd (cc)
drop_next (suc n) (x ∷ ls) l more e = drop_next n ls l more e

pub at_next : (lines : List (List ℕ)) (count : ℕ) (l : List ℕ) → slice_get lines count ≡ Some l
    → line_at lines (suc count) ≡ Some l
at_next lines count l e = let same : suc count - 1 ≡ count = omega arith in rw same e

-- A numbered line.
pub line_goes : (bytes : List ℕ) (cs : List Change) (count : ℕ) (rest : List ℕ)
    (left later : List Change) (copy copy' : List ℕ) (l : FirstLine)
    → Goes bytes cs count rest left copy → IsFirstLine rest l → is_line l.text.now ≡ true
    → LeavesChanges count l.text.now left later
    → (Ascends count left → copy' ≡ copy ++ edited (edit_of (suc count) left) l.whole.now)
    → Goes bytes cs (suc count) l.after.now later copy'
line_goes bytes cs count rest left later copy copy' l goes first line leaves is = record {
  lines = next.0;
  room = let a = goes.room in let b = first.shorter in omega (arith, a, b);
  waits = leaves.waits;
  copied = λ up. copied (leaves.ascends up);
  made = λ made. goes.made (leaves.made (numbered_lines bytes) here made);
  fault = λ fault at. goes.fault fault (leaves.fault (numbered_lines bytes) fault here at);
} where
  is_numbered : is_line (text_of l.whole.now) ≡ true
  is_numbered = ap is_line (sym first.text) ∙ line

  next : (drop (suc count) (numbered_lines bytes) ≡ numbered_lines l.after.now)
      × (slice_get (numbered_lines bytes) count ≡ Some l.text.now)
  next = drop_next count (numbered_lines bytes) l.text.now (numbered_lines l.after.now)
      (goes.lines ∙ first.counted
      ∙ ap (λ b. with_line b l.text.now (numbered_lines l.after.now)) line)

  here : line_at (numbered_lines bytes) (suc count) ≡ Some l.text.now
  here = at_next (numbered_lines bytes) count l.text.now next.1

  beyond : List Change → List ℕ
  beyond ds = flat_map (in_copy ds) (numbered (suc count) (whole_lines l.after.now))

  passed : flat_map (in_copy left) (numbered count (l.whole.now ∷ whole_lines l.after.now))
      ≡ edited (edit_of (suc count) left) l.whole.now
      ++ flat_map (in_copy left) (numbered (suc count) (whole_lines l.after.now))
  passed = rw is_numbered refl

  copied : Ascends count left
      → copy' ++ flat_map (in_copy later) (numbered (suc count) (whole_lines l.after.now))
      ≡ changed cs bytes
  copied up = ap (λ bs. copy' ++ bs)
      (sym (same_copy left later (suc count) (whole_lines l.after.now) leaves.same))
      ∙ ap (λ bs. bs ++ flat_map (in_copy left) (numbered (suc count) (whole_lines l.after.now)))
      (is up)
      ∙ append_assoc copy (edited (edit_of (suc count) left) l.whole.now)
      (flat_map (in_copy left) (numbered (suc count) (whole_lines l.after.now)))
      ∙ ap (λ bs. copy ++ bs)
      (sym (ap (λ ls. flat_map (in_copy left) (numbered count ls)) first.first ∙ passed))
      ∙ goes.copied up

-- The same by the number of the line.
pub numbered_goes : (bytes : List ℕ) (cs : List Change) (count number : ℕ) (rest : List ℕ)
    (left later : List Change) (copy copy' : List ℕ) (l : FirstLine) → number ≡ count + 1
    → Goes bytes cs count rest left copy → IsFirstLine rest l → is_line l.text.now ≡ true
    → LeavesChanges (number - 1) l.text.now left later
    → (Ascends (number - 1) left → copy' ≡ copy ++ edited (edit_of number left) l.whole.now)
    → Goes bytes cs number l.after.now later copy'
numbered_goes bytes cs count number rest left later copy copy' l up goes first line leaves is =
    let same : number - 1 ≡ count = omega arith in
    let next : number ≡ suc count = omega arith in
    subst (λ (k : ℕ). Goes bytes cs k l.after.now later copy') (sym next)
    (line_goes bytes cs count rest left later copy copy' l goes first line
    (subst (λ (k : ℕ). LeavesChanges k l.text.now left later) same leaves)
    (λ ascends. is (subst (λ (k : ℕ). Ascends k left) (sym same) ascends)
    ∙ ap (λ (k : ℕ). copy ++ edited (edit_of k left) l.whole.now) next))

-- The first fault of changes is one of the file.
pub is_fault : (bytes : List ℕ) (cs : List Change) (fault : ChangeFault)
    → IsFirstFault (numbered_lines bytes) 0 cs fault → IsFault bytes cs fault
is_fault bytes cs (LineOrder n) is = is
is_fault bytes cs (NoSuchLine n) is = is
is_fault bytes cs (NameTooLong n) is = is
is_fault bytes cs (ZeroBefore n) is = is
is_fault bytes cs (NoPoint n) is = is
is_fault bytes cs Memory is = tt

-- A change of a numbered line that can't be made.
pub refused : (bytes : List ℕ) (cs : List Change) (count number : ℕ) (rest : List ℕ)
    (left : List Change) (copy : List ℕ) (l : FirstLine) (fault : ChangeFault)
    → number ≡ count + 1 → Goes bytes cs count rest left copy → IsFirstLine rest l
    → is_line l.text.now ≡ true → RefusesChange (number - 1) l.text.now left fault
    → IsFault bytes cs fault
refused bytes cs count number rest left copy l fault up goes first line refuses = elim refuses [
  | inl memory ↦ subst (λ (f : ChangeFault). IsFault bytes cs f) (sym memory) tt
  | inr is ↦
      let same : number - 1 ≡ count = omega arith in
      let at = drop_next count (numbered_lines bytes) l.text.now (numbered_lines l.after.now)
      (goes.lines ∙ first.counted
      ∙ ap (λ b. with_line b l.text.now (numbered_lines l.after.now)) line) in
      let here = at_next (numbered_lines bytes) count l.text.now at.1 in
      is_fault bytes cs fault (goes.fault fault
      (subst (λ (k : ℕ). IsFirstFault (numbered_lines bytes) k left fault) same
      (is (numbered_lines bytes) (ap (λ (k : ℕ). line_at (numbered_lines bytes) (suc k)) same
      ∙ here))))
]

-- At the end no change is left: it is the copy.
pub ends : (bytes : List ℕ) (cs : List Change) (count : ℕ) (copy : List ℕ)
    → Goes bytes cs count [] [] copy → IsChanged bytes cs copy
ends bytes cs count copy goes = record {
  made = goes.made tt;
  is = sym (append-nil copy) ∙ goes.copied tt;
}

-- Or one is left, of a line that isn't there.
left_short : (bytes : List ℕ) (cs : List Change) (count : ℕ) (copy : List ℕ) (c : Change)
    (left : List Change) → Goes bytes cs count [] (c ∷ left) copy
    → IsFirstFault (numbered_lines bytes) 0 cs (NoSuchLine c.line)
left_short bytes cs count copy c left goes = goes.fault (NoSuchLine c.line)
    (inr (inl (goes.waits, absent))) where
      none_left : length (numbered_lines bytes) ≤ count
      none_left = omega (
        arith,
        ap (λ (ls : List (List ℕ)). length ls) goes.lines,
        length-drop count (numbered_lines bytes),
      )

      absent : IsFaultAt (line_at (numbered_lines bytes) c.line) c (NoSuchLine c.line)
      absent =
          let lt = goes.waits in
          let past = slice_get_past (numbered_lines bytes) (c.line - 1)
          (let le = none_left in omega (arith, le, lt)) in
          rw past refl

pub ends_short : (bytes : List ℕ) (cs : List Change) (count : ℕ) (rest : List ℕ)
    (left : List Change) (copy : List ℕ) (c : Change) → Goes bytes cs count rest left copy
    → length rest ≡ 0 → slice_get left 0 ≡ Some c
    → IsFirstFault (numbered_lines bytes) 0 cs (NoSuchLine c.line)
ends_short bytes cs count rest [] copy c goes over some = absurd (cc)
ends_short bytes cs count (b ∷ rest) (d ∷ left) copy c goes over some = absurd (omega arith)
ends_short bytes cs count [] (d ∷ left) copy c goes over some =
    let same : d ≡ c = cc in
    subst (λ (x : Change). IsFirstFault (numbered_lines bytes) 0 cs (NoSuchLine x.line)) same
    (left_short bytes cs count copy d left goes)
