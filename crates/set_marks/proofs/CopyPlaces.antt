-- The code lines of a file stand where lines with a byte begin, in order.
use Rattle.std.proofs.Common.{◌≡◌, ℕ, suc, ◌+◌, ◌-◌, ◌<◌, ◌≤◌, true, false, List, [], ◌∷◌, ◌++◌}
use Rattle.std.proofs.Common.{length, map, drop, get_or, refl, sym, ap, subst, ◌∙◌, inl, inr, arith}
use Rattle.std.proofs.Common.{All}
use Rattle.std.specs.Prelude.{slice_index}
use Rattle.std.specs.List.{AllByRecursion}
use Rattle.std.proofs.lemmas.Bool.{cases_Bool}
use Rattle.std.proofs.lemmas.List.{append-nil, length-drop}
use Rattle.std.proofs.lemmas.List.{get_or-drop}
use Rattle.std.proofs.lemmas.List.Elements.{All-head, All-from_recursion, recursion_from_All}
use Rattle.gsi_file.specs.Parts.{parts, is_line, is_line_end, HasNoEnd}
use Rattle.set_marks.specs.declared.mark.BlockMark.{BlockMark}
use Rattle.set_marks.specs.declared.mark.Mark.{Mark}
use Rattle.set_marks.specs.Placing.{marks_of_block, marks_after, placed_at, placed_from, placed}
use Rattle.set_marks.specs.Marks.{IsRoomy}
use Rattle.set_marks.specs.Copies.{AreOrdered, BeginsAt, BeginsLine}
use Rattle.set_marks.specs.Unmarked.{BeginsSomeLine}
use Rattle.set_marks.proofs.CopyLines.{AreRoomy, roomy_first, roomy_after, next_line}
use Rattle.gsi_file.proofs.NumberedLines.{some_part, first_cut}

-- The code lines stand in order, from a place on, each where a line with a byte begins.
pub record AreWell (bytes : List ℕ) (from : ℕ) (ms : List Mark) : Type 0 where
  pub ordered : AreOrdered from (length bytes) ms
  pub each : AllByRecursion (BeginsSomeLine bytes) ms

well_earlier : (bytes : List ℕ) (from at : ℕ) (ms : List Mark) → from ≤ at → AreWell bytes at ms
    → AreWell bytes from ms
well_earlier bytes from at [] le w = record
    { ordered = (let o = w.ordered in omega arith); each = tt }
well_earlier bytes from at (m ∷ ms) le w = record {
  ordered = ((let o = w.ordered.0 in omega arith), w.ordered.1, w.ordered.2, w.ordered.3);
  each = w.each;
}

-- Code lines at one place, and then others from there on.
well_here : (bytes : List ℕ) (at : ℕ) (first : List BlockMark) (ms : List Mark) → AreRoomy first
    → at < length bytes → BeginsAt bytes at → is_line_end (slice_index bytes at) ≡ false
    → AreWell bytes at ms → AreWell bytes at (map (placed_at bytes at) first ++ ms)
well_here bytes at [] ms roomy lt begins byte w = w
well_here bytes at (m ∷ first) ms roomy lt begins byte w =
    let rest = well_here bytes at first ms roomy.1 lt begins byte w in
    record {
      ordered = (omega arith, omega arith, roomy.0, rest.ordered);
      each = (record { begins = begins; inside = lt; some_byte = byte }, rest.each);
    }

-- The first byte of a line of the file.
record HasFirst (bytes : List ℕ) (at : ℕ) : Type 0 where
  pub inside : at < length bytes
  pub byte : is_line_end (slice_index bytes at) ≡ false

has_first : (bytes : List ℕ) (at : ℕ) (p more : List ℕ) → drop at bytes ≡ p ++ more → HasNoEnd p
    → is_line p ≡ true → HasFirst bytes at
has_first bytes at [] more e none line = cc
has_first bytes at (b ∷ p) more e none line = record {
  inside = (let l : length (drop at bytes) ≡ suc (length (p ++ more)) =
      ap (λ (bs : List ℕ). length bs) e in omega (arith, l, length-drop at bytes));
  byte = ap (λ (k : ℕ). is_line_end k) (sym (get_or-drop at bytes 0 0
      ∙ ap (λ (k : ℕ). get_or bytes k 0) (let q : at + 0 ≡ at = omega arith in q))
      ∙ ap (λ (bs : List ℕ). get_or bs 0 0) e)
      ∙ All-head (λ c. is_line_end c ≡ false) b p none;
}

at_seam : (p : List ℕ) (b : ℕ) (rest : List ℕ) → get_or (p ++ b ∷ rest) (length p) 0 ≡ b
at_seam [] b rest = refl
at_seam (x ∷ p) b rest = at_seam p b rest

well_line : (bytes : List ℕ) (at number : ℕ) (ms : List BlockMark) (p : List ℕ)
    (ps : List (List ℕ)) → AreRoomy ms → BeginsAt bytes at
    → (is_line p ≡ true → HasFirst bytes at)
    → ((n : ℕ) (ls : List BlockMark) → AreRoomy ls
    → AreWell bytes at (placed_from bytes (at + length p + 1) n ls ps))
    → AreWell bytes at (placed_from bytes at number ms (p ∷ ps))
well_line bytes at number ms p ps roomy begins first rest = elim (cases_Bool (is_line p)) [
  | inl h ↦
      let f = first h in
      rw h (well_here bytes at (marks_of_block (suc number) ms)
      (placed_from bytes (at + length p + 1) (suc number) (marks_after (suc number) ms) ps)
      (roomy_first (suc number) ms roomy) f.inside begins f.byte
      (rest (suc number) (marks_after (suc number) ms) (roomy_after (suc number) ms roomy)))
  | inr h ↦ rw h (rest number ms roomy)
]

well_from : (bytes : List ℕ) (at number : ℕ) (ms : List BlockMark) (ps : List (List ℕ))
    → at ≤ length bytes → parts (drop at bytes) ≡ ps → BeginsAt bytes at → AreRoomy ms
    → AreWell bytes at (placed_from bytes at number ms ps)
well_from bytes at number ms [] le e begins roomy = absurd (some_part (drop at bytes) e)
well_from bytes at number ms (p ∷ ps) le e begins roomy = elim (first_cut (drop at bytes) p ps e) [
  | inl a ↦ subst
      (λ (qs : List (List ℕ)). AreWell bytes at (placed_from bytes at number ms (p ∷ qs)))
      (sym a.beyond) (well_line bytes at number ms p [] roomy begins
      (has_first bytes at p [] (a.is ∙ sym (append-nil p)) a.none)
      (λ n ls r. record { ordered = le; each = tt }))
  | inr c ↦
      let next = at + length p + 1 in
      let n = next_line bytes at p c.end c.rest le c.is in
      let before : slice_index bytes (next - 1) ≡ c.end =
      ap (λ (k : ℕ). get_or bytes k 0) (let q : next - 1 ≡ at + length p = omega arith in q)
      ∙ sym (get_or-drop at bytes (length p) 0)
      ∙ ap (λ (bs : List ℕ). get_or bs (length p) 0) c.is ∙ at_seam p c.end c.rest in
      let parted = ap (λ (bs : List ℕ). parts bs) n.beyond ∙ c.beyond in
      let positive : 0 < next = omega arith in
      let again : BeginsAt bytes next =
      inr (positive, ap (λ (k : ℕ). is_line_end k) before ∙ c.ends) in
      well_line bytes at number ms p ps roomy begins
      (has_first bytes at p (c.end ∷ c.rest) c.is c.none)
      (λ number ls r. well_earlier bytes at next (placed_from bytes next number ls ps)
      (omega arith) (well_from bytes next number ls ps n.inside parted again r))
]

-- The code lines of a file stand where lines with a byte begin, in order.
pub are_well : (bytes : List ℕ) (ms : List BlockMark) → AreRoomy ms
    → AreWell bytes 0 (placed bytes ms)
are_well bytes ms roomy =
    well_from bytes 0 0 ms (parts bytes) (omega arith) refl (inl refl) roomy

-- Code lines with room stand in order, each where a line begins.
pub in_order : (bytes : List ℕ) (ms : List BlockMark) → All IsRoomy ms
    → AreOrdered 0 (length bytes) (placed bytes ms)
in_order bytes ms room = (are_well bytes ms (recursion_from_All IsRoomy ms room)).ordered

begin_by : (bytes : List ℕ) (ms : List Mark) → AllByRecursion (BeginsSomeLine bytes) ms
    → AllByRecursion (BeginsLine bytes) ms
begin_by bytes [] each = tt
begin_by bytes (m ∷ ms) each = (each.0.begins, begin_by bytes ms each.1)

pub begin_lines : (bytes : List ℕ) (ms : List BlockMark) → All IsRoomy ms
    → All (BeginsLine bytes) (placed bytes ms)
begin_lines bytes ms room = All-from_recursion (BeginsLine bytes) (placed bytes ms)
    (begin_by bytes (placed bytes ms)
    (are_well bytes ms (recursion_from_All IsRoomy ms room)).each)
