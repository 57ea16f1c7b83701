-- Code lines one after another.
use Rattle.std.proofs.Common.{◌≡◌, ℕ, suc, ◌+◌, List, [], ◌∷◌, ◌++◌, length, map, ap, sym, ◌∙◌}
use Rattle.std.proofs.Common.{append_assoc, Bool, false, Option, Some, None, arith}
use Rattle.std.specs.Prelude.{IfSome, ◌≢◌, slice_get, nat_lt, ◌&&◌, if◌then◌else◌}
use Rattle.std.proofs.lemmas.Bool.{ltb-false, eq-eqb, ne_eqb}
use Rattle.adjust_kernel.specs.Names.{IsName}
use Rattle.set_marks.specs.declared.mark.Code.TheVariants.{Station, Set, Close}
use Rattle.set_marks.specs.declared.mark.BlockMark.{BlockMark}
use Rattle.set_marks.specs.declared.sight.Sight.{Sight}
use Rattle.set_marks.specs.declared.span.Span.{Span}
use Rattle.set_marks.specs.Marks.{HasRoom, width_of}
use Rattle.set_marks.specs.Judging.{is_too_long}
use Rattle.set_marks.specs.Marking.{mark_at, set_marks, close_mark, sets_marks}
use Rattle.set_marks.specs.Stations.{Occupation}
use Rattle.set_marks.specs.Divisions.{starts_of, in_span}
use Rattle.set_marks.specs.Placing.{marks_of_block, marks_after}

-- Four lists put after one.
pub four : {X : Type 0} (a b c d e : List X)
    → (((a ++ b) ++ c) ++ d) ++ e ≡ a ++ (b ++ (c ++ (d ++ e)))
four a b c d e = append_assoc ((a ++ b) ++ c) d e ∙ append_assoc (a ++ b) c (d ++ e)
    ∙ append_assoc a b (c ++ (d ++ e))

-- A name that is not too long has room.
pub has_its_room : (name : List ℕ) (o : Option Sight) → IsName name → is_too_long name o ≡ false
    → IfSome o (λ s. HasRoom s.wide (Station name))
has_its_room name None is e = tt
has_its_room name (Some s) is e = (ltb-false (width_of s.wide) (length name) e, is)

-- Code 20 before one set more.
pub next_set : (old whole : List BlockMark) (number from : ℕ) (starts : List ℕ) (rs : List Sight)
    → old ++ set_marks number (from ∷ starts) rs ≡ whole
    → (old ++ mark_at (slice_get rs from) (Set number)) ++ set_marks (number + 1) starts rs ≡ whole
next_set old whole number from starts rs e =
    let step : suc number ≡ number + 1 = omega arith in
    ap (λ (k : ℕ). (old ++ mark_at (slice_get rs from) (Set number)) ++ set_marks k starts rs)
    (sym step)
    ∙ append_assoc old (mark_at (slice_get rs from) (Set number))
    (set_marks (suc number) starts rs) ∙ e

-- A code line more of the same block.
pub next_mark : {X : Type 0} (f : BlockMark → X) (old whole : List X) (number : ℕ) (m : BlockMark)
    (ms : List BlockMark) → m.block ≡ number
    → old ++ map f (marks_of_block number (m ∷ ms)) ≡ whole
    → (old ++ f m ∷ []) ++ map f (marks_of_block number ms) ≡ whole
next_mark f old whole number m ms same e =
    append_assoc old (f m ∷ []) (map f (marks_of_block number ms))
    ∙ ap (λ (l : List _). old ++ l)
    (sym (ap (λ (b : Bool). map f (if b then m ∷ marks_of_block number ms
    else [])) (eq-eqb m.block number same))) ∙ e

-- Those after it.
pub next_after : (number : ℕ) (m : BlockMark) (ms : List BlockMark) → m.block ≡ number
    → marks_after number ms ≡ marks_after number (m ∷ ms)
next_after number m ms same = sym (ap (λ (b : Bool). if b then marks_after number ms else m ∷ ms)
    (eq-eqb m.block number same))

-- Those of another block.
pub other_mark : (number : ℕ) (m : BlockMark) (ms : List BlockMark) → m.block ≢ number
    → (marks_of_block number (m ∷ ms) ≡ []) × (marks_after number (m ∷ ms) ≡ m ∷ ms)
other_mark number m ms other = (
  ap (λ (b : Bool). if b then m ∷ marks_of_block number ms else []) (ne_eqb m.block number other),
  ap (λ (b : Bool). if b then marks_after number ms else m ∷ ms) (ne_eqb m.block number other),
)

-- The code lines of a station with sets, one after another.
pub station_pieces : (in_set : Bool) (s : Occupation) (span : Span) (starts : List ℕ)
    (inner : List Sight) (o p : Option Sight) (a b c d e : List BlockMark)
    → b ≡ a ++ close_mark (in_set && nat_lt 0 span.from) s.sights
    → c ≡ b ++ mark_at o (Station s.name) → d ≡ c ++ set_marks 1 starts inner
    → e ≡ d ++ mark_at p Close → o ≡ slice_get s.sights span.from → p ≡ slice_get s.sights span.to
    → inner ≡ in_span span s.sights → starts ≡ starts_of (in_span span s.sights)
    → e ≡ a ++ sets_marks in_set s span
station_pieces in_set s span starts inner o p a b c d e eb ec ed ee e1 e2 e3 e4 =
    let sets = in_span span s.sights in
    ee ∙ rw (ed, ec, eb, e1, e2, e3, e4)
    (four a (close_mark (in_set && nat_lt 0 span.from) s.sights)
    (mark_at (slice_get s.sights span.from) (Station s.name)) (set_marks 1 (starts_of sets) sets)
    (mark_at (slice_get s.sights span.to) Close))
