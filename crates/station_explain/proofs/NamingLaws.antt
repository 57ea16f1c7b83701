-- Texts cut at the last place where a part stands, or at the first.
use Rattle.std.proofs.Common.{ℕ, ◌+◌, ◌<◌, ◌≤◌, List, ◌++◌, length, drop, sym, ap, ◌∙◌}
use Rattle.std.proofs.Common.{arith, length-append, drop-drop, inl, inr}
use Rattle.std.proofs.Math.Seq.{drop-append_seam}
use Rattle.std.proofs.lemmas.Bool.{cases_lt}
use Rattle.std.proofs.lemmas.List.{take-append-drop}
use Rattle.std.specs.Str.Pattern.{FindsText, LacksTextAt, RFindsText, SplitsAroundMatch}
use Rattle.station_explain.specs.Naming.{Lacks, SplitsAtFirst, SplitsAtLast}

-- A text lacks a part that stands nowhere in it.
pub lacks : (part text : List ℕ) → ((i : ℕ) → i ≤ length text → LacksTextAt part text i)
    → Lacks part text
lacks part text nowhere before after e =
    nowhere (length before) (omega (arith, ap length e, length-append before (part ++ after))) after
    (ap (drop (length before)) e ∙ drop-append_seam before (part ++ after))

-- A cut round the last match is one at the last such part.
pub splits : (part text before after : List ℕ) → 0 < length part
    → SplitsAroundMatch (RFindsText part) text before after → SplitsAtLast part text before after
splits part text before after some s =
    let i = s.0 in
    let j = s.1 in
    let at = s.2.1 in
    let is_before = s.3 in
    let is_after = s.4 in
    let fits = s.7 in
    record {
      whole = sym (take-append-drop i text) ∙ (ap (λ x. x ++ drop i text) (sym is_before)
          ∙ ap (λ x. before ++ x) (at.split ∙ ap (λ x. part ++ x) (sym is_after)));
      last = λ earlier rest e.
          s.2.0 (j + length earlier) (omega (arith, at.ends))
          (omega (arith, fits, ap length e, length-append earlier (part ++ rest))) rest
          (sym (drop-drop (length earlier) j text) ∙ (ap (drop (length earlier)) (sym is_after ∙ e)
          ∙ drop-append_seam earlier (part ++ rest)));
    }

-- A cut round the first match is one at the first such part.
pub splits_first : (part text before after : List ℕ)
    → SplitsAroundMatch (FindsText part) text before after → SplitsAtFirst part text before after
splits_first part text before after s =
    let i = s.0 in
    let at = s.2.1 in
    let is_before = s.3 in
    let is_after = s.4 in
    let size = s.6 in
    record {
      whole = sym (take-append-drop i text) ∙ (ap (λ x. x ++ drop i text) (sym is_before)
          ∙ ap (λ x. before ++ x) (at.split ∙ ap (λ x. part ++ x) (sym is_after)));
      first = λ earlier rest e. elim (cases_lt (length earlier) i) [
        | inl less ↦ absurd (s.2.0 (length earlier) less rest
            (ap (drop (length earlier)) e ∙ drop-append_seam earlier (part ++ rest)))
        | inr more ↦ omega (arith, size, more)
      ];
    }
