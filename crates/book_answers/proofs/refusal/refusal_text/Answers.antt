use Rattle.std.proofs.Common.{◌≡◌, ◌∙◌, ◌++◌, ◌∷◌, List, ℕ, [], ap, append_assoc, codes, rules}
use Rattle.station_compare.specs.Refusals.{refusal_text}
use Rattle.book_answers.proofs.refusal.refusal_text.Goals as goal

pub returns-in-Some : goal.returns-in-Some
returns-in-Some c =
    let own = refusal_text c.args.refused.now.refusal in
    let note : List ℕ = codes "note: station " in
    let name : List ℕ = c.in-Some.name in
    let end : List ℕ = 10 ∷ [] in
    let first : c.try_extend_from_slice.new.self.items ≡ own = search rules in
    let second : c.try_extend_from_slice-in-Some.new.self.items ≡ own ++ note =
    (rw c.unwrap-in-Some.ensures at c.try_extend_from_slice-in-Some.ensures.ok)
    ∙ ap (λ (t : List ℕ). t ++ note) first in
    let third : c.try_extend_from_slice-in-Some-2.new.self.items ≡ (own ++ note) ++ name =
    (rw (c.unwrap-in-Some-2.ensures, c.bytes.ensures.value)
    at c.try_extend_from_slice-in-Some-2.ensures.ok)
    ∙ ap (λ (t : List ℕ). t ++ name) second in
    let put : c.try_push.new.self.items ≡ ((own ++ note) ++ name) ++ end =
    (rw c.unwrap-in-Some-3.ensures at c.try_push.ensures.ok)
    ∙ ap (λ (t : List ℕ). t ++ end) third in
    rw c.in-Some.is
    (put ∙ append_assoc (own ++ note) name end ∙ append_assoc own note (name ++ end))
