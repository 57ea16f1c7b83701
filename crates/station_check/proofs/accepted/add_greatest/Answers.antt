use Rattle.std.proofs.Common.{◌≡◌, ℕ, List, ◌++◌, ap, ◌∙◌, append_assoc, rules}
use Rattle.std.specs.Fmt.{signed_decimal}
use Rattle.station_check.proofs.accepted.add_greatest.Goals as goal

-- Two pieces, one after another.
two : (t t1 t2 a b d : List ℕ) → t1 ≡ t ++ a → t2 ≡ t1 ++ b → b ≡ d → t2 ≡ t ++ (a ++ d)
two t t1 t2 a b d e1 e2 same =
    e2 ∙ ap (λ (r : List ℕ). r ++ b) e1 ∙ ap (λ (r : List ℕ). (t ++ a) ++ r) same
    ∙ append_assoc t a d

pub returns-clause-items : goal.returns-clause-items
returns-clause-items c =
    let text : c.as_bytes.result.now ≡ signed_decimal c.args.accepted.greatest = search rules in
    two _ _ _ _ _ _ c.add.ensures.items c.add-2.ensures.items text
