use Rattle.std.proofs.Common.{◌≡◌, ℕ, List, ◌++◌, ap, ◌∙◌, append_assoc}
use Rattle.station_check.proofs.accepted.add_residual.Goals as goal

-- Three pieces, one after another.
three : (t t1 t2 t3 a b d : List ℕ) → t1 ≡ t ++ a → t2 ≡ t1 ++ b → t3 ≡ t2 ++ d
    → t3 ≡ t ++ (a ++ b ++ d)
three t t1 t2 t3 a b d e1 e2 e3 =
    e3 ∙ ap (λ (r : List ℕ). r ++ d) (e2 ∙ ap (λ (r : List ℕ). r ++ b) e1) ∙ joined where
      joined : ((t ++ a) ++ b) ++ d ≡ t ++ (a ++ b ++ d)
      joined = simp append_assoc

pub returns : goal.returns
returns c = three _ _ _ _ _ _ _ c.add_greatest.ensures.items c.add_long.ensures.items
    c.add.ensures.items
