use Rattle.std.proofs.Common.{◌≡◌, ℕ, ◌*◌, length, IsTrue, nat_eq, arith, ap, sym, ◌∙◌}
use Rattle.std.proofs.lemmas.Bool.Decides.{nat_tests}
use Rattle.sheet_means.proofs.CompleteLaws.{complete_where_full, full_where_complete}
use Rattle.sheet_means.proofs.complete.is_complete.Goals as goal

counted : (n a b : ℕ) → IsTrue (nat_eq n (a * b)) → n ≡ a * b
counted n a b h = grind (arith, nat_tests)

counts : (n a b : ℕ) → n ≡ a * b → IsTrue (nat_eq n (a * b))
counts n a b h = grind (arith, nat_tests)

pub returns : goal.returns
returns c =
    let station = c.args.station.now in
    let valid = c.obs.ensures.valid in
    let obs = ap length c.obs.ensures.value in
    let sets = ap length c.sets.ensures.value in
    let targets = ap length c.targets.ensures.value in
    let both : length c.sets.result.now * length c.targets.result.now
    ≡ length station.sets * length station.targets = λ i. sets i * targets i in (
      λ h. complete_where_full station valid (sym obs
          ∙ counted (length c.obs.result.now) (length c.sets.result.now)
          (length c.targets.result.now) h ∙ both),
      λ h. counts (length c.obs.result.now) (length c.sets.result.now)
          (length c.targets.result.now) (obs ∙ full_where_complete station valid h ∙ sym both),
    )
