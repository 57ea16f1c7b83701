use Rattle.std.proofs.Common.{ap, sym, ◌∙◌, subst}
use Rattle.std.proofs.lemmas.Slice.Eq.{bytes_eq-Decides}
use Rattle.adjust_kernel.specs.Names.{IsName, padded}
use Rattle.adjust_kernel.proofs.NameLaws.{same_kept}
use Rattle.adjust_kernel.proofs.name.Name.is_same.Goals as goal

pub returns : goal.returns
returns c =
    let value =
    same_kept c.args.self.now c.args.other.now c.self.inside.bytes c.other.inside.bytes c.eq.result
    c.eq.ensures
    (c.self.invariant.0 ∙ ap padded c.self.view_is)
    (c.other.invariant.0 ∙ ap padded c.other.view_is)
    (subst IsName c.self.view_is c.self.invariant.2)
    (subst IsName c.other.view_is c.other.invariant.2) in
    let decides = bytes_eq-Decides c.args.self.now c.args.other.now in
    record { value = value; same = (λ e. decides.0 (sym value ∙ e), λ e. value ∙ decides.1 e) }
