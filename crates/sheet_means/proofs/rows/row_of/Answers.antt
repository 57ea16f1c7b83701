use Rattle.std.proofs.Common.{get_or, ℕ, ℤ, List, w8, FitsSigned, arith, ap, sym, ◌∙◌, subst}
use Rattle.std.proofs.lemmas.Int.{to_z-of_z, ints}
use Rattle.adjust_kernel.specs.Names.{IsName}
use Rattle.adjust_kernel.specs.Sheets.{IsSetNumber}
use Rattle.adjust_kernel.specs.Within.{IsWithin}
use Rattle.adjust_kernel.specs.declared.bounds.TheConstants.{LARGEST_TURN}
use Rattle.sheet_means.specs.declared.turn.TheConstants.{MOST_TURNS}
use Rattle.sheet_means.proofs.rows.row_of.Goals as goal

few_turns : (z : ℤ) → IsWithin MOST_TURNS z → IsWithin LARGEST_TURN z
few_turns z w = let l = w.low in let h = w.high in record {
  low = omega (arith, ints);
  high = omega (arith, ints);
}

pub returns-clause-row : goal.returns-clause-row
returns-clause-row c =
    let valid = c.sets.ensures.valid in
    let obs = c.args.obs.now in
    let target = c.index-targets-target.result in
    let fits : FitsSigned w8 c.turn_of.result = record { sfits = c.turn_of.type_inv } in
    let turn =
    subst (IsWithin MOST_TURNS) (sym (to_z-of_z w8 c.turn_of.result fits))
    c.turn_of.ensures.bound in
    record {
      row = record {
        set = subst (λ (sets : List ℕ). IsSetNumber (get_or sets obs.set 0))
            (sym c.sets.ensures.value) (valid.sets.numbers obs.set 0 c.requires.obs.set);
        target = subst IsName (sym (c.index-targets-target.is
            ∙ ap (λ (names : List (List ℕ)). get_or names obs.target target)
            c.targets.ensures.value)) (valid.targets.names obs.target target c.requires.obs.target);
        value = c.requires.obs.value;
        turn = few_turns _ turn;
      };
      turn = turn;
    }
