use Rattle.std.proofs.Common.{◌<◌, length, get_or, eqb, inl, inr}
use Rattle.std.proofs.lemmas.Bool.{cases_Bool, lt-ltb}
use Rattle.changed_lines.proofs.NamesRead.{short_is_bare, other_is_bare, zero_is_before}
use Rattle.changed_lines.proofs.renaming.is_bare.Goals as goal

pub returns-then-name-lt2-clause-bare : goal.returns-then-name-lt2-clause-bare
returns-then-name-lt2-clause-bare c =
    let short : length c.args.name.now < 2 = c.if-name-lt2.true in
    rw (lt-ltb (length c.args.name.now) 2 short) (short_is_bare c.args.name.now short)

pub returns-else-name-lt2-clause-bare : goal.returns-else-name-lt2-clause-bare
returns-else-name-lt2-clause-bare c = elim (cases_Bool (eqb (get_or c.args.name.now 0 0) 48)) [
  | inl h ↦ rw h tt
  | inr h ↦ rw h (other_is_bare c.args.name.now h)
]

pub returns-else-name-lt2-clause-zero : goal.returns-else-name-lt2-clause-zero
returns-else-name-lt2-clause-zero c = elim (cases_Bool (eqb (get_or c.args.name.now 0 0) 48)) [
  | inl h ↦ rw h (zero_is_before c.args.name.now c.if-name-lt2.false h)
  | inr h ↦ rw h tt
]
