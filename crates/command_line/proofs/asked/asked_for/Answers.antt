use Rattle.std.proofs.Common.{◌≡◌, IfErr, inl, inr, map, rules, string_bytes, subst}
use Rattle.std.proofs.lemmas.Result.{IfErr-weaker, IfOk-weaker}
use Rattle.std.specs.Prelude.{Result, Err}
use Rattle.clap.specs.declared.error.Error.{Error}
use Rattle.command_line.specs.CommandLine.{Asked, IsAskedFor, IsMistakeIn, NamesMistake}
use Rattle.command_line.proofs.asked.asked_for.Goals as goal

pub returns-in_err-matches-clause-mistake : goal.returns-in_err-matches-clause-mistake
returns-in_err-matches-clause-mistake c =
    let fault = c.in_err-matches.field-0.0 in
    let same : Err fault ≡ c.from_residual.result = search rules in
    subst (λ (r : Result Asked Error).
    IfErr r (IsMistakeIn (map string_bytes c.args.words.now) c.args.table.now)) same
    (inl c.in_err-matches.ensures.kinds)

pub returns-clause-asked : goal.returns-clause-asked
returns-clause-asked c =
    IfOk-weaker c.request_named.result _ _
    (λ request asked.
    record {
      taken = c.in_ok-matches.ensures.kinds;
      asked = subst (λ named. IsAskedFor named c.args.table.now request)
          c.in_ok-matches.ensures.met asked;
    })
    c.request_named.ensures.asked

pub returns-clause-mistake : goal.returns-clause-mistake
returns-clause-mistake c =
    IfErr-weaker c.request_named.result _ _
    (λ error mistake.
    elim mistake [
      | inl memory ↦ inl (inl memory)
      | inr named ↦ inr (
        c.in_ok-matches.ensures.kinds,
        subst (λ n. NamesMistake n c.args.table.now error) c.in_ok-matches.ensures.met named,
      )
    ])
    c.request_named.ensures.mistake
