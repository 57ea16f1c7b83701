use Rattle.std.proofs.Common.{codes, inl, inr, refl, rules}
use Rattle.std.proofs.lemmas.Result.{IfErr-weaker, IfOk-weaker}
use Rattle.clap.specs.Words.{found_of}
use Rattle.command_line.proofs.CommandsLaws.{meets, meets_none}
use Rattle.command_line.proofs.asked.request_named.Goals as goal

pub returns-in-None-clause-asked : goal.returns-in-None-clause-asked
returns-in-None-clause-asked c = inl (meets_none c.args.matches.now (search rules), refl)

pub returns-in-Some-explain-default-clause-asked :
    goal.returns-in-Some-explain-default-clause-asked
returns-in-Some-explain-default-clause-asked c =
    let met = meets c.args.matches.now (codes "explain")
    (found_of c.in-Some-explain-default.found.now)
    (search (rules, c.in-Some-explain-default.ensures.name, c.in-Some-explain-default.is-explain))
    (search (rules, c.in-Some-explain-default.ensures.rows)) in
    IfOk-weaker c.explanation_asked_for.result _ _
    (λ request asked.
    inr (record { name = codes "explain"; found = _; met = met; asked = inr (refl, asked) }))
    c.explanation_asked_for.ensures.asked

pub returns-in-Some-explain-default-clause-mistake :
    goal.returns-in-Some-explain-default-clause-mistake
returns-in-Some-explain-default-clause-mistake c =
    let met = meets c.args.matches.now (codes "explain")
    (found_of c.in-Some-explain-default.found.now)
    (search (rules, c.in-Some-explain-default.ensures.name, c.in-Some-explain-default.is-explain))
    (search (rules, c.in-Some-explain-default.ensures.rows)) in
    IfErr-weaker c.explanation_asked_for.result _ _
    (λ error mistaken.
    inr (record { name = codes "explain"; found = _; met = met; mistaken = inl (refl, mistaken) }))
    c.explanation_asked_for.ensures.mistake

pub returns-in-Ok-Some-clause-asked : goal.returns-in-Ok-Some-clause-asked
returns-in-Ok-Some-clause-asked c =
    let asked = rw c.in-Ok-Some.field-0-is at c.in-Ok-Some.ensures.asked in
    inr (record {
      name = c.in-Some.name.now;
      found = found_of c.in-Some.found.now;
      met = meets c.args.matches.now c.in-Some.name.now (found_of c.in-Some.found.now)
          (search (rules, c.in-Some.ensures.name)) (search (rules, c.in-Some.ensures.rows));
      asked = inl asked;
    })

pub returns-in_ok-mistake_in-in-Ok-None-clause-mistake :
    goal.returns-in_ok-mistake_in-in-Ok-None-clause-mistake
returns-in_ok-mistake_in-in-Ok-None-clause-mistake c =
    let lacks = rw c.in-Ok-None.field-0-is at c.in-Ok-None.ensures.none in
    inr (record {
      name = c.in-Some.name.now;
      found = found_of c.in-Some.found.now;
      met = meets c.args.matches.now c.in-Some.name.now (found_of c.in-Some.found.now)
          (search (rules, c.in-Some.ensures.name)) (search (rules, c.in-Some.ensures.rows));
      mistaken = inr (
        search rules,
        search rules,
        lacks,
      );
    })
