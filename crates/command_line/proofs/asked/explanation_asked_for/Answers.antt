use Rattle.std.proofs.Common.{◌≡◌, rules, inr, map, codes, Some}
use Rattle.std.specs.Prelude.{option_map}
use Rattle.clap.specs.Words.{found_of, matched_of, raw_values}
use Rattle.command_line.proofs.NamingLaws.{names_fault}
use Rattle.command_line.proofs.asked.explanation_asked_for.Goals as goal

pub returns-in-Some-explanation_meant-clause-asked :
    goal.returns-in-Some-explanation_meant-clause-asked
returns-in-Some-explanation_meant-clause-asked c =
    let given : option_map raw_values (matched_of (found_of c.args.found.now) (codes "FAULT"))
    ≡ Some (map (λ w. w.now) c.in-Some.words.now) = search rules in (
      c.fault_named_in-name.result.now,
      names_fault (found_of c.args.found.now) c.in-Some.words.now _ _ given
          (search rules) c.fault_named_in-name.ensures,
      search rules,
    )

pub returns-clause-mistake : goal.returns-clause-mistake
returns-clause-mistake c =
    let given : option_map raw_values (matched_of (found_of c.args.found.now) (codes "FAULT"))
    ≡ Some (map (λ w. w.now) c.in-Some.words.now) = search rules in
    inr (
      search rules,
      (
        c.fault_named_in-name.result.now,
        names_fault (found_of c.args.found.now) c.in-Some.words.now _ _ given
            (search rules) c.fault_named_in-name.ensures,
        search rules,
      ),
    )
