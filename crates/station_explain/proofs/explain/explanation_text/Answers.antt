use Rattle.std.proofs.Common.{ap, ◌∙◌, ◌∷◌, [], codes}
use Rattle.std.specs.List.{flat_map}
use Rattle.station_explain.proofs.OkLaws.{with_value}
use Rattle.station_explain.proofs.explain.explanation_text.Goals as goal

pub returns : goal.returns
returns c =
    let e = c.args.entry.now in
    let after = codes ": " ∷ e.meaning.now ∷ codes "\n\n" ∷ e.when.now ∷ codes "\n\n  "
    ∷ e.example.now
    ∷ codes "\n\nWhat to do: " ∷ e.remedy.now ∷ codes "\n" ∷ [] in
    with_value c.concat.result
    (λ text is. is ∙ ap (λ names. flat_map (λ piece. piece) (names ∷ after))
    (c.as_str.ensures.value ∙ c.in_ok-names.ensures.ok)) c.concat.ensures.ok
