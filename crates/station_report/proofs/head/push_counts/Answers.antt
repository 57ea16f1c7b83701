use Rattle.std.proofs.Common.{◌∙◌, ◌++◌, List, ℕ, ap, decimal, length}
use Rattle.adjust_kernel.specs.declared.obs.Obs.{Obs}
use Rattle.report_phrases.specs.Phrases.{said}
use Rattle.report_phrases.specs.declared.phrase.Phrase.TheVariants as phrase
use Rattle.station_report.specs.ReportTexts.{entry_text}
use Rattle.station_report.proofs.PlaceLaws.{three}
use Rattle.station_report.proofs.head.push_counts.Goals as goal

pub returns : goal.returns
returns c =
    let language = c.args.language in
    let station = c.args.station.now in
    three c.args.text.now.items c.push_counted.new.text.items c.push_counted-2.new.text.items
    c.push_counted-3.new.text.items
    (entry_text (said language phrase.Sets) (decimal (length station.sets)))
    (entry_text (said language phrase.Targets) (decimal (length station.targets)))
    (entry_text (said language phrase.TwoFaceDirections) (decimal (length station.obs)))
    (c.in_ok-push_counted.ensures
    ∙ ap (λ (sets : List ℕ). c.args.text.now.items
    ++ entry_text (said language phrase.Sets) (decimal (length sets))) c.sets.ensures.value)
    (c.in_ok-push_counted-2.ensures
    ∙ ap (λ (targets : List (List ℕ)). c.push_counted.new.text.items
    ++ entry_text (said language phrase.Targets) (decimal (length targets)))
    c.targets.ensures.value)
    (c.in_ok-push_counted-3.ensures
    ∙ ap (λ (obs : List Obs). c.push_counted-2.new.text.items
    ++ entry_text (said language phrase.TwoFaceDirections) (decimal (length obs)))
    c.obs.ensures.value)
