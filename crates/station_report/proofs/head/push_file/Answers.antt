use Rattle.std.proofs.Common.{◌≡◌, ◌∙◌, ◌++◌, codes, rules}
use Rattle.byte_digests.specs.NameTexts.{name_text}
use Rattle.direction_table.proofs.Begun.{first_part, of_first, of_second}
use Rattle.direction_table.proofs.FirstDecimals.{in_any_case}
use Rattle.report_phrases.specs.Phrases.{said}
use Rattle.station_report.specs.NoteTexts.{label_text}
use Rattle.station_report.proofs.head.push_file.Goals as goal

pub returns-in_err-push_name-clause-begun : goal.returns-in_err-push_name-clause-begun
returns-in_err-push_name-clause-begun c =
    let some = c.in_err-push_name.ensures.begun in
    let old = c.args.text.now.items in
    let middle = c.push_label.new.text.items in
    let new = c.push_name.new.text.items in
    let path = name_text c.args.path.now in
    in_any_case c.from_residual-in_err-push_name.result
    (of_second (label_text (said c.args.language c.args.label)) (path ++ codes "\n") old middle new
    (rw c.said.ensures at c.in_ok-push_label.ensures.added)
    (of_first path (codes "\n") middle new (record { count = some.0; added = some.1 })))

pub returns-in_err-push-clause-begun : goal.returns-in_err-push-clause-begun
returns-in_err-push-clause-begun c =
    let old = c.args.text.now.items in
    let middle = c.push_label.new.text.items in
    let named = c.push_name.new.text.items in
    let new = c.push.new.self.items in
    let path = name_text c.args.path.now in
    let same : new ≡ named = search rules in
    in_any_case c.from_residual-in_err-push.result
    (of_second (label_text (said c.args.language c.args.label)) (path ++ codes "\n") old middle new
    (rw c.said.ensures at c.in_ok-push_label.ensures.added)
    (first_part path (codes "\n") middle new (same ∙ c.in_ok-push_name.ensures.added)))
