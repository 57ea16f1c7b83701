use Rattle.std.proofs.Common.{◌∙◌, ◌<◌, ◌++◌, ◌∷◌, [], List, ℕ, ap, append_assoc, length, rules}
use Rattle.std.proofs.Common.{map, sym}
use Rattle.std.specs.List.{concat}
use Rattle.report_pages.specs.declared.lines.TheConstants.{LINE_FEED}
use Rattle.report_pages.proofs.PageLaws.{repeated_text}
use Rattle.report_pages.proofs.head.push_repeated.Goals as goal

pub returns-in_ok-push : goal.returns-in_ok-push
returns-in_ok-push c =
    let text = c.args.text.now.items in
    let some : 0 < length c.args.head.now = search rules in
    let all = concat (map (λ line. line.now) c.args.head.now) in
    c.in_ok-push.ensures.items
    ∙ ap (λ (t : List ℕ). t ++ (LINE_FEED ∷ [])) c.in_ok-push_lines.ensures
    ∙ append_assoc text all (LINE_FEED ∷ [])
    ∙ ap (λ (t : List ℕ). text ++ t) (sym (repeated_text c.args.head.now some))
