use Rattle.std.proofs.Common.{◌≡◌, ◌++◌, Some, rules, flat_map}
use Rattle.byte_digests.specs.NameTexts.{name_mark, shown}
use Rattle.byte_digests.proofs.Written.{so_err, then_some}
use Rattle.byte_digests.proofs.name_text.push_name.Goals as goal

pub returns-clause-begun : goal.returns-clause-begun
returns-clause-begun c =
    let old = c.args.text.now.items in
    let now = c.extend_from_slice.new.self.items in
    let new = c.push_shown.new.text.items in
    let name = c.args.name.now in
    let marked : now ≡ old ++ name_mark name = search rules in
    so_err c.push_shown.result
    (λ rest. then_some (Some old) (Some now) (Some new) (name_mark name) (flat_map shown name)
    marked rest) c.push_shown.ensures.begun
