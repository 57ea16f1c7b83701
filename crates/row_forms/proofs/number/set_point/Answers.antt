use Rattle.std.proofs.Common.{◌≡◌, ◌<◌, get_or, length, rules}
use Rattle.row_forms.specs.Forms.{with_comma}
use Rattle.row_forms.proofs.TurnedBytes.{turned-more}
use Rattle.row_forms.proofs.number.set_point.Goals as goal

pub loop-byte-preserved : goal.loop-byte-preserved
loop-byte-preserved c =
    let old = c.args.number.now.items in
    let items = c.loop-byte.byte-items in
    let i = c.loop-byte.byte-index in
    let here : i < length items = search rules in
    let same : length items ≡ length old = search rules in
    let turned : c.with_comma.result ≡ with_comma (get_or items i 0) = search rules in
    turned-more with_comma old items i c.with_comma.result here same
    c.loop-byte.invariant.0 c.loop-byte.invariant.1 turned
