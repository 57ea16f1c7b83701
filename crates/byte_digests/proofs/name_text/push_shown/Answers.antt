use Rattle.std.proofs.Common.{◌<◌, ◌+◌, Some, length, flat_map, drop, rules}
use Rattle.std.specs.Prelude.{slice_index}
use Rattle.byte_digests.specs.NameTexts.{shown}
use Rattle.byte_digests.proofs.Written.{partly_none, partly_then, partly_some}
use Rattle.byte_digests.proofs.Written.{next_byte, in_any_case}
use Rattle.byte_digests.proofs.name_text.push_shown.Goals as goal

pub bytes-init : goal.bytes-init
bytes-init c = partly_none (flat_map shown c.args.name.now) (Some c.args.text.now.items)

pub bytes-preserved : goal.bytes-preserved
bytes-preserved c =
    let name = c.args.name.now in
    let i = c.bytes.byte-index in
    let inside : i < length name = search rules in
    partly_then (flat_map shown name) (flat_map shown (drop i name))
    (shown (slice_index name i)) (flat_map shown (drop (i + 1) name))
    (Some c.args.text.now.items) (Some c.bytes.text.items) (Some c.push_byte.new.text.items)
    c.bytes.invariant c.in_ok-push_byte.ensures.added (next_byte shown name i inside)

pub returns-in_err-push_byte-clause-begun : goal.returns-in_err-push_byte-clause-begun
returns-in_err-push_byte-clause-begun c =
    let name = c.args.name.now in
    let i = c.bytes.byte-index in
    let inside : i < length name = search rules in
    in_any_case c.from_residual.result
    (partly_some (flat_map shown name) (flat_map shown (drop i name))
    (shown (slice_index name i)) (flat_map shown (drop (i + 1) name))
    (Some c.args.text.now.items) (Some c.bytes.text.items) (Some c.push_byte.new.text.items)
    c.bytes.invariant c.in_err-push_byte.ensures.begun (next_byte shown name i inside))
