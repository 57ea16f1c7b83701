use Rattle.std.proofs.Common.{ℕ, ◌<◌, ◌/◌, ◌^◌, ◌*◌, ap, ◌∙◌, arith}
use Rattle.std.specs.Int.{from_le_bytes, w64}
use Rattle.std.proofs.lemmas.List.{take_all}
use Rattle.std.proofs.lemmas.List.Elements.{All-from_get_or, recursion_from_All}
use Rattle.adjust_kernel.proofs.BytesMoved.{AreBytes, eight_moved}
use Rattle.adjust_kernel.proofs.name.ends.end_of_eight.Goals as goal

pub returns : goal.returns
returns c =
    let bytes = c.args.bytes.now in
    let all : AreBytes bytes =
    recursion_from_All (λ b. b < 256) bytes
    (All-from_get_or (λ b. b < 256) bytes 0 (λ i inside. (c.type_inv.bytes i).fits)) in
    eight_moved bytes c.args.from (c.from_le_bytes-number.result / 2 ^ (8 * c.args.from))
    c.requires.eight all
    (ap (λ (n : ℕ). n / 2 ^ (8 * c.args.from))
    (c.from_le_bytes-number.ensures
    ∙ ap (from_le_bytes w64) (take_all 8 bytes (omega (arith, c.requires.eight)))))
