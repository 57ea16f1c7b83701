use Rattle.std.proofs.Common.{ℕ, ◌<◌, ◌/◌, ◌^◌, ◌*◌, ap, refl, ◌∙◌, arith}
use Rattle.std.specs.Int.{from_le_bytes, w128}
use Rattle.std.proofs.lemmas.List.{take_all}
use Rattle.std.proofs.lemmas.List.Elements.{All-from_get_or, recursion_from_All}
use Rattle.adjust_kernel.proofs.BytesMoved.{AreBytes, sixteen_moved}
use Rattle.adjust_kernel.proofs.name.ends.end_of_sixteen.Goals as goal

pub returns : goal.returns
returns c =
    let bytes = c.args.bytes.now in
    let all : AreBytes bytes =
    recursion_from_All (λ b. b < 256) bytes
    (All-from_get_or (λ b. b < 256) bytes 0 (λ i inside. (c.type_inv.bytes i).fits)) in
    sixteen_moved bytes c.args.from (c.from_le_bytes-number.result / 2 ^ (8 * c.args.from)) _ _
    c.requires.sixteen all
    (ap (λ (n : ℕ). n / 2 ^ (8 * c.args.from))
    (c.from_le_bytes-number.ensures
    ∙ ap (from_le_bytes w128) (take_all 16 bytes (omega (arith, c.requires.sixteen))))) refl refl
