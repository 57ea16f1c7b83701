-- Parts that are readings as most are written.
use Rattle.std.proofs.Common.{◌≡◌, ℕ, true, false, List, get_or, not, refl, ap, inl, inr}
use Rattle.std.proofs.Common.{arith}
use Rattle.std.specs.Prelude.{◌==◌}
use Rattle.std.proofs.lemmas.Bool.{cases_Bool, eqb-true, ne_eqb}
use Rattle.std.proofs.lemmas.List.Sums.{AllPass-from_list_all}
use Rattle.std.proofs.lemmas.List.Elements.{All-weaker}
use Rattle.gsi_word.specs.Words.{IsLineByte}
use Rattle.gsi_word.specs.PlainLines.{is_plain_reading}
use Rattle.gsi_word.proofs.PlainLines.{reading_line}
use Rattle.gsi_file.specs.Parts.{is_blank, is_line, is_line_end, HasNoEnd}

-- Such a part is a line: its first byte is no blank.
pub is_numbered : (part : List ℕ) → is_plain_reading part ≡ true → is_line part ≡ true
is_numbered part e = elim (cases_Bool (is_blank part)) [
  | inl blank ↦
      let ink = (reading_line part e).reading.ink in
      let long = (reading_line part e).reading.long in
      let first : get_or part 0 0 ≡ 32 = eqb-true (get_or part 0 0) 32
      (AllPass-from_list_all (λ b. b == 32) part blank 0 0 (omega (arith, long))) in
      absurd (omega (arith, ink, first))
  | inr not_blank ↦ ap not not_blank
]

no_line_end : (b : ℕ) → IsLineByte b → is_line_end b ≡ false
no_line_end b is =
    let low = is.0 in
    let feed : (b == 10) ≡ false = ne_eqb b 10 (omega (arith, low)) in
    let return : (b == 13) ≡ false = ne_eqb b 13 (omega (arith, low)) in
    rw (feed, return) refl

-- None of its bytes ends a line.
pub has_no_end : (part : List ℕ) → is_plain_reading part ≡ true → HasNoEnd part
has_no_end part e =
    All-weaker IsLineByte (λ b. is_line_end b ≡ false) no_line_end part
    (reading_line part e).reading.block.printable
