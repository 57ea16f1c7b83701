use Rattle.std.proofs.Common.{rules, ◌-◌, ◌*◌, ◌/◌, length, sym, subst, All, arith}
use Rattle.std.proofs.lemmas.List.{take_rest}
use Rattle.std.proofs.lemmas.List.Elements.{All-drop}
use Rattle.gsi_word.specs.Words.{IsLineByte}
use Rattle.gsi_word.proofs.PrintableLaws.{all_of_both}
use Rattle.gsi_word.proofs.printable.are_printable.Goals as goal

pub returns-then-has_no_unprintable : goal.returns-then-has_no_unprintable
returns-then-has_no_unprintable c =
    let bytes = c.args.bytes.now in
    let last = length bytes - 16 in
    let rest = take_rest bytes last in (
      λ yes. all_of_both bytes (length bytes / 16 * 16) last (omega arith) (search rules)
          (subst (All IsLineByte) rest (c.has_no_unprintable-then-has_no_unprintable.ensures.0
          yes)),
      λ all. c.has_no_unprintable-then-has_no_unprintable.ensures.1
          (subst (All IsLineByte) (sym rest) (All-drop IsLineByte last bytes all)),
    )
