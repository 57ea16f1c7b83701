use Rattle.std.proofs.Common.{◌≡◌, List, ℕ, ap, sym, ◌∙◌, not, arith}
use Rattle.std.specs.List.{list_all}
use Rattle.std.proofs.lemmas.List.{take_all}
use Rattle.gsi_word.specs.Layout.{is_printable}
use Rattle.gsi_word.proofs.PrintableLaws.{printable_from_test, test_from_printable}
use Rattle.gsi_word.proofs.printable.has_no_unprintable.Goals as goal

pub returns : goal.returns
returns c =
    let bytes = c.args.bytes.now in
    let whole : not c.loop-byte.unprintable ≡ list_all is_printable bytes =
    c.loop-byte.invariant ∙ ap (λ (r : List ℕ). list_all is_printable r)
    (take_all c.loop-byte.byte-index bytes (omega arith)) in
    (λ h. printable_from_test bytes (sym whole ∙ h), λ h. whole ∙ test_from_printable bytes h)
