-- A copy that is printed piece by piece.
use Rattle.std.proofs.Common.{◌≡◌, ℕ, ◌-◌, List, [], ◌∷◌, ◌++◌, take, drop, Option, Result, Ok, Err}
use Rattle.std.proofs.Common.{refl, ap}
use Rattle.std.proofs.Common.{sym, ◌∙◌, length, arith}
use Rattle.std.specs.Prelude.{OnOk, OnErr}
use Rattle.std.proofs.lemmas.List.{append-nil, length-drop, take_all}
use Rattle.set_marks.specs.declared.mark.Mark.{Mark}
use Rattle.set_marks.specs.Copies.{woven}
use Rattle.set_marks.specs.Marks.{line_of}
use Rattle.station_check.specs.Printing.{Prints, PrintsSome}
use Rattle.station_check.proofs.Partway.{Partway, partway_all, partway_then, partway_then_some}

-- Next come the bytes up to a place, and then its code line.
pub next_piece : (from : ℕ) (bytes : List ℕ) (left rest : List Mark) (m : Mark) → left ≡ m ∷ rest
    → woven from bytes left
    ≡ take (m.at - from) (drop from bytes) ++ (line_of m ++ woven m.at bytes rest)
next_piece from bytes left rest m e = ap (λ (ms : List Mark). woven from bytes ms) e

-- Where no code line is left, the bytes from here on are all.
pub last_piece : (from : ℕ) (bytes : List ℕ) (left : List Mark) → length left ≡ 0
    → woven from bytes left ≡ take (length bytes - from) (drop from bytes)
last_piece from bytes [] e =
    sym (take_all (length bytes - from) (drop from bytes) (omega (arith, length-drop from bytes)))
last_piece from bytes (m ∷ ms) e = absurd (omega (arith, e))

-- With the last piece printed, the whole text is.
pub whole_printed : {T E : Type 0} (r : Result T E) (text rest piece : List ℕ)
    (old now new : Option (List ℕ)) (waited between waits : List ℕ)
    → Partway text rest old waited now between → rest ≡ piece
    → OnOk r (Prints now between new waits piece) → OnOk r (Prints old waited new waits text)
whole_printed (Ok x) text rest piece old now new waited between waits p e h =
    partway_all text [] old new waited waits
    (partway_then text rest piece [] old now new waited between waits p h
    (e ∙ sym (append-nil piece))) refl
whole_printed (Err x) text rest piece old now new waited between waits p e h = tt

-- Where the last piece is printed in part, so is the text.
pub part_printed : {T E : Type 0} (r : Result T E) (text rest piece : List ℕ)
    (old now new : Option (List ℕ)) (waited between : List ℕ)
    → Partway text rest old waited now between → rest ≡ piece
    → OnErr r (PrintsSome now between new piece) → OnErr r (PrintsSome old waited new text)
part_printed (Ok x) text rest piece old now new waited between p e h = tt
part_printed (Err x) text rest piece old now new waited between p e h =
    partway_then_some text rest piece [] old now new waited between p h
    (e ∙ sym (append-nil piece))
