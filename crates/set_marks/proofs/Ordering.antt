-- Code lines in order, and one more after them.
use Rattle.std.proofs.Common.{ℕ, ◌≤◌, List, [], ◌∷◌, ◌++◌, arith}
use Rattle.set_marks.specs.declared.mark.Mark.{Mark}
use Rattle.set_marks.specs.Marks.{HasRoom}
use Rattle.set_marks.specs.Copies.{AreOrdered}

-- They are in order up to any later place.
pub up_to : (from last more : ℕ) (ms : List Mark) → AreOrdered from last ms → last ≤ more
    → AreOrdered from more ms
up_to from last more [] ordered le = omega (arith, ordered)
up_to from last more (m ∷ ms) ordered le =
    (ordered.0, omega (arith, ordered.1), ordered.2, up_to m.at last more ms ordered.3 le)

-- One more at the last place or after it.
pub one_more : (from last : ℕ) (ms : List Mark) (m : Mark) → AreOrdered from last ms → last ≤ m.at
    → HasRoom m.wide m.code → AreOrdered from m.at (ms ++ m ∷ [])
one_more from last [] m ordered le room = (omega (arith, ordered), omega arith, room, omega arith)
one_more from last (n ∷ ms) m ordered le room = (
  ordered.0,
  omega (arith, ordered.1),
  ordered.2,
  one_more n.at last ms m ordered.3 le room,
)
