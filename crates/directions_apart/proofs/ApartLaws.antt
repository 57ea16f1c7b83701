-- Half the spread of the differences is how near a rotation brings stated directions, and what one
-- brings near a choice is brought as near to each that is the same but for turns and a rotation.
use Rattle.std.proofs.Common.{◌≡◌, ℕ, ◌+◌, ◌-◌, ◌*◌, ◌≤◌, ◌<◌, ◌+ℤ◌, ℤ, pos, arith, ap}
use Rattle.std.proofs.Math.IntN.{◌*ℤ◌, ◌-ℤ◌}
use Rattle.std.proofs.Math.Nat.{le_of_mul-le-mul_left, mul-le-mul, mul-le-mul_left}
use Rattle.std.proofs.lemmas.Int.{ints}
use Rattle.adjust_kernel.specs.Residuals.{Choice}
use Rattle.exact_adjustment.proofs.Products.{products, times_within}
use Rattle.adjust_kernel.specs.Within.{IsWithin}
use Rattle.directions_apart.specs.Apart.{AreBroughtNear, AreBroughtWithin, AreNumbersWithin}
use Rattle.directions_apart.specs.Apart.{IsApart, IsHalfSpread, circle_of, difference}
use Rattle.directions_apart.specs.Arcs.{IsArc}

-- Half a spread that is so narrow is not rounded up beyond it.
no_more : (d q n near off w spread : ℕ) → 1 ≤ q → near + 2 * off ≤ 162_000 * n
    → 2 * q * spread ≤ 2 * (near * (d * q))
    → w * (162_000 * d) < spread + d * (2 * off) + 162_000 * d → ¬ (n < w)
no_more d q n near off w spread some counted short least fewer =
    let h : q * spread ≤ q * (near * d) = omega (arith, short) in
    let narrow : spread ≤ near * d = le_of_mul-le-mul_left h some in
    let room : d * (near + 2 * off) ≤ d * (162_000 * n) = mul-le-mul_left d counted in
    let more : 162_000 * d * (n + 1) ≤ 162_000 * d * w =
    mul-le-mul_left (162_000 * d) (omega (arith, fewer)) in
    omega (arith, narrow, room, more, least)

-- Half the spread is so narrow that what numbers are off has room.
room_for : (d off w spread : ℕ) → 1 ≤ d → spread + d * (2 * off) ≤ w * (162_000 * d)
    → (near : ℕ) × (near + 2 * off ≡ 162_000 * w) × (spread ≤ d * near)
room_for d off w spread some within =
    let all : d * (2 * off) ≤ d * (162_000 * w) = omega (arith, within) in
    let room : 2 * off ≤ 162_000 * w = le_of_mul-le-mul_left all some in
    let near = 162_000 * w - 2 * off in
    let is : near + 2 * off ≡ 162_000 * w = omega (arith, room) in
    let parts = ap (λ n. d * n) is in (near, is, omega (arith, within, parts))

module _ (targets : ℕ) (c : Choice) (stated : ℕ → ℤ) (off apart : ℕ)
    (is : IsHalfSpread targets c stated off apart) where
  -- One rotation brings the middle of the arc to 0.
  near_middle : (near : ℕ) → is.spread ≤ c.denominator * near → AreBroughtNear targets c stated near
  near_middle near room =
      let arc = is.is_spread.held in
      record {
        parts = 2;
        positive = omega arith;
        rotation = pos 2 *ℤ arc.start +ℤ pos is.spread;
        circles = arc.circles;
        each = λ t h. let low = arc.low t h in let high = arc.high t h in
            simp products (omega (arith, ints, room));
      }

  brought : 1 ≤ c.denominator → AreBroughtWithin targets c stated off apart
  brought some =
      let (near, counted, room) =
      room_for c.denominator off apart is.spread some is.rounded_up.not_below in
      record { near = near; brought = near_middle near room; counted = omega (arith, counted) }

  module _ (most : ℕ) (b : AreBroughtNear targets c stated most) where
    abbrev reach : ℕ
    reach = most * (c.denominator * b.parts)

    reached : IsArc (circle_of c) (difference c stated) targets (2 * b.parts) (2 * reach)
    reached = record {
      start = pos 2 *ℤ b.rotation -ℤ pos reach;
      circles = b.circles;
      low = λ t h. let w = simp products at (b.each t h) in simp products (omega (arith, ints));
      high = λ t h. let w = simp products at (b.each t h) in simp products (omega (arith, ints));
    }

  -- Half the spread is how far they are apart.
  pub half_spread_is_apart : 1 ≤ c.denominator → IsApart targets c stated off apart
  half_spread_is_apart some = record {
    brought = brought some;
    no_nearer = λ n fewer b. no_more c.denominator b.brought.parts n b.near off apart is.spread
        b.brought.positive b.counted
        (is.is_spread.narrowest (2 * b.brought.parts) (2 * reach b.near b.brought)
        (omega (arith, b.brought.positive)) (reached b.near b.brought)) is.rounded_up.least fewer;
  }

-- How far directions are apart is one number.
pub one_apart : (targets : ℕ) (c : Choice) (stated : ℕ → ℤ) (off a b : ℕ)
    → IsApart targets c stated off a → IsApart targets c stated off b → a ≡ b
one_apart targets c stated off a b p q =
    let f : a < b → ⊥ = λ h. q.no_nearer a h p.brought in
    let g : b < a → ⊥ = λ h. p.no_nearer b h q.brought in
    omega (arith, f, g)

-- The numbers that are off are brought as near as is said.
pub numbers_near : (targets parts off most : ℕ) (c : Choice) (stated number : ℕ → ℤ) → 1 ≤ parts
    → ((t : ℕ) → t < targets → IsWithin (pos (parts * off)) (number t -ℤ pos parts *ℤ stated t))
    → AreBroughtWithin targets c stated off most → AreNumbersWithin targets c parts number most
numbers_near targets parts off most c stated number some close b =
    let d = c.denominator in
    let q = b.brought.parts in
    record {
      over = 2 * q;
      positive = omega (arith, b.brought.positive);
      rotation = pos (2 * parts) *ℤ b.brought.rotation;
      circles = b.brought.circles;
      each = λ t h.
          let w = simp products at (times_within parts _ _ (b.brought.each t h)) in
          let v = simp products at (times_within (2 * q * d) _ _ (close t h)) in
          let room = mul-le-mul_left (parts * (d * q)) b.counted in
          simp products (omega (arith, ints, room));
    }

-- Another choice is the same but for whole turns of the targets and one rotation.
pub record AreTurned (targets : ℕ) (c other : Choice) : Type 0 where
  pub turns : ℕ → ℤ
  pub rotation : ℤ
  pub directions : (t : ℕ) → t < targets
      → pos other.denominator *ℤ c.direction t
      -ℤ pos c.denominator
      *ℤ (other.direction t -ℤ pos (other.denominator * 80_000_000) *ℤ turns t) ≡ rotation

pub turned_back : (targets : ℕ) (c other : Choice) → AreTurned targets c other
    → AreTurned targets other c
turned_back targets c other s = record {
  turns = λ t. pos 0 -ℤ s.turns t;
  rotation = pos 0 -ℤ s.rotation;
  directions = λ t h.
      let f = simp products at (s.directions t h) in simp products (omega (arith, ints));
}

-- What is brought near a choice is brought as near to the other.
pub as_near : (targets : ℕ) (c other : Choice) (stated : ℕ → ℤ) (most : ℕ) → 1 ≤ c.denominator
    → AreTurned targets c other → AreBroughtNear targets c stated most
    → AreBroughtNear targets other stated most
as_near targets c other stated most some s b =
    let d = c.denominator in
    let e = other.denominator in
    let q = b.parts in
    record {
      parts = q * d;
      positive = mul-le-mul b.positive some;
      rotation = pos e *ℤ b.rotation +ℤ pos (405_000 * q) *ℤ s.rotation;
      circles = λ t. b.circles t +ℤ s.turns t;
      each = λ t h.
          let w = simp products at (times_within e (most * (d * q)) _ (b.each t h)) in
          let f = simp products at (ap (λ z. pos (405_000 * q) *ℤ z) (s.directions t h)) in
          simp products (omega (arith, ints));
    }

-- They are as far apart from the other choice.
pub as_far_apart : (targets : ℕ) (c other : Choice) (stated : ℕ → ℤ) (off apart : ℕ)
    → 1 ≤ c.denominator → 1 ≤ other.denominator → AreTurned targets c other
    → IsApart targets c stated off apart → IsApart targets other stated off apart
as_far_apart targets c other stated off apart some others s is = record {
  brought = record {
    near = is.brought.near;
    brought = as_near targets c other stated is.brought.near some s is.brought.brought;
    counted = is.brought.counted;
  };
  no_nearer = λ n fewer b. is.no_nearer n fewer (record {
    near = b.near;
    brought = as_near targets other c stated b.near others (turned_back targets c other s)
        b.brought;
    counted = b.counted;
  });
}
