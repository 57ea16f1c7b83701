use Rattle.std.proofs.Common.{◌≡◌, ◌+◌, ◌-◌, get_or, arith, refl}
use Rattle.wide_number.proofs.LimbLaws.{value_below-zero, value_below-suc, value_below_less}
use Rattle.wide_number.proofs.limbs.is_below.Goals as goal

pub returns-then-a-i : goal.returns-then-a-i
returns-then-a-i c =
    let i = c.loop-i.i - 1 in
    let e : i + 1 ≡ c.loop-i.i = omega arith in
    let less = rw e at (value_below_less c.args.a.now c.args.b.now i
    (λ k. (c.type_inv.a k).fits) c.if-a-i.true) in
    (λ t. omega (arith, c.loop-i.invariant.value), λ l. refl)

pub returns-then-a-i-2 : goal.returns-then-a-i-2
returns-then-a-i-2 c =
    let i = c.loop-i.i - 1 in
    let e : i + 1 ≡ c.loop-i.i = omega arith in
    let more = rw e at (value_below_less c.args.b.now c.args.a.now i
    (λ k. (c.type_inv.b k).fits) c.if-a-i-2.true) in
    (λ t. absurd cc, λ l. absurd (omega (arith, c.loop-i.invariant.value)))

pub loop-i-preserved : goal.loop-i-preserved
loop-i-preserved c =
    let i = c.loop-i.i - 1 in
    let e : i + 1 ≡ c.loop-i.i = omega arith in
    let same : get_or c.args.a.now i 0 ≡ get_or c.args.b.now i 0 = omega arith in
    let a = rw (e, same) at (value_below-suc c.args.a.now i) in
    let b = rw e at (value_below-suc c.args.b.now i) in
    omega (arith, c.loop-i.invariant)

pub returns : goal.returns
returns c =
    let e : c.loop-i.i ≡ 0 = omega arith in
    let same = rw (e, value_below-zero c.args.a.now, value_below-zero c.args.b.now)
    at c.loop-i.invariant.value in
    (λ t. absurd cc, λ l. absurd (omega arith))
