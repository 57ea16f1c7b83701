use Rattle.std.proofs.Common.{◌≡◌, ◌≤◌, length, sym, ap, ◌∙◌, arith}
use Rattle.std.proofs.lemmas.List.{length-take-le}
use Rattle.station_check.proofs.page.Page.add_bytes.Goals as goal

pub invariant_of-self : goal.invariant_of-self
invariant_of-self c =
    let inside : c.self.inside.len ≤ length c.self.inside.bytes =
    omega (arith, c.self.invariant.0, c.self.told) in
    let waits : length c.args.self.now ≡ c.self.inside.len =
    ap length (sym c.self.view_is)
    ∙ length-take-le c.self.inside.len c.self.inside.bytes inside in (
      omega (arith, c.requires, waits, c.put_bytes-self-inside.ensures.next),
      c.put_bytes-self-inside.ensures.whole,
    )
