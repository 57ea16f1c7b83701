use Rattle.std.proofs.Common.{◌≡◌, ◌∙◌, ◌≤◌, ◌<◌, ◌*◌, ◌-◌, ◌/◌, arith, length}
use Rattle.std.specs.List.{sum, sum_by}
use Rattle.station_report.specs.Deviations.{square_above, square_below}
use Rattle.station_report.proofs.ZenithLaws.{quotient_within, root_of_quotient}
use Rattle.station_report.proofs.zenith_sums.ZenithSums.deviation.Goals as goal

within : (c : goal.After-from) → c.from.result * c.saturating_sub-squares.result
    / (c.from-count.result * ((c.from-count.result - 1) * c.from-count.result))
    ≤ 640_000_000_000_000_000
within c =
    let n = c.args.self.count in
    let q = c.args.self.squares in
    let m = c.saturating_sub-squares.result in
    let is = rw c.from-count.ensures at c.saturating_sub-squares.ensures in
    let less : m ≤ n * q = omega (arith, is) in
    simp (c.from.ensures, c.from-count.ensures)
    (quotient_within n q m c.requires less c.args.self.squares_in)

pub overflow_cast-from : goal.overflow_cast-from
overflow_cast-from c = let w = within c in omega (arith, w)

pub half_root-requires : goal.half_root-requires
half_root-requires c = within c

pub returns : goal.returns
returns c = λ zeniths sums.
    let units = c.half_root.result in
    let n = length zeniths in
    let s = sum zeniths in
    let q = sum_by (λ one. one * one) zeniths in
    let count = c.from-count.ensures ∙ sums.count in
    let total = c.from-sum.ensures ∙ sums.sum in
    let m : c.saturating_sub-squares.result ≡ n * q - s * s =
    rw (count, total, sums.squares) at c.saturating_sub-squares.ensures in
    let below : square_below units ≤ 100 * (n * q - s * s) / (n * ((n - 1) * n)) =
    rw (c.from.ensures, m, count) at c.half_root.ensures.low in
    let above : 100 * (n * q - s * s) / (n * ((n - 1) * n)) < square_above units =
    rw (c.from.ensures, m, count) at c.half_root.ensures.high in
    let some = c.requires in
    let is = sums.count in
    root_of_quotient zeniths (omega (arith, some, is)) units below above
