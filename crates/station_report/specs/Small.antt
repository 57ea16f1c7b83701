-- Numbers of an accuracy that fit where they are printed.
use Rattle.std.specs.Prelude.{◌<◌, ◌^◌}
use Rattle.std.specs.Option.{ForSome}
use Rattle.station_report.specs.declared.accuracy.Accuracy.{Accuracy}

-- The sum is below 2^40, and the standard deviations are below 2^31.
pub record AreSmall (accuracy : Accuracy) : Type 0 where
  pub squares : accuracy.squares < 2 ^ 40
  pub of_one : accuracy.of_one < 2 ^ 31
  pub of_adjusted : ForSome accuracy.of_adjusted (λ units. units < 2 ^ 31)
