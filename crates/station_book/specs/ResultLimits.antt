-- What a station's results are held to.
use Rattle.adjust_kernel.specs.declared.bounds.TheConstants.{LARGEST_RESIDUAL_LIMIT}
use Rattle.station_book.specs.Limits.{FaceLimits}
use Rattle.station_book.specs.declared.result_limits.ResultLimits.{ResultLimits}

-- These limits of face differences, and the largest limit of residuals.
abbrev pub of_faces : FaceLimits → ResultLimits
of_faces faces = record { faces = faces; residual = LARGEST_RESIDUAL_LIMIT }
