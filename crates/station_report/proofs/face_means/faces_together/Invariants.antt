use Rattle.station_report.specs.Readings.{two_c_at, two_i_at}
use Rattle.station_report.specs.Together.{AreTogether}
use Rattle.station_report.proofs.face_means.faces_together.Given as goal

abbrev pub invariant-loop-place : goal.invariant-loop-place
invariant-loop-place l =
    AreTogether l.place (two_c_at l.fn.surveyed) l.two_c
    × AreTogether l.place (two_i_at l.fn.surveyed) l.two_i
