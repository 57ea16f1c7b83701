-- What is stated of the sets of a station takes no part in where they stand.
use Rattle.std.proofs.Common.{◌≡◌, Bool, true, false, List, [], ◌∷◌, Option, Some, None, sym, ◌∙◌}
use Rattle.std.specs.Prelude.{if◌then◌else◌}
use Rattle.set_marks.specs.declared.division.Divided.TheVariants.{NoSets, Sets}
use Rattle.set_marks.specs.declared.flaw.Flaw.{Flaw}
use Rattle.set_marks.specs.declared.sight.Sight.{Sight}
use Rattle.set_marks.specs.declared.span.Span.{Span}
use Rattle.job_statements.specs.declared.stated.Numbers.{Numbers}
use Rattle.set_marks.specs.Divisions.{divided_unless, span_from, has_no_sets}
use Rattle.set_marks.specs.Ways.{Way, ways_of, no_way_flaw, doubt_by, span_by, divided_by, divided}

same_span : (o : Option Flaw) (here there : Span) → divided_unless o here ≡ Sets there
    → here ≡ there
same_span None here there e = cc
same_span (Some f) here there e = cc

by_ways : (stated other : Numbers) (rs : List Sight) (ways : List Way) (here there : Span)
    → divided_by stated rs ways ≡ Sets here → divided_by other rs ways ≡ Sets there → here ≡ there
by_ways stated other rs [] here there e f =
    sym (same_span (no_way_flaw rs) (span_from 0 []) here e)
    ∙ same_span (no_way_flaw rs) (span_from 0 []) there f
by_ways stated other rs (way ∷ []) here there e f =
    sym (same_span (doubt_by stated rs way) (span_by rs way) here e)
    ∙ same_span (doubt_by other rs way) (span_by rs way) there f
by_ways stated other rs (way ∷ another ∷ ways) here there e f = cc

pub numbers_refuse : (stated other : Numbers) (rs : List Sight) (here there : Span)
    → divided stated rs ≡ Sets here → divided other rs ≡ Sets there → here ≡ there
numbers_refuse stated other rs here there e f = by (has_no_sets rs) e f where
  by : (none : Bool) → (if none then NoSets else divided_by stated rs (ways_of rs)) ≡ Sets here
      → (if none then NoSets else divided_by other rs (ways_of rs)) ≡ Sets there → here ≡ there
  by true e f = cc
  by false e f = by_ways stated other rs (ways_of rs) here there e f
