use Rattle.std.proofs.Common.{◌≡◌, ◌++◌, ◌∷◌, [], List, rules, sym, ap, ◌∙◌}
use Rattle.std.specs.Prelude.{slice_get}
use Rattle.set_marks.specs.declared.zeniths.ZenithRange.{ZenithRange}
use Rattle.set_marks.specs.Zeniths.{range_of, with_angle, zenith_in_one}
use Rattle.set_marks.proofs.RangePlaces.{widens, begins}
use Rattle.set_marks.proofs.zeniths.add_at.Goals as goal

pub returns-in-Some : goal.returns-in-Some
returns-in-Some c =
    let same : c.args.ranges.now.items ≡ c.deref.result.now = search rules in
    let wide : c.with_angle-wider.result
    ≡ with_angle c.in-Some.range.now (zenith_in_one c.args.sight.now) = search rules in
    widens c.args.ranges.now.items c.in-Some.range.now c.with_angle-wider.result c.args.sight.now
    c.args.place c.requires
    (ap (λ (l : List ZenithRange). slice_get l c.args.place) same ∙ sym c.in-Some.ensures) wide

pub returns-in_ok-push-in-None : goal.returns-in_ok-push-in-None
returns-in_ok-push-in-None c =
    let same : c.args.ranges.now.items ≡ c.deref.result.now = search rules in
    let more : c.push.new.self.items
    ≡ c.args.ranges.now.items ++ range_of c.args.sight.now ∷ [] = search rules in
    more ∙ begins c.args.ranges.now.items c.args.sight.now c.args.place c.requires
    (ap (λ (l : List ZenithRange). slice_get l c.args.place) same ∙ sym c.in-None.ensures)
