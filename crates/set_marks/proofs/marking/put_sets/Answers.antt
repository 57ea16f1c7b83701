use Rattle.std.proofs.Common.{◌≡◌, ◌∷◌, ◌++◌, ◌+◌, ◌∙◌, List, ℕ, length, rules, sym, ap, arith}
use Rattle.std.specs.Prelude.{slice_get}
use Rattle.set_marks.specs.declared.mark.BlockMark.{BlockMark}
use Rattle.set_marks.specs.declared.mark.Code.TheVariants.{Set}
use Rattle.set_marks.specs.Marking.{set_marks, mark_at}
use Rattle.set_marks.proofs.Joins.{next_set}
use Rattle.set_marks.proofs.marking.put_sets.Goals as goal

pub sets-preserved : goal.sets-preserved
sets-preserved c =
    let split : c.sets.left.now ≡ c.in-Some.from.now ∷ c.in-Some.rest.now = search rules in
    let put : c.put.new.marks.items ≡ c.sets.marks.items
    ++ mark_at (slice_get c.args.sights.now c.in-Some.from.now) (Set c.sets.number) = search rules
    in
    let long : length c.sets.left.now ≡ length c.in-Some.rest.now + 1 = search rules in
    let few = c.sets.invariant.few in
    record {
      room = c.in_ok-put.ensures.room;
      put = ap (λ (l : List BlockMark). l
          ++ set_marks (c.sets.number + 1) c.in-Some.rest.now c.args.sights.now) put
          ∙ next_set c.sets.marks.items _ c.sets.number c.in-Some.from.now c.in-Some.rest.now
          c.args.sights.now (ap (λ (l : List ℕ). c.sets.marks.items
          ++ set_marks c.sets.number l c.args.sights.now) (sym split) ∙ c.sets.invariant.put);
      few = omega (arith, long, few);
    }
