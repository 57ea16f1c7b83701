use Rattle.std.proofs.Common.{◌≡◌, ◌∷◌, [], ◌++◌, List, map, rules, sym, ap, ◌∙◌}
use Rattle.set_marks.specs.declared.mark.BlockMark.{BlockMark}
use Rattle.set_marks.specs.declared.mark.Mark.{Mark}
use Rattle.set_marks.specs.Placing.{placed_at, marks_of_block, marks_after}
use Rattle.set_marks.proofs.Joins.{next_mark, next_after}
use Rattle.set_marks.proofs.placing.place_block.Goals as goal

pub marks-preserved : goal.marks-preserved
marks-preserved c =
    let m = c.in-Some.mark.now in
    let ms = c.in-Some.rest.now in
    let old = c.marks.placed.items in
    let made = placed_at c.args.bytes.now c.args.at m in
    let split : c.marks.left.now ≡ m ∷ ms = search rules in
    let same : m.block ≡ c.args.block = search rules in
    let pushed : c.push.new.self.items ≡ old ++ made ∷ [] = search rules in
    record {
      value = ap (λ (l : List Mark). l
          ++ map (placed_at c.args.bytes.now c.args.at) (marks_of_block c.args.block ms)) pushed
          ∙ next_mark (placed_at c.args.bytes.now c.args.at) old _ c.args.block m ms same
          (ap (λ (l : List BlockMark). old
          ++ map (placed_at c.args.bytes.now c.args.at) (marks_of_block c.args.block l)) (sym split)
          ∙ c.marks.invariant.value);
      rest = next_after c.args.block m ms same
          ∙ ap (λ (l : List BlockMark). marks_after c.args.block l) (sym split)
          ∙ c.marks.invariant.rest;
    }
