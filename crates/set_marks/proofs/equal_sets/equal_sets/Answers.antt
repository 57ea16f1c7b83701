use Rattle.std.proofs.Common.{◌≡◌, ◌+◌, ◌∷◌, ◌++◌, [], List, ℕ, length, rules, subst, sym, ap, ◌∙◌}
use Rattle.std.proofs.Common.{arith}
use Rattle.std.proofs.lemmas.List.{length-append}
use Rattle.set_marks.specs.declared.equal_sets.Section.{Section}
use Rattle.set_marks.specs.Divisions.{next_of, part, parts_at}
use Rattle.set_marks.specs.EqualSets.{equal_sets, pairs_from, pairs_with}
use Rattle.set_marks.specs.Sections.{AreLeast, section, sections}
use Rattle.set_marks.proofs.EqualLeast.{least_kept}
use Rattle.set_marks.proofs.PairLists.{next_pairs}
use Rattle.set_marks.proofs.equal_sets.equal_sets.Goals as goal

pub sets-preserved : goal.sets-preserved
sets-preserved c =
    let rs = c.args.in_sets.now in
    let before = c.sets.before.items in
    let set = c.section_of-set.result in
    let from = c.in-Some.from.now in
    let rest = c.in-Some.rest.now in
    let split : c.sets.left.now ≡ from ∷ rest = search rules in
    let long : length c.sets.left.now ≡ length rest + 1 = search rules in
    let to : c.next_of.result ≡ next_of (length rs) rest = search rules in
    let is : section rs set ≡ part from (next_of (length rs) rest) rs =
    c.section_of-set.ensures.set ∙ ap (λ (k : ℕ). part from k rs) to in
    let added : c.add_pairs.new.pairs ≡ c.sets.pairs
    ++ pairs_with (length before + 1) (section rs set) 1 (sections rs before) = search rules in
    let kept : c.push.new.self.items ≡ before ++ set ∷ [] = search rules in
    let more = ap (λ (ss : List Section). length ss) kept ∙ length-append before (set ∷ []) in
    let place = c.sets.invariant.place in
    let found = ap (λ (l : List ℕ). c.sets.pairs ++ pairs_from (length before + 1)
    (sections rs before) (parts_at (length rs) l rs)) (sym split) ∙ c.sets.invariant.found in
    record {
      found = (λ i. added i ++ pairs_from (length (kept i) + 1) (sections rs (kept i))
          (parts_at (length rs) rest rs))
          ∙ next_pairs rs c.sets.pairs (equal_sets c.args.starts.now rs) before set (length rs)
          from rest is found;
      least = subst (λ (ss : List Section). AreLeast rs ss) (sym kept)
          (least_kept rs before set c.sets.invariant.least c.section_of-set.ensures.least);
      place = omega (arith, long, more, place);
    }
