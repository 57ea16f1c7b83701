use Rattle.std.proofs.Common.{rules, option_map}
use Rattle.set_marks.proofs.Joins.{station_pieces}
use Rattle.set_marks.proofs.marking.put_station.Goals as goal

pub returns-clause-put : goal.returns-clause-put
returns-clause-put c =
    station_pieces c.args.in_set (record { name = c.args.name.now; sights = c.args.sights.now })
    c.args.span c.args.starts.now c.part.result.now
    (option_map (λ s. s.now) c.sight_at-opening.result)
    (option_map (λ s. s.now) c.sight_at-after_sets.result) c.args.marks.now.items
    c.put_close.new.marks.items c.put.new.marks.items c.put_sets.new.marks.items
    c.put-2.new.marks.items (search rules) c.in_ok-put.ensures.put c.in_ok-put_sets.ensures.put
    c.in_ok-put-2.ensures.put c.sight_at-opening.ensures c.sight_at-after_sets.ensures
    c.part.ensures c.requires.starts
