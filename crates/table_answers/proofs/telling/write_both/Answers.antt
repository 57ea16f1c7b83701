use Rattle.std.proofs.Common.{inl, inr, rules}
use Rattle.std.proofs.KnownBytes.{Appends-trans}
use Rattle.byte_digests.proofs.Written.{some_of_longer, then_some}
use Rattle.table_answers.proofs.telling.write_both.Goals as goal

pub returns : goal.returns
returns g c =
    inl (record {
      got = Appends-trans _ _ _ c.args.first.now _ c.in_ok-write_all.ensures.ok
          c.in_ok-write_all-2.ensures.ok;
      unfailed = search rules;
    })

pub returns-in_err-write_all : goal.returns-in_err-write_all
returns-in_err-write_all g c =
    inr (record {
      got = some_of_longer _ _ c.args.first.now _ c.in_err-write_all.ensures.cut_short;
      call_failed = search rules;
    })

pub returns-in_err-write_all-2 : goal.returns-in_err-write_all-2
returns-in_err-write_all-2 g c =
    inr (record {
      got = then_some _ _ _ c.args.first.now _ c.in_ok-write_all.ensures.ok
          c.in_err-write_all-2.ensures.cut_short;
      call_failed = search rules;
    })
