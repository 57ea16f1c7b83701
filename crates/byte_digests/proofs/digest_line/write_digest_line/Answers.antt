use Rattle.std.proofs.Common.{flat_map}
use Rattle.std.proofs.KnownBytes.{Appends-trans}
use Rattle.byte_digests.specs.DigestLines.{escaped, mark_of, digits_of}
use Rattle.byte_digests.proofs.Written.{in_any_case, so_ok, so_err, some_of_longer, then_some}
use Rattle.byte_digests.proofs.digest_line.write_digest_line.Goals as goal

pub returns-in_err-write_mark-clause-cut_short : goal.returns-in_err-write_mark-clause-cut_short
returns-in_err-write_mark-clause-cut_short g c =
    in_any_case c.from_residual.result
    (some_of_longer _ _ (mark_of c.args.name.now) _ c.in_err-write_mark.ensures.cut_short)

pub returns-in_err-write_digits-clause-cut_short : goal.returns-in_err-write_digits-clause-cut_short
returns-in_err-write_digits-clause-cut_short g c =
    in_any_case c.from_residual-in_err-write_digits.result
    (then_some _ _ _ (mark_of c.args.name.now) _ c.in_ok-write_mark.ensures.ok
    (some_of_longer _ _ (digits_of c.args.digest.now) _ c.in_err-write_digits.ensures.cut_short))

pub returns-in_err-write_name-clause-cut_short : goal.returns-in_err-write_name-clause-cut_short
returns-in_err-write_name-clause-cut_short g c =
    in_any_case c.from_residual-in_err-write_name.result
    (then_some _ _ _ (mark_of c.args.name.now) _ c.in_ok-write_mark.ensures.ok
    (then_some _ _ _ (digits_of c.args.digest.now) _ c.in_ok-write_digits.ensures.ok
    (some_of_longer _ _ (flat_map escaped c.args.name.now) _
    c.in_err-write_name.ensures.cut_short)))

pub returns-clause-cut_short : goal.returns-clause-cut_short
returns-clause-cut_short g c =
    so_err c.write_all.result
    (λ last. then_some _ _ _ (mark_of c.args.name.now) _ c.in_ok-write_mark.ensures.ok
    (then_some _ _ _ (digits_of c.args.digest.now) _ c.in_ok-write_digits.ensures.ok
    (then_some _ _ _ (flat_map escaped c.args.name.now) _ c.in_ok-write_name.ensures.ok last)))
    c.write_all.ensures.cut_short

pub returns-clause-ok : goal.returns-clause-ok
returns-clause-ok g c =
    so_ok c.write_all.result
    (λ last. Appends-trans _ _ _ (mark_of c.args.name.now) _ c.in_ok-write_mark.ensures.ok
    (Appends-trans _ _ _ (digits_of c.args.digest.now) _ c.in_ok-write_digits.ensures.ok
    (Appends-trans _ _ _ (flat_map escaped c.args.name.now) _ c.in_ok-write_name.ensures.ok last)))
    c.write_all.ensures.ok
