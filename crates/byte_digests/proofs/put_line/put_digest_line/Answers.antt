use Rattle.byte_digests.proofs.Resting.{both_rest}
use Rattle.byte_digests.proofs.put_line.put_digest_line.Goals as goal

pub returns-clause-rest : goal.returns-clause-rest
returns-clause-rest c =
    both_rest _ _ _ _ _ _
    (both_rest _ _ _ _ _ _
    (both_rest _ _ _ _ _ _ c.put-end.ensures.rest c.put-end-2.ensures)
    c.put_name-end.ensures)
    c.put.ensures
