use Rattle.interleave.proofs.Answered.{lone-unbatched}
use Rattle.interleave.proofs.laws.lone_line_unbatched.Goals as goal

pub returns : goal.returns
returns c = lone-unbatched c.lone_line_opens_no_batch.ensures c.no_line_opens_a_batch.ensures
    c.records_open_no_others.ensures
