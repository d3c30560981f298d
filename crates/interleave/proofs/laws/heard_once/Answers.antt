use Rattle.interleave.proofs.Answered.{heard-once}
use Rattle.interleave.proofs.laws.heard_once.Goals as goal

pub returns : goal.returns
returns c = heard-once c.hearers_stand_once.ensures c.records_open_no_others.ensures
