use Rattle.record_laws.proofs.Rows.{hearers-once}
use Rattle.record_laws.proofs.hearers_stand_once.Goals as goal

pub returns : goal.returns
returns c = hearers-once
