use Rattle.std.proofs.Common.{arith}
use Rattle.casemapping.proofs.FoldLemmas.{folded_same_from_places, folded_same_places}
use Rattle.casemapping.proofs.mapping.agree_in_all.Goals as goal

pub returns-then-a-b : goal.returns-then-a-b
returns-then-a-b c = (
  λ all. folded_same_from_places _ _ (omega arith) (c.agree.ensures.0 all),
  λ same. c.agree.ensures.1 (folded_same_places _ _ same),
)
