use Rattle.std.proofs.Common.{ℕ, List, length, ap, sym, subst}
use Rattle.channel_state.specs.Held.{AreOnce}
use Rattle.channel_state.proofs.Once.{kept-none}
use Rattle.channel_state.proofs.members.Members.new.Goals as goal

pub invariant_of-result : goal.invariant_of-result
invariant_of-result c = kept-none c.new.result.items c.new-2.result (subst AreOnce (sym c.new.ensures.items) tt)
    (ap (λ (es : List (ℕ × ℕ)). length es) c.new-2.ensures)
