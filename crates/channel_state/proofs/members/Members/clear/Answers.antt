use Rattle.std.proofs.Common.{ℕ, List, length, ap, sym, subst}
use Rattle.channel_state.specs.Held.{AreOnce}
use Rattle.channel_state.proofs.Once.{kept-none}
use Rattle.channel_state.proofs.members.Members.clear.Goals as goal

pub invariant_of-self : goal.invariant_of-self
invariant_of-self c = kept-none c.clear.new.self.items c.clear-2.new.self
    (subst AreOnce (sym c.clear.ensures.items) tt) (ap (λ (es : List (ℕ × ℕ)). length es) c.clear-2.ensures)
