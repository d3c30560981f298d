use Rattle.std.proofs.Common.{ℕ, List, sym, ◌∙◌, subst}
use Rattle.channel_state.specs.Held.{AreKept}
use Rattle.channel_state.proofs.Once.{without-none, kept-out}
use Rattle.channel_state.proofs.members.Members.remove.Goals as goal

pub returns-then-not-has-clause-list : goal.returns-then-not-has-clause-list
returns-then-not-has-clause-list c = sym
    (without-none c.args.session c.args.self.now.list (sym c.has.ensures ∙ c.if-not-has.true))

pub invariant_of-self : goal.invariant_of-self
invariant_of-self c =
    let a = c.self.inside in
    subst (λ (ts : List ℕ). AreKept ts c.remove.new.self) (sym c.take_out.ensures.items)
    (kept-out c.args.session a.sessions.items a.arrivals c.remove.new.self c.self.invariant c.remove.ensures.count
    c.remove.ensures.others)
