use Rattle.std.proofs.Common.{ℕ, List, sym, ap, ◌∙◌, subst}
use Rattle.channel_state.specs.State.{among}
use Rattle.channel_state.specs.Held.{Seats, AreKept}
use Rattle.channel_state.proofs.Once.{gone, kept-alone, kept-last}
use Rattle.channel_state.proofs.members.Members.add.Goals as goal

pub invariant_of-self : goal.invariant_of-self
invariant_of-self c =
    let a = c.self.inside in let s = c.args.session in
    let away = ap (λ (m : Seats). among s m.list) c.self.view_is ∙ ap (among s) c.remove.ensures.list
    ∙ gone s c.args.self.now.list in
    let there = sym c.is_empty.ensures ∙ c.if-not-is_empty.true in
    subst (λ (ts : List ℕ). AreKept ts c.add.new.self) (sym c.push_reserved.ensures.items)
    (kept-last s a.sessions.items a.arrivals c.add.new.self c.self.invariant away there c.add.ensures)

pub invariant_of-self-else-not-is_empty : goal.invariant_of-self-else-not-is_empty
invariant_of-self-else-not-is_empty c =
    let a = c.self.inside in let s = c.args.session in
    let away = ap (λ (m : Seats). among s m.list) c.self.view_is ∙ ap (among s) c.remove.ensures.list
    ∙ gone s c.args.self.now.list in
    let none = sym c.is_empty.ensures ∙ c.if-not-is_empty.false in
    subst (λ (ts : List ℕ). AreKept ts a.arrivals) (sym c.push_reserved.ensures.items)
    (kept-alone s a.sessions.items a.arrivals c.self.invariant away none)
