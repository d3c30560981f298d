use Rattle.std.proofs.Common.{arith, ◌<◌, ◌≤◌, not, length, ap, sym, ◌∙◌, subst}
use Rattle.chronicle.specs.History.{sessions, shut}
use Rattle.ledger.proofs.Begins.{hears_not}
use Rattle.ledger.proofs.ledger.Ledger.is_shut.Goals as goal

pub returns : goal.returns
returns over c =
    let a = c.self.inside in let i = c.self.invariant.kept in let s = c.args.session in
    let known = subst (λ m. (0 < s) × (s ≤ sessions m.history)) (sym c.self.view_is) c.requires in
    let to : s ≤ length a.seats = let few = known.1 in let many = i.sound.sessions in let places = i.places in
    omega arith in
    ap not c.is_listening.ensures ∙ hears_not a.seats s known.0 to ∙ (i.each_seat s known.0 to).shut ∙ ap
    (λ m. shut m.history s) c.self.view_is
