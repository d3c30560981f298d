use Rattle.std.proofs.Common.{ℕ, Option, Some, sym, ap, ◌∙◌, subst}
use Rattle.std.specs.Prelude.{IsSome}
use Rattle.ledger.proofs.Outs.{newest_says, newest_says_own}
use Rattle.ledger.proofs.ledger.Ledger.line_of.Goals as goal

pub newest_said-requires-clause-line : goal.newest_said-requires-clause-line
newest_said-requires-clause-line over c = newest_says c.args.self.now.history
    (subst (λ (n : Option ℕ). IsSome n) c.requires.out.next c.requires.line)

pub returns : goal.returns
returns over c =
    let h = c.args.self.now.history in let o = c.requires.out in let x = c.newest_said.result.now in
    let says = newest_says h (subst (λ (n : Option ℕ). IsSome n) o.next c.requires.line) in
    newest_says_own h x says c.newest_said.ensures ∙ ap (λ (s : ℕ). Some (s, x)) (sym o.session)
