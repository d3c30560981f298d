use Rattle.std.proofs.Common.{◌∙◌, eqb, sym}
use Rattle.line_grammar.proofs.Found.{found_is_any, zero_is_there}
use Rattle.line_grammar.proofs.grammar.has_nul.Goals as goal

pub returns-clause-any : goal.returns-clause-any
returns-clause-any c = c.is_some.ensures ∙ found_is_any (λ b. eqb b 0) c.args.line.now c.memchr.result c.memchr.ensures

pub returns-clause-there : goal.returns-clause-there
returns-clause-there c =
    let there = zero_is_there c.args.line.now c.memchr.result c.memchr.ensures in
    (λ is. there.0 (sym c.is_some.ensures ∙ is), λ has. c.is_some.ensures ∙ there.1 has)
