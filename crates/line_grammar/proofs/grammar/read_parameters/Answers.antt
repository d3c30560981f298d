use Rattle.std.proofs.Common.{◌≡◌, ◌+◌, ◌<◌, ◌++◌, ◌∷◌, [], ◌∙◌, sym, ap, length, arith, inl, inr}
use Rattle.line_grammar.specs.Lines.{before_space}
use Rattle.line_grammar.specs.Reading.{without_spaces}
use Rattle.line_grammar.proofs.Middles.{leaves_all, leaves_less, leaves_last}
use Rattle.line_grammar.proofs.grammar.read_parameters.Goals as goal
use Rattle.line_grammar.proofs.grammar.read_parameters.Goals.{then-loop-rest-test+else-begins_middle}
use Rattle.line_grammar.proofs.grammar.read_parameters.Goals.{else-loop-rest-test}

pub loop-rest-init : goal.loop-rest-init
loop-rest-init c = leaves_all c.args.octets.now _ _ c.new-found.ensures.items c.skip_spaces-rest.ensures

pub loop-rest-preserved : goal.loop-rest-preserved
loop-rest-preserved c =
    let found = c.loop-rest.found.items in let rest = c.loop-rest.rest.now in
    let few : length found + 1 < 15 = omega (arith, c.loop-rest-test.true, c.len.ensures) in
    let word : c.in_ok-copy_of.field-0 ≡ before_space rest = c.in_ok-copy_of.ensures ∙ c.split_word.ensures.before in
    let pushed : c.push.new.self.items ≡ found ++ before_space rest ∷ [] = c.in_ok-push.ensures.items ∙ ap
    (λ m. found ++ m ∷ []) word in
    leaves_less c.args.octets.now found _ rest _ c.loop-rest.invariant few
    (sym c.begins_middle.ensures ∙ c.if-begins_middle.true) pushed
    (c.skip_spaces-rest-in-loop-rest.ensures ∙ ap without_spaces c.split_word.ensures.after)

pub returns : goal.returns
returns c =
    let found = c.loop-rest.found.items in let rest = c.loop-rest.rest.now in
    ap (λ ps. (ps, c.in_ok-colon.colon)) c.from_vec.ensures
    ∙ leaves_last c.args.octets.now found _ rest _ c.loop-rest.invariant
    (elim c.loop-rest-test.branch [
      | then-loop-rest-test+else-begins_middle w ↦ inr (sym w.begins_middle.ensures ∙ w.if-begins_middle.false)
      | else-loop-rest-test w ↦ inl (omega (arith, w.loop-rest-test.false, c.len.ensures))
    ])
    c.in_ok-colon.ensures.last c.in_ok-colon.ensures.colon
