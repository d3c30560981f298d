use Rattle.std.proofs.Common.{◌≡◌, refl, ◌++◌, ◌+◌, ◌∙◌, ap, length, arith, length-append}
use Rattle.line_grammar.specs.Reading.{begins_with}
use Rattle.line_grammar.proofs.Lengths.{is_too_long-lengths}
use Rattle.line_grammar.proofs.splitter.Unfinished.is_too_long_with.Goals as goal

pub returns : goal.returns
returns c =
    let xs = c.self.inside.octets.items in let ys = c.args.octets.now in let line = c.args.self.now ++ ys in
    let tagged : c.is_tagged.result ≡ begins_with 64 line = rw (← c.self.view_is) (c.is_tagged.ensures ∙ ap
    (λ zs. begins_with 64 (zs ++ ys)) c.deref.ensures.value) in
    let length_is : c.len.result + length ys
    ≡ length line = rw (← c.self.view_is) (omega (arith, length-append xs ys, c.len.ensures)) in
    c.is_over.ensures ∙ rw (is_too_long-lengths line, ← c.requires, ← length_is, ← tagged) refl
