use Rattle.std.proofs.Common.{◌≡◌, ◌<◌, ◌∙◌, sym, ap, length, arith}
use Rattle.line_grammar.specs.Lines.{before_space}
use Rattle.line_grammar.proofs.Spaces.{before_space-append_none, before_space-append_some, length-before_space-le}
use Rattle.line_grammar.proofs.splitter.Unfinished.word_length_with.Goals as goal

pub returns-then-self-len : goal.returns-then-self-len
returns-then-self-len c =
    let xs = c.self.inside.octets.items in
    let whole : length (before_space xs)
    ≡ length xs = omega (arith, c.self.invariant.0, c.if-self-len.true, c.len.ensures) in
    rw (← c.self.view_is) (omega (
      arith,
      before_space-append_none xs c.args.octets.now whole,
      ap length c.split_word.ensures.before,
      c.self.invariant.0,
      whole,
    ))

pub returns-else-self-len : goal.returns-else-self-len
returns-else-self-len c =
    let xs = c.self.inside.octets.items in
    let less : length (before_space xs) < length xs = omega
    (arith, length-before_space-le xs, c.self.invariant.0, c.if-self-len.false, c.len.ensures) in
    rw (← c.self.view_is) (c.self.invariant.0 ∙ sym (before_space-append_some xs c.args.octets.now less))
