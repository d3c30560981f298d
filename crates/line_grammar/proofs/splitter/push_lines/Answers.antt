use Rattle.std.proofs.Common.{◌++◌, ◌∙◌, sym, ap, append-nil, append_assoc}
use Rattle.line_grammar.specs.Lines.{piece_of, lines, open_line}
use Rattle.line_grammar.proofs.Streams.{lines-none, lines-end, stays_with, unfinished-none, unfinished-end}
use Rattle.line_grammar.proofs.splitter.push_lines.Goals as goal

pub loop-line-preserved : goal.loop-line-preserved
loop-line-preserved c =
    let line = c.in-Some.line.now in let more = c.in-Some.more.now in let ends = c.in-Some.ensures in
    let step = ap lines ends.whole ∙ lines-end line more ends.line_end ends.none_before ends.is_end in
    let out = c.loop-line.out.items in (
      ap (λ xs. xs ++ lines more) c.in_ok-push_line.ensures.ok ∙ append_assoc out (piece_of line) (lines more) ∙ ap
          (λ xs. out ++ xs) (sym step) ∙ c.loop-line.invariant.0,
      sym (ap open_line ends.whole ∙ unfinished-end line more ends.line_end ends.is_end) ∙ c.loop-line.invariant.1,
      stays_with _ out (piece_of line) _ c.loop-line.invariant.2 c.in_ok-push_line.ensures.ok,
    )

pub returns-clause-lines : goal.returns-clause-lines
returns-clause-lines c =
    sym (append-nil c.loop-line.out.items) ∙ ap (λ x. c.loop-line.out.items ++ x)
    (sym (lines-none c.loop-line.rest.now c.in_default.ensures)) ∙ c.loop-line.invariant.0

pub returns-clause-rest : goal.returns-clause-rest
returns-clause-rest c = sym (unfinished-none _ c.in_default.ensures) ∙ c.loop-line.invariant.1
