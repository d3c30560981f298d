use Rattle.std.proofs.Common.{rules, ◌<◌, ◌++◌, ◌∷◌, List, [], length, take, ap, sym, ◌∙◌, subst, append_assoc}
use Rattle.line_grammar.specs.declared.splitter.Piece.{Piece}
use Rattle.session_io.specs.Filling.{IsFront}
use Rattle.session_io.proofs.LinesRead.{next_line, next_ahead}
use Rattle.session_io.proofs.doing_lines.do_lines.Goals as goal

pub returns-then-finds_much-clause-front : goal.returns-then-finds_much-clause-front
returns-then-finds_much-clause-front g c =
    let all = c.args.lines.now in let n = c.loop-done.done in let piece = c.in-Some.piece in
    let more = subst (λ (l : List Piece). n < length l) c.as_slice-count.ensures c.loop-done-test.true in
    let step = next_line all n piece c.take_first.new.self more
    (sym c.loop-done.invariant.left ∙ c.in-Some.ensures.some) in
    c.do_piece.ensures.done c.if-not-do_piece.false
    ∙ ap (λ (l : List Piece). l ++ piece ∷ []) c.loop-done.invariant.front
    ∙ append_assoc c.args.baton.now.pieces (take n all) (piece ∷ [])
    ∙ ap (λ (l : List Piece). c.args.baton.now.pieces ++ l) (sym step.0)

pub returns-then-finds_much-clause-left : goal.returns-then-finds_much-clause-left
returns-then-finds_much-clause-left g c = λ _.
    let all = c.args.lines.now in let n = c.loop-done.done in
    let more = subst (λ (l : List Piece). n < length l) c.as_slice-count.ensures c.loop-done-test.true in
    (next_line all n c.in-Some.piece c.take_first.new.self more
    (sym c.loop-done.invariant.left ∙ c.in-Some.ensures.some)).1

pub loop-done-preserved : goal.loop-done-preserved
loop-done-preserved g c =
    let all = c.args.lines.now in let n = c.loop-done.done in let piece = c.in-Some.piece in
    let more = subst (λ (l : List Piece). n < length l) c.as_slice-count.ensures c.loop-done-test.true in
    let step = next_line all n piece c.take_first.new.self more
    (sym c.loop-done.invariant.left ∙ c.in-Some.ensures.some) in
    record {
      left = step.1;
      ahead = next_ahead c.read_ahead.new.ahead c.next.new.self c.next.result c.loop-done.lines
          c.take_first.new.self piece
          (subst (λ (l : List Piece). IsFront c.read_ahead.new.ahead l) c.as_slice.ensures c.read_ahead.ensures)
          c.in-Some.ensures.some c.next.ensures.some c.next.ensures.none;
      front =
          c.do_piece.ensures.done c.if-not-do_piece.false
          ∙ ap (λ (l : List Piece). l ++ piece ∷ []) c.loop-done.invariant.front
          ∙ append_assoc c.args.baton.now.pieces (take n all) (piece ∷ [])
          ∙ ap (λ (l : List Piece). c.args.baton.now.pieces ++ l) (sym step.0);
      session = c.do_piece.ensures.session ∙ c.loop-done.invariant.session;
      newest = search rules;
      shown = search rules;
    }
