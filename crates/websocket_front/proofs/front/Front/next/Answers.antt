use Rattle.std.proofs.Common.{◌∷◌, ◌++◌, [], ◌∙◌, inl, arith}
use Rattle.std.proofs.lemmas.Result.{err_from_is_err_and}
use Rattle.std.proofs.lemmas.List.{length-append}
use Rattle.websocket_front.proofs.Passing.{passes_more, gives_after, fails_after}
use Rattle.websocket_front.proofs.Growing.{grows_trans, answers_after}
use Rattle.websocket_front.proofs.front.Front.next.Goals as goal

pub returns-in_err-got-clause-fails : goal.returns-in_err-got-clause-fails
returns-in_err-got-clause-fails g c _ =
    let passes = c.loop-turn.invariant.passes in
    let p = err_from_is_err_and c.from_residual.result c.from_residual.ensures.1 in
    rw (p.1, p.2) (fails_after g.S.Read.remaining c.args.self.now.socket c.loop-turn.self.socket passes.0
    c.in_err-got.field-0.0 passes.2 c.in_err-got.ensures.fails)

pub returns-in_err-got-clause-cause : goal.returns-in_err-got-clause-cause
returns-in_err-got-clause-cause g c _ =
    let p = err_from_is_err_and c.from_residual.result c.from_residual.ensures.1 in
    rw (p.1, p.2) (inl (answers_after c.in_err-got.field-0.0 c.args.self.now.causes c.loop-turn.self.causes
    c.read_open.new.self.causes c.loop-turn.invariant.grows c.in_err-got.ensures.cause))

pub returns-in-Some-clause-gives : goal.returns-in-Some-clause-gives
returns-in-Some-clause-gives g c _ =
    let passes = c.loop-turn.invariant.passes in
    let gives = rw c.in-Some.is at c.in_ok-got.ensures.gives in
    gives_after g.S.Read.remaining c.args.self.now.socket c.loop-turn.self.socket c.read_open.new.self.socket passes.0
    c.in-Some.got passes.2 gives

pub loop-turn-preserved : goal.loop-turn-preserved
loop-turn-preserved g c =
    let i = c.loop-turn.invariant in
    let h = c.in_ok-got.ensures in
    let new = c.read_open.new.self in
    let opened = rw c.in_default.is at h.goes_on in
    record {
      passes = (
        i.passes.0 ++ new.socket ∷ [],
        omega (arith, length-append i.passes.0 (new.socket ∷ []), i.passes.1),
        passes_more g.S.Read.remaining c.args.self.now.socket
            c.loop-turn.self.socket new.socket i.passes.0 i.passes.2 (rw c.in_default.is at h.gives),
      );
      rest = h.rest opened ∙ i.rest;
      subprotocol = h.subprotocol ∙ i.subprotocol;
      is_open = opened;
      grows = grows_trans c.args.self.now.causes c.loop-turn.self.causes new.causes i.grows h.grows;
    }
