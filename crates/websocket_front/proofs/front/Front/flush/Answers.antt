use Rattle.std.proofs.Common.{◌≡◌, ℕ, Ok, cond, length, sym, ap, ◌∙◌, arith}
use Rattle.std.proofs.lemmas.Result.{on_ok_weaker}
use Rattle.websocket_front.specs.Lines.{lines}
use Rattle.websocket_front.specs.Fronted.{Fronted, is_open_of, waiting}
use Rattle.websocket_front.proofs.Going.{goes_on}
use Rattle.websocket_front.proofs.Growing.{grows_trans}
use Rattle.websocket_front.proofs.Steps.{waits_none}
use Rattle.websocket_front.proofs.front.Front.flush.Goals as goal

pub returns-in-Some-Closed-clause-all : goal.returns-in-Some-Closed-clause-all
returns-in-Some-Closed-clause-all g c e =
    let f = c.send_output.new.self in
    let kept = rw e at c.send_output.ensures.rest in
    let none = sym (ap (λ (x : Fronted g.row.S.Denot). x.rest) c.self.view_is)
    ∙ c.self.invariant.1 (ap is_open_of c.in-Some-Closed.is) in
    waits_none f.subprotocol f.socket.output f.rest (c.send_output.ensures.out e) (kept ∙ none)

pub returns-in-All-clause-ok : goal.returns-in-All-clause-ok
returns-in-All-clause-ok g c =
    let cf = g.S.Write.contents in
    let old = c.args.self.now in
    let f = c.frame_next.new.self in
    let mid = goes_on cf old.socket.stream (waiting old) c.loop-is_out.self f c.loop-is_out.invariant.out
    c.in_ok-frame_next.ensures.ok in
    on_ok_weaker c.send_output-in-All.result (goes_on cf old.socket.stream
    (waiting old) f c.send_output-in-All.new.self mid) c.send_output-in-All.ensures.ok

pub returns-in-All-clause-all : goal.returns-in-All-clause-all
returns-in-All-clause-all g c e =
    let f = c.send_output-in-All.new.self in
    let kept = rw e at c.send_output-in-All.ensures.rest in
    waits_none f.subprotocol f.socket.output f.rest (c.send_output-in-All.ensures.out e)
    (kept ∙ c.in_ok-frame_next.ensures.all (ap (λ x. Ok x) c.in-All.is))

pub returns-then-is_out-clause-memory : goal.returns-then-is_out-clause-memory
returns-then-is_out-clause-memory g c _ _ =
    let old = c.args.self.now in
    goes_on g.S.Write.contents old.socket.stream
    (waiting old) c.loop-is_out.self c.frame_next.new.self c.loop-is_out.invariant.out c.in_ok-frame_next.ensures.ok

pub returns-then-not-branch-clause-ok : goal.returns-then-not-branch-clause-ok
returns-then-not-branch-clause-ok g c =
    let cf = g.S.Write.contents in
    let old = c.args.self.now in
    let f = c.frame_next.new.self in
    let mid = goes_on cf old.socket.stream (waiting old) c.loop-is_out.self f c.loop-is_out.invariant.out
    c.in_ok-frame_next.ensures.ok in
    goes_on cf old.socket.stream (waiting old) f c.send_output-in-Full.new.self mid
    c.in_ok-send_output-in-Full.ensures.ok

pub loop-is_out-preserved-in-One : goal.loop-is_out-preserved-in-One
loop-is_out-preserved-in-One g c =
    let old = c.args.self.now in
    let i = c.loop-is_out.invariant in
    let f = c.frame_next.new.self in
    let h = c.in_ok-frame_next.ensures in
    record {
      out = goes_on g.S.Write.contents old.socket.stream (waiting old) c.loop-is_out.self f i.out h.ok;
      subprotocol = h.subprotocol ∙ i.subprotocol;
      is_open = h.stays_open;
      grows = grows_trans old.causes c.loop-is_out.self.causes f.causes i.grows h.grows;
    }

pub loop-is_out-preserved : goal.loop-is_out-preserved
loop-is_out-preserved g c =
    let cf = g.S.Write.contents in
    let old = c.args.self.now in
    let i = c.loop-is_out.invariant in
    let f = c.frame_next.new.self in
    let h = c.in_ok-frame_next.ensures in
    let sent = c.in_ok-send_output-in-Full.ensures in
    let mid = goes_on cf old.socket.stream (waiting old) c.loop-is_out.self f i.out h.ok in
    let grows = grows_trans old.causes c.loop-is_out.self.causes f.causes i.grows h.grows in
    record {
      out = goes_on cf old.socket.stream (waiting old) f c.send_output-in-Full.new.self mid sent.ok;
      subprotocol = sent.subprotocol ∙ (h.subprotocol ∙ i.subprotocol);
      is_open = sent.stays_open ∙ h.stays_open;
      grows = grows_trans old.causes f.causes c.send_output-in-Full.new.self.causes grows sent.grows;
    }

pub loop-is_out-smaller : goal.loop-is_out-smaller
loop-is_out-smaller g c =
    let full = c.in_ok-frame_next.ensures.full (ap (λ x. Ok x) c.in-Full.is) in
    let same = ap (λ (x : Fronted g.row.S.Denot). x.rest) full in
    let kept = c.in_ok-send_output-in-Full.ensures.rest ∙ same in
    let room : ◌≡◌ {A = ℕ} (cond c.loop-is_out.is_out 0 1) 1 = ap (λ b. cond {A = ℕ} b 0 1) c.if-is_out.false in
    omega (arith, ap (λ r. length (lines r)) kept, room)
