use Rattle.std.proofs.Common.{List, ℕ, Option, drop, subst, ap, sym, ◌∙◌, ◌≡◌}
use Rattle.std.specs.Io.KnownBytes.{Keeps, append_known}
use Rattle.deliveries.specs.Text.{delivery_text}
use Rattle.wire.specs.Gathering.{gathered_contents}
use Rattle.wire.specs.Wired.{GoesOut}
use Rattle.wire.proofs.Going.{goes_on, goes_nothing, goes_kept}
use Rattle.wire.proofs.item_write.write_last.Goals as goal

-- a text goes out after octets that were kept back and stayed
after_kept : (a told new b : Option (List ℕ)) (xs ys text left : List ℕ) → Keeps a (append_known told xs) → new ≡ told
    → ys ≡ xs → GoesOut (append_known new ys) b text left → GoesOut a b text left
after_kept a told new b xs ys text left kept same alike out =
    let now = append_known new ys in
    let here : now ≡ append_known told xs = ap (λ o. append_known o ys) same ∙ ap (append_known told) alike in
    let stays : Keeps a now = subst (Keeps a) (sym here) kept in
    goes_on a now b text text left (goes_nothing a now text stays) out

pub returns-in-Err-clause-more : goal.returns-in-Err-clause-more
returns-in-Err-clause-more g c =
    let known = gathered_contents g.W.Write.contents in
    goes_nothing (known c.args.out.now) (known c.ready_for.new.self)
    (delivery_text c.args.delivery.now c.args.host.now) c.ready_for.ensures.octets

pub returns-in-Some-clause-more : goal.returns-in-Some-clause-more
returns-in-Some-clause-more g c =
    let told = g.W.Write.contents in
    let ready = c.ready_for.new.self in
    let kept = c.keep_last.new.self in
    goes_kept (gathered_contents told c.args.out.now) (told ready.stream.inner) (told kept.stream.inner)
    ready.waiting.items kept.waiting.items (delivery_text c.args.delivery.now c.args.host.now) c.in-Some.count
    c.ready_for.ensures.octets (ap (λ s. told s.inner) c.in-Some.ensures.stream) c.in-Some.ensures.kept
    c.in-Some.ensures.length

pub returns-in-None-clause-more : goal.returns-in-None-clause-more
returns-in-None-clause-more g c =
    let told = g.W.Write.contents in
    let ready = c.ready_for.new.self in
    let kept = c.keep_last.new.self in
    let text = delivery_text c.args.delivery.now c.args.host.now in
    after_kept (gathered_contents told c.args.out.now) (told ready.stream.inner) (told kept.stream.inner)
    (gathered_contents told c.write_last.new.self) ready.waiting.items kept.waiting.items text
    (drop c.write_last.result.0 text) c.ready_for.ensures.octets (ap (λ s. told s.inner) c.keep_last.ensures.stream)
    (c.keep_last.ensures.not c.in-None.is) c.write_last.ensures.more
