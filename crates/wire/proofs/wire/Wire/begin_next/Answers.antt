use Rattle.std.proofs.Common.{◌≡◌, ℕ, List, [], ◌∷◌, ◌++◌, ◌<◌, drop, length, Option, Some, sym, ap, ◌∙◌, subst}
use Rattle.std.specs.Io.KnownBytes.{append_known}
use Rattle.deliveries.specs.declared.item.Item.{Item}
use Rattle.deliveries.specs.Text.{delivery_text}
use Rattle.wire.specs.Gathering.{gathered_contents}
use Rattle.wire.specs.declared.item_write.ItemWrite.{ItemWrite}
use Rattle.wire.specs.declared.write_buffer.WriteBuffer.{WriteBuffer}
use Rattle.wire.specs.declared.stream.Stream.{Stream}
use Rattle.wire.specs.Wired.{Wired, rest_of, is_last, ends, GoesOut}
use Rattle.wire.proofs.Going.{ends_more, goes_none, goes_whole, none_left, one_more}
use Rattle.wire.proofs.wire.Wire.begin_next.Goals as goal

-- the item's text is all that is left
begun_out : (host : List ℕ) (b : ItemWrite) (x : Item) (old new : Option (List ℕ)) → b.item ≡ x → b.count ≡ 0
    → new ≡ old → GoesOut old new (delivery_text x.delivery host) (rest_of host (Some b))
begun_out host b x old new item none same =
    let fresh : delivery_text x.delivery host ≡ rest_of host (Some b) =
    sym (ap (λ (i : Item). delivery_text i.delivery host) item)
    ∙ sym (ap (λ (n : ℕ). drop n (delivery_text b.item.delivery host)) none) in
    subst (λ (l : List ℕ). GoesOut old new (delivery_text x.delivery host) l) fresh
    (goes_none old new (delivery_text x.delivery host) same)

same_octets : {T : Type 0} (contents : T → Option (List ℕ)) (old new : WriteBuffer T) → new.stream ≡ old.stream
    → new.waiting.items ≡ old.waiting.items → gathered_contents contents new ≡ gathered_contents contents old
same_octets contents old new stream waiting =
    ap (λ s. append_known (contents s.inner) new.waiting.items) stream
    ∙ ap (append_known (contents old.stream.inner)) waiting

-- a stream to which nothing was written has the faults that it had
still_more : {T : Type 0} (s t : Stream T) → t ≡ s → 0 < s.faults.value → 0 < t.faults.value
still_more s t same more = subst (λ x. 0 < x.faults.value) (sym same) more

still_none : {T : Type 0} (s t : Stream T) → t ≡ s → s.faults.value ≡ 0 → t.faults.value ≡ 0
still_none s t same none = ap (λ x. x.faults.value) same ∙ none

pub invariant_of-self-then-not-keeps : goal.invariant_of-self-then-not-keeps
invariant_of-self-then-not-keeps g c =
    let a = c.self.inside in
    let i = c.self.invariant in
    let item = c.in-Ok.item in
    let none : rest_of a.host a.begun ≡ [] = ap (λ (w : Wired). w.rest) c.self.view_is ∙ c.requires.rest in
    let took : c.take_now.new.self.taken ≡ a.writer.taken ++ item ∷ [] = ap (λ w. w.taken) c.in-Ok.ensures.took in (
      i.0 ∙ ap (λ n. Some n) (sym (ap (λ w. w.channel) c.in-Ok.ensures.took)),
      one_more _ _ _ _ _ _ _ _ _ item i.1 none took (begun_out a.host c.new.result item _ _ c.new.ensures.item
          c.new.ensures.count (same_octets g.W.Write.contents a.out c.keeps.new.out c.keeps.ensures.stream
          (c.keeps.ensures.not c.if-not-keeps.true))) (
            c.new.result.count,
            ap (λ (x : Item). drop c.new.result.count (delivery_text x.delivery a.host))
                c.new.ensures.item,
          ),
      (λ e. ap ends took ∙ ends_more a.writer.taken item ∙ ap is_last (sym c.delivery.ensures)
          ∙ sym c.is_last-self-inside.ensures ∙ e),
      (λ e. still_more a.out.stream c.keeps.new.out.stream c.keeps.ensures.stream (i.3 e)),
      (λ e. still_none a.out.stream c.keeps.new.out.stream c.keeps.ensures.stream (i.4 e)),
      (λ e l. c.new.ensures.count),
      c.keeps.ensures.few i.6,
    )

pub invariant_of-self-then-not-keeps-2 : goal.invariant_of-self-then-not-keeps-2
invariant_of-self-then-not-keeps-2 g c =
    let a = c.self.inside in
    let i = c.self.invariant in
    let item = c.in-Ok.item in
    let none : rest_of a.host a.begun ≡ [] = ap (λ (w : Wired). w.rest) c.self.view_is ∙ c.requires.rest in
    let took : c.take_now.new.self.taken ≡ a.writer.taken ++ item ∷ [] = ap (λ w. w.taken) c.in-Ok.ensures.took in (
      i.0 ∙ ap (λ n. Some n) (sym (ap (λ w. w.channel) c.in-Ok.ensures.took)),
      one_more _ _ _ _ _ _ _ _ _ item i.1 none took (begun_out a.host c.new.result item _ _ c.new.ensures.item
          c.new.ensures.count (same_octets g.W.Write.contents a.out c.keeps.new.out c.keeps.ensures.stream
          (c.keeps.ensures.not c.if-not-keeps.true))) (
            c.new.result.count,
            ap (λ (x : Item). drop c.new.result.count (delivery_text x.delivery a.host))
                c.new.ensures.item,
          ),
      (λ e. ap ends took ∙ ends_more a.writer.taken item ∙ ap is_last (sym c.delivery.ensures)
          ∙ sym c.is_last-self-inside.ensures ∙ e),
      (λ e. still_more a.out.stream c.keeps.new.out.stream c.keeps.ensures.stream (i.3 e)),
      (λ e. still_none a.out.stream c.keeps.new.out.stream c.keeps.ensures.stream (i.4 e)),
      (λ e l. c.new.ensures.count),
      c.keeps.ensures.few i.6,
    )

pub invariant_of-self-else-not-keeps : goal.invariant_of-self-else-not-keeps
invariant_of-self-else-not-keeps g c =
    let a = c.self.inside in
    let known = gathered_contents g.W.Write.contents in
    let i = c.self.invariant in
    let item = c.in-Ok.item in
    let none : rest_of a.host a.begun ≡ [] = ap (λ (w : Wired). w.rest) c.self.view_is ∙ c.requires.rest in
    let took : c.take_now.new.self.taken ≡ a.writer.taken ++ item ∷ [] = ap (λ w. w.taken) c.in-Ok.ensures.took in (
      i.0 ∙ ap (λ n. Some n) (sym (ap (λ w. w.channel) c.in-Ok.ensures.took)),
      one_more _ _ _ _ _ _ _ _ _ item i.1 none took (subst (λ (l : List ℕ). GoesOut (known a.out)
          (known c.keeps.new.out) (delivery_text item.delivery a.host) l) (sym none)
          (goes_whole _ _ a.out.waiting.items _ _ (ap (λ s. g.W.Write.contents s.inner) c.keeps.ensures.stream)
          (c.keeps.ensures.kept c.if-not-keeps.false a.host
          ∙ ap (λ d. a.out.waiting.items ++ delivery_text d a.host) c.delivery-2.ensures)))
          (length (delivery_text item.delivery a.host), none ∙ sym (none_left (delivery_text item.delivery a.host))),
      (λ e. ap ends took ∙ ends_more a.writer.taken item ∙ ap is_last (sym c.delivery.ensures)
          ∙ sym c.is_last-self-inside.ensures ∙ e),
      (λ e. still_more a.out.stream c.keeps.new.out.stream c.keeps.ensures.stream (i.3 e)),
      (λ e. still_none a.out.stream c.keeps.new.out.stream c.keeps.ensures.stream (i.4 e)),
      i.5,
      c.keeps.ensures.few i.6,
    )
