use Rattle.std.proofs.Common.{◌≡◌, ◌<◌, List, [], ℕ, Bool, true, false, Option, Some, Err, drop}
use Rattle.std.proofs.Common.{refl, sym, ap, ◌∙◌, subst, arith}
use Rattle.deliveries.specs.declared.item.Item.{Item}
use Rattle.wire.specs.Causes.{HasCause}
use Rattle.wire.specs.Gathering.{gathered_contents}
use Rattle.wire.specs.Wired.{Wired, texts, newest_text, rest_of, GoesOut, LastIsWhole}
use Rattle.wire.specs.declared.item_write.ItemWrite.{ItemWrite}
use Rattle.wire.proofs.Going.{goes_on, tail_on}
use Rattle.wire.proofs.wire.Wire.write_begun.Goals as goal

-- of a wire without a fault nothing of a last item was written
not_begun : (broken : Bool) (faults : ℕ) (begun : Option ItemWrite) (x : ItemWrite) → faults ≡ 0
    → (broken ≡ true → 0 < faults) → (broken ≡ false → LastIsWhole begun) → begun ≡ Some x → LastIsWhole (Some x)
not_begun true faults begun x none bad good is = let more = bad refl in absurd (omega (arith, none, more))
not_begun false faults begun x none bad good is = subst LastIsWhole is (good refl)

-- more of the newest item went out: how all stands then
further : (host lent : List ℕ) (a b c : Option (List ℕ)) (since : List Item) (begun : Option ItemWrite) (x : ItemWrite)
    (left : List ℕ) → lent ≡ host → begun ≡ Some x → GoesOut a b (texts host since) (rest_of host begun)
    → ((n : ℕ) × (rest_of host begun ≡ drop n (newest_text host since)))
    → GoesOut b c (rest_of lent (Some x)) left
    → GoesOut a c (texts host since) left × ((n : ℕ) × (left ≡ drop n (newest_text host since)))
further host lent a b c since begun x left same is before tail now =
    let here : GoesOut b c (rest_of host (Some x)) left =
    subst (λ h. GoesOut b c (rest_of h (Some x)) left) same now in
    let from : GoesOut b c (rest_of host begun) left =
    subst (λ o. GoesOut b c (rest_of host o) left) (sym is) here in (
      goes_on a b c (texts host since) (rest_of host begun) left before from,
      tail_on b c (rest_of host begun) left (newest_text host since) from tail,
    )

-- the same where some of it is left
further_rest : (host lent : List ℕ) (a b c : Option (List ℕ)) (since : List Item) (begun : Option ItemWrite)
    (x y : ItemWrite) → lent ≡ host → begun ≡ Some x → GoesOut a b (texts host since) (rest_of host begun)
    → ((n : ℕ) × (rest_of host begun ≡ drop n (newest_text host since)))
    → GoesOut b c (rest_of lent (Some x)) (rest_of lent (Some y)) → GoesOut a c (texts host since)
    (rest_of host (Some y)) × ((n : ℕ) × (rest_of host (Some y) ≡ drop n (newest_text host since)))
further_rest host lent a b c since begun x y same is before tail now =
    further host lent a b c since begun x (rest_of host (Some y)) same is before tail
    (subst (λ h. GoesOut b c (rest_of lent (Some x)) (rest_of h (Some y))) same now)

pub write_rest-requires : goal.write_rest-requires
write_rest-requires g c =
    let a = c.self.inside in
    let i = c.self.invariant in
    record {
      last = not_begun a.is_broken _ a.begun c.in-Some.begun
          (ap (λ (w : Wired). w.faults) c.self.view_is ∙ c.requires.whole) i.3 i.5 c.in-Some.is;
    }

pub invariant_of-self-in-Ok : goal.invariant_of-self-in-Ok
invariant_of-self-in-Ok g c =
    let a = c.self.inside in
    let i = c.self.invariant in
    let lent = c.as_slice.result.now in
    let known = gathered_contents g.W.Write.contents in
    let before = g.W.Write.contents a.stream_before.value in
    let f = further a.host lent before (known a.out) (known c.write_rest.new.out) i.1.since a.begun c.in-Some.begun
    [] c.as_slice.ensures c.in-Some.is i.1.out i.1.newest c.in-Ok.ensures.whole in
    let same = c.in-Ok.ensures.cause.1 in (
      i.0,
      record {
        since = i.1.since;
        taken = i.1.taken;
        out = f.0;
        newest = f.1;
      },
      i.2,
      (λ e. let h = i.3 e in omega (arith, h, same)),
      (λ e. same ∙ i.4 e),
      (λ e. tt),
      c.write_rest.ensures.few i.6,
    )

pub invariant_of-self-in-Err-Later : goal.invariant_of-self-in-Err-Later
invariant_of-self-in-Err-Later g c =
    let a = c.self.inside in
    let i = c.self.invariant in
    let lent = c.as_slice.result.now in
    let known = gathered_contents g.W.Write.contents in
    let before = g.W.Write.contents a.stream_before.value in
    let f = further_rest a.host lent before (known a.out) (known c.write_rest.new.out) i.1.since a.begun
    c.in-Some.begun c.write_rest.new.self c.as_slice.ensures c.in-Some.is i.1.out i.1.newest
    c.in-Err-Later.ensures.more in
    let same = (subst (λ s. HasCause s a.out.stream c.write_rest.new.out.stream) c.in-Err-Later.field-0-is
    c.in-Err-Later.ensures.cause).1 in (
      i.0,
      record { since = i.1.since; taken = i.1.taken; out = f.0; newest = f.1 },
      i.2,
      (λ e. let h = i.3 e in omega (arith, h, same)),
      (λ e. same ∙ i.4 e),
      (λ e. c.write_rest.ensures.last (c.in-Err-Later.is ∙ ap (λ s. Err s) c.in-Err-Later.field-0-is)),
      c.write_rest.ensures.few i.6,
    )

pub invariant_of-self-in-Err-Fault : goal.invariant_of-self-in-Err-Fault
invariant_of-self-in-Err-Fault g c =
    let a = c.self.inside in
    let i = c.self.invariant in
    let lent = c.as_slice.result.now in
    let known = gathered_contents g.W.Write.contents in
    let before = g.W.Write.contents a.stream_before.value in
    let f = further_rest a.host lent before (known a.out) (known c.write_rest.new.out) i.1.since a.begun
    c.in-Some.begun c.write_rest.new.self c.as_slice.ensures c.in-Some.is i.1.out i.1.newest
    c.in-Err-Fault.ensures.more in
    let more = (subst (λ s. HasCause s a.out.stream c.write_rest.new.out.stream) c.in-Err-Fault.field-0-is
    c.in-Err-Fault.ensures.cause).1 in (
      i.0,
      record { since = i.1.since; taken = i.1.taken; out = f.0; newest = f.1 },
      i.2,
      (λ e. omega (arith, more)),
      (λ e. absurd (let x : true ≡ false = e in cc)),
      (λ e. absurd (let x : true ≡ false = e in cc)),
      c.write_rest.ensures.few i.6,
    )
