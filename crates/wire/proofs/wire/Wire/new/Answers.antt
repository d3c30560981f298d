use Rattle.std.proofs.Common.{◌≡◌, ◌≤◌, ℕ, List, true, false, [], length, refl, sym, ap, subst, append-nil, ◌∙◌, arith}
use Rattle.wire.proofs.Going.{starts_out}
use Rattle.wire.proofs.wire.Wire.new.Goals as goal

-- no octets are few
few_none : (xs : List ℕ) → xs ≡ [] → length xs ≤ 65536
few_none xs none = subst (λ l. length l ≤ 65536) (sym none) (omega arith)

pub invariant_of-result : goal.invariant_of-result
invariant_of-result g c =
    let told = g.W.Write.contents in (
      c.requires.own,
      record {
        since = [];
        taken = sym (append-nil c.of-writer_before.result.value.taken ∙ ap (λ w. w.taken) c.of-writer_before.ensures);
        out = starts_out (told c.of-stream_before.result.value)
            (told c.in-Ok-new.out.stream.inner) c.in-Ok-new.out.waiting.items
            (ap told (c.in-Ok-new.out-1-ensures.0 ∙ sym c.of-stream_before.ensures)) c.in-Ok-new.out-1-ensures.1.0;
        newest = (0, refl);
      },
      (λ e. absurd (let f : false ≡ true = e in cc)),
      (λ e. absurd (let f : false ≡ true = e in cc)),
      (λ e. c.in-Ok-new.out-1-ensures.1.1),
      (λ e. tt),
      few_none c.in-Ok-new.out.waiting.items c.in-Ok-new.out-1-ensures.1.0,
    )
