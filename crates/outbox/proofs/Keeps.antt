-- Each step keeps the rule of the outbox.
use Rattle.std.proofs.Common.{◌≡◌, ◌≢◌, ℕ, zero, suc, true, false, true≢false, List, [], ◌∷◌, ◌++◌}
use Rattle.std.proofs.Common.{length, set, sym, refl, ap, ◌∙◌, subst, ⊎_elim, append_assoc}
use mathlib.Core.Option.{some, some-ne-none}
use lib.ListN.{get_elem?}
use Rattle.crossbeam_channel.specs.Fifo.{Pushes, Pops, Forks, Merges, Learns}
use Rattle.atomic_table.proofs.Lists.{at_set, at_snoc}
use Rattle.deliveries.specs.declared.item.Item.{Item}
use Rattle.outbox.specs.declared.rule.Log.{Log}
use Rattle.deliveries.specs.Items.{Continues}
use Rattle.outbox.specs.Rule.{log, AreSent, Chained, Fits, Delivers, Puts, Takes, EndsSent, Rests}
use Rattle.outbox.proofs.Chains.{chained-push, chained-at}

at_end : (l : List Log) (a b : Log) (j : ℕ) → get_elem? l j ≢ some b → get_elem? (l ++ a ∷ []) j ≡ some b
    → j ≡ length l
at_end [] a b zero n e = refl
at_end [] a b (suc j) n e = absurd (some-ne-none b (sym e))
at_end (x ∷ xs) a b zero n e = absurd (n e)
at_end (x ∷ xs) a b (suc j) n e = ap suc (at_end xs a b j n e)

abbrev All : (ℕ → Log → Type 0) → List Log → Type 0
All F views = (port : ℕ) (v : Log) → get_elem? views port ≡ some v → F port v

all_set : (F : ℕ → Log → Type 0) (views : List Log) (port : ℕ) (w : Log) → F port w
    → ((j : ℕ) (u : Log) → j ≢ port → get_elem? views j ≡ some u → F j u) → All F (set views port w)
all_set F views port w mine others j u e = ⊎_elim
    (λ (x : (j ≡ port) × (w ≡ u)). subst (λ (y : ℕ × Log). F y.0 y.1) (λ i. (sym x.0 i, x.1 i)) mine)
    (λ (x : (j ≢ port) × (get_elem? views j ≡ some u)). others j u x.0 x.1) (at_set views port j w u e)

pub begins : Delivers [] (log true true [] [] ∷ [])
begins = (
  0,
  0,
  [],
  [],
  tt,
  refl,
  all_set (Fits 0 0 [] []) (log true true [] [] ∷ []) 0
      (log true true [] []) ((λ _. (refl, refl)), λ _. (refl, refl))
      (λ j u other e. absurd (other (at_end [] _ u j (λ x. some-ne-none u (sym x)) e))),
)

pub puts : (n port : ℕ) (v : Log) (x : Item) → v.sends ≡ true → Continues v.sent x
    → Pushes Delivers n port v x (Puts v x)
puts n port v x may next items views _ h at = let w : Log = log v.sends v.takes (v.sent ++ x ∷ []) v.got in
    let mine = h.6 port v at in let sent = h.2 ++ x ∷ [] in
    let next' : Continues h.2 x = subst (λ (l : List Item). Continues l x) (mine.0 may).1 next in (
      w,
      (
        h.0,
        h.1,
        sent,
        h.3,
        chained-push [] h.2 x h.4 next',
        ap (λ l. l ++ x ∷ []) h.5 ∙ append_assoc h.3 items (x ∷ []),
        all_set (Fits h.0 h.1 sent h.3) views port w
            ((λ _. ((mine.0 may).0, ap (λ l. l ++ x ∷ []) (mine.0 may).1)), mine.1)
            (λ j u other e. ((λ p. absurd (other (((h.6 j u e).0 p).0 ∙ sym (mine.0 may).0))), (h.6 j u e).1)),
      ),
      refl,
    )

pub takes : (port : ℕ) (v : Log) → v.takes ≡ true → Pops Delivers port v (Takes v)
takes port v may x items views h at = let w : Log = log v.sends v.takes v.sent (v.got ++ x ∷ []) in
    let mine = h.6 port v at in let got = h.3 ++ x ∷ [] in
    let next : Continues h.3 x = chained-at [] h.3 x items (subst (λ (l : List Item). Chained [] l) h.5 h.4) in (
      w,
      (
        h.0,
        h.1,
        h.2,
        got,
        h.4,
        h.5 ∙ sym (append_assoc h.3 (x ∷ []) items),
        all_set (Fits h.0 h.1 h.2 got) views port w
            (mine.0, λ _. ((mine.1 may).0, ap (λ l. l ++ x ∷ []) (mine.1 may).1))
            (λ j u other e. ((h.6 j u e).0, λ p. absurd (other (((h.6 j u e).1 p).0 ∙ sym (mine.1 may).0)))),
      ),
      (refl, subst (λ (l : List Item). Continues l x) (sym (mine.1 may).1) next),
    )

pub forks : (port : ℕ) (v : Log) → v.sends ≡ true → v.takes ≡ true
    → Forks Delivers port v (log true false v.sent []) (log false true [] v.got)
forks port v a b items views h at = let l : Log = log true false v.sent [] in
    let r : Log = log false true [] v.got in let mine = h.6 port v at in let vs : List Log = set views port l in
    let Old : ℕ → Log → Type 0 = λ j u. (u.sends ≡ true → (j ≡ h.0) × (u.sent ≡ h.2)) × (u.takes ≢ true) in
    let old : All Old vs = all_set Old views port l ((λ _. mine.0 a), λ p. true≢false (sym p))
    (λ j u other e. ((h.6 j u e).0, λ p. other (((h.6 j u e).1 p).0 ∙ sym (mine.1 b).0))) in (
      h.0,
      length vs,
      h.2,
      h.3,
      h.4,
      h.5,
      λ j u e. ⊎_elim (λ x. ((old j u x).0, λ p. absurd ((old j u x).1 p)))
          (λ (is : r ≡ u). (
            (λ p. absurd (true≢false (sym (ap (λ (y : Log). y.sends) is ∙ p)))),
            λ p.
                (at_end vs r u j (λ x. (old j u x).1 p) e, ap (λ (y : Log). y.got) (sym is) ∙ (mine.1 b).1),
          ))
          (at_snoc vs r u j e),
    )

pub merges : (port : ℕ) (v : Log) (other : ℕ) (u : Log) → v.sends ≡ true → u.takes ≡ true
    → Merges Delivers port v other u (log true true v.sent u.got) (log false false [] [])
merges port v other u a b items views h at two at' = let both : Log = log true true v.sent u.got in
    let mine = h.6 port v at in let vs : List Log = set views port both in
    let was : get_elem? views other ≡ some u = ⊎_elim (λ x. absurd (two x.0))
    (λ x. x.1) (at_set views port other both u at') in
    let theirs = (h.6 other u was).1 b in
    let Now : ℕ → Log → Type 0 = λ j y. j ≢ other → Fits h.0 port h.2 h.3 j y in
    let now : All Now vs = all_set Now views port both (λ _. ((λ _. mine.0 a), λ _. (refl, theirs.1)))
    (λ j y _ e apart. ((h.6 j y e).0, λ p. absurd (apart (((h.6 j y e).1 p).0 ∙ sym theirs.0)))) in (
      h.0,
      port,
      h.2,
      h.3,
      h.4,
      h.5,
      all_set (Fits h.0 port h.2 h.3) vs other (log false false [] [])
          ((λ p. absurd (true≢false (sym p))), λ p. absurd (true≢false (sym p))) (λ j y apart e. now j y e apart),
    )

pub ends_sent : (port : ℕ) (v : Log) → v.sends ≡ true → Learns Delivers port v (EndsSent v)
ends_sent port v a items views h at = (h.3, ((h.6 port v at).0 a).1 ∙ h.5)

pub rests : (port : ℕ) (v : Log) → v.sends ≡ true → v.takes ≡ true → Learns Delivers port v (Rests v)
rests port v a b items views h at = let mine = h.6 port v at in
    (mine.0 a).1 ∙ h.5 ∙ ap (λ l. l ++ items) (sym (mine.1 b).1)

pub are_sent : (port : ℕ) (v : Log) → v.takes ≡ true → Learns Delivers port v (AreSent v)
are_sent port v b items views h at = (h.2, h.4, h.5 ∙ ap (λ l. l ++ items) (sym ((h.6 port v at).1 b).1))
