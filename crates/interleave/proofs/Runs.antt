-- What is read off events and answers is what the lists of a session grew by.
use Rattle.std.proofs.Math.ListN.{get_or-map}
use Rattle.std.proofs.Math.Seq.{map-set_same}
use Rattle.std.proofs.lemmas.List.{get_or-set_same, get_or-set_other}
use Rattle.std.proofs.lemmas.Bool.Decides.{eqb_tells}
use Rattle.std.proofs.Common.{◌≡◌, ◌≢◌, inl, inr, ℕ, ℤ, zero, suc, ◌-◌, ◌<◌, ◌≤◌, Bool, true, false, ◌==◌, cond, List}
use Rattle.std.proofs.Common.{[], ◌∷◌, ◌++◌, length, slice_get, slice_set, slice_index_or, Option, Some, None, Result}
use Rattle.std.proofs.Common.{Ok, Err, arith, refl, sym, ap, ◌∙◌, subst, append-nil, append_assoc}
use Rattle.line_grammar.specs.declared.splitter.Piece.{Piece}
use Rattle.line_grammar.specs.Lines.{lines}
use Rattle.chronicle.specs.History.{accepted}
use Rattle.deliveries.specs.declared.delivery.Delivery.{Delivery}
use Rattle.deliveries.specs.Owed.{owed}
use Rattle.book.specs.Ledger.{to_sweep, to_ping}
use Rattle.interleave.specs.declared.worker.Place.TheVariants.{Home, Hand}
use Rattle.interleave.specs.declared.event.Event.{Event}
use Rattle.interleave.specs.declared.event.Event.TheVariants.{Connect, Feed, Pick, Begin, Put, End, Back}
use Rattle.interleave.specs.declared.event.Event.TheVariants.{Take, Hang, Sweep, Tick, Reap}
use Rattle.interleave.specs.declared.event.Note.{Note}
use Rattle.interleave.specs.declared.event.StepRefusal.{StepRefusal}
use Rattle.interleave.specs.State.{Seen, State, nothing_fed, inbox_at, in_hand, unread, job_of}
use Rattle.interleave.specs.State.{taken_of, queue_of, planned_for, IsSound, ForEach}
use Rattle.interleave.specs.Refusals.{own_refusal}
use Rattle.interleave.specs.Steps.{with_place, with_taken, with_left, with_begun, with_fed, step_feed}
use Rattle.interleave.specs.Steps.{step_take as took_one}
use Rattle.interleave.specs.Steps.{IsBegin, IsBack, IsTake, IsSweep, IsTick, IsDone, IsStep, step_end}
use Rattle.interleave.specs.Runs.{IsRun, item_of, fed_by, handed_by, sent_by, sent_in, took_by, taken_in}
use Rattle.interleave.proofs.Order.{sound_owed, sound_accepted}
use Rattle.interleave.proofs.Free.{session_in}

-- session t was fed these octets and these items were taken of it
pub record Gains (m k : State) (t : ℕ) (octets : List ℕ) (items : List Delivery) : Type 0 where
  pub fed : (inbox_at k t).fed ≡ (inbox_at m t).fed ++ octets
  pub taken : taken_of k t ≡ taken_of m t ++ items

-- ---- lists by the numbers of their sessions

-- one more element that f can't tell from the default
push_alike : {X Y : Type 0} (f : X → Y) (xs : List X) (i : ℕ) (v d : X) → f v ≡ f d
    → f (slice_index_or (xs ++ v ∷ []) i d) ≡ f (slice_index_or xs i d)
push_alike f [] zero v d e = e
push_alike f [] (suc i) v d e = refl
push_alike f (x ∷ xs) zero v d e = refl
push_alike f (x ∷ xs) (suc i) v d e = push_alike f xs i v d e

-- another element that f can't tell from the one before
set_alike : {X Y : Type 0} (f : X → Y) (xs : List X) (i j : ℕ) (v d : X) → f v ≡ f (slice_index_or xs i d)
    → f (slice_index_or (slice_set xs i v) j d) ≡ f (slice_index_or xs j d)
set_alike f xs i j v d e = sym (get_or-map f (slice_set xs i v) j d) ∙ ap
    (λ ys. slice_index_or ys j (f d)) (map-set_same f xs i v d e) ∙ get_or-map f xs j d

-- session s gains ys
set_gains : {X Y : Type 0} (f : X → List Y) (xs : List X) (s t : ℕ) (v d : X) (ys : List Y) → 0 < s → 0 < t
    → s ≤ length xs → f v ≡ f (slice_index_or xs (s - 1) d) ++ ys
    → f (slice_index_or (slice_set xs (s - 1) v) (t - 1) d) ≡ f (slice_index_or xs (t - 1) d) ++ cond (s == t) ys []
set_gains f xs s t v d ys a b l e =
    elim (eqb_tells s t) [
      | inl same ↦
          let here : s - 1 < length xs = omega arith in
          rw same.0 (subst (λ (u : ℕ). f (slice_index_or (slice_set xs (s - 1) v) (u - 1) d)
          ≡ f (slice_index_or xs (u - 1) d) ++ ys) same.1 (ap f (get_or-set_same xs (s - 1) v d here) ∙ e))
      | inr other ↦
          let ne : t - 1 ≢ s - 1 = λ i. other.1 (omega arith) in
          rw other.0 (ap f (get_or-set_other xs (s - 1) (t - 1) v d ne) ∙ sym (append-nil _))
    ]

-- ---- the steps

same : (m k : State) (t : ℕ) → k ≡ m → Gains m k t [] []
same m k t e = record {
  fed = ap (λ (n : State). (inbox_at n t).fed) e ∙ sym (append-nil _);
  taken = ap (λ (n : State). taken_of n t) e ∙ sym (append-nil _);
}

-- the inboxes are as before
untouched : (m k : State) (t : ℕ) → k.inboxes ≡ m.inboxes → Gains m k t [] []
untouched m k t e =
    record {
      fed = ap (λ (bs : List Seen). (slice_index_or bs (t - 1) nothing_fed).fed) e ∙ sym (append-nil _);
      taken = ap (λ (bs : List Seen). (slice_index_or bs (t - 1) nothing_fed).taken) e ∙ sym (append-nil _);
    }

-- an inbox changes, but for what was fed and taken
alike : (m k : State) (s t : ℕ) (b : Seen) → b.fed ≡ (inbox_at m s).fed → b.taken ≡ (inbox_at m s).taken
    → k.inboxes ≡ slice_set m.inboxes (s - 1) b → Gains m k t [] []
alike m k s t b f g e =
    record {
      fed = ap (λ (bs : List Seen). (slice_index_or bs (t - 1) nothing_fed).fed) e ∙ set_alike
          (λ (c : Seen). c.fed) m.inboxes (s - 1) (t - 1) b nothing_fed f ∙ sym (append-nil _);
      taken = ap (λ (bs : List Seen). (slice_index_or bs (t - 1) nothing_fed).taken) e ∙ set_alike
          (λ (c : Seen). c.taken) m.inboxes (s - 1) (t - 1) b nothing_fed g ∙ sym (append-nil _);
    }

connect_gains : (m k : State) (t : ℕ) → k.inboxes ≡ m.inboxes ++ nothing_fed ∷ [] → Gains m k t [] []
connect_gains m k t e =
    record {
      fed = ap (λ (bs : List Seen). (slice_index_or bs (t - 1) nothing_fed).fed) e ∙ push_alike
          (λ (b : Seen). b.fed) m.inboxes (t - 1) nothing_fed nothing_fed refl ∙ sym (append-nil _);
      taken = ap (λ (bs : List Seen). (slice_index_or bs (t - 1) nothing_fed).taken) e ∙ push_alike
          (λ (b : Seen). b.taken) m.inboxes (t - 1) nothing_fed nothing_fed refl ∙ sym (append-nil _);
    }

feed_gains : (m : State) (s t : ℕ) (octets : List ℕ) (added : List Piece) → 0 < s → 0 < t → s ≤ length m.inboxes
    → Gains m (step_feed m s octets added) t (cond (s == t) octets []) []
feed_gains m s t octets added above from l =
    record {
      fed = set_gains (λ (b : Seen). b.fed) m.inboxes s t
          (with_fed (inbox_at m s) octets added) nothing_fed octets above from l refl;
      taken = set_alike (λ (c : Seen). c.taken) m.inboxes (s - 1) (t - 1)
          (with_fed (inbox_at m s) octets added) nothing_fed refl ∙ sym (append-nil _);
    }

take_gains : (m : State) (s t : ℕ) (x : Delivery) → 0 < s → 0 < t → s ≤ length m.inboxes
    → Gains m (took_one m s x) t [] (cond (s == t) (x ∷ []) [])
take_gains m s t x above from l =
    record {
      fed = set_alike (λ (c : Seen). c.fed) m.inboxes (s - 1) (t - 1) (with_taken (inbox_at m s) x) nothing_fed refl
          ∙ sym (append-nil _);
      taken = set_gains (λ (b : Seen). b.taken) m.inboxes s t (with_taken (inbox_at m s) x) nothing_fed
          (x ∷ []) above from l refl;
    }

inboxes_of : (k m : State) → k ≡ m → k.inboxes ≡ m.inboxes
inboxes_of k m e = ap (λ (n : State). n.inboxes) e

either_way : (b : Bool) (xs : List Delivery) → cond b xs xs ≡ xs
either_way true xs = refl
either_way false xs = refl

begin_gains : (m k : State) (w t : ℕ) (o : Option ℕ) (moment : ℤ) (n : Note) → IsBegin m w o moment n k
    → Gains m k t [] []
begin_gains m k w t None moment n h = absurd h
begin_gains m k w t (Some s) moment n h = alike m k s t (with_begun (inbox_at m s) w h.1) refl refl
    (inboxes_of _ _ h.5)

end_gains : (m k : State) (w t : ℕ) (o : Option ℕ) → k ≡ step_end m w o → Gains m k t [] []
end_gains m k w t None e = untouched m k t (inboxes_of _ _ e)
end_gains m k w t (Some s) e = alike m k s t (with_place (inbox_at m s) Home) refl refl (inboxes_of _ _ e)

back_gains : (m k : State) (w t : ℕ) (o : Option ℕ) (n : Note) → IsBack m w o n k → Gains m k t [] []
back_gains m k w t None n h = absurd h
back_gains m k w t (Some s) n h = alike m k s t (with_place (inbox_at m s) Home) refl refl (inboxes_of _ _ h.1)

sweep_gains : (m k : State) (w t : ℕ) (o : Option ℕ) (moment : ℤ) (n : Note) → IsSweep m w o moment n k
    → Gains m k t [] []
sweep_gains m k w t None moment n h = untouched m k t (inboxes_of _ _ h.1)
sweep_gains m k w t (Some s) moment n h = untouched m k t (inboxes_of _ _ h.1)

tick_gains : (m k : State) (w t : ℕ) (ts : List ℕ) (moment : ℤ) (n : Note) → IsTick m w ts moment n k
    → Gains m k t [] []
tick_gains m k w t [] moment n h = untouched m k t (inboxes_of _ _ h.1)
tick_gains m k w t (u ∷ us) moment n h = untouched m k t (inboxes_of _ _ h.2)

took_gains : (m k : State) (s t : ℕ) (o : Option Delivery) (n : Note) → 0 < s → 0 < t → s ≤ length m.inboxes
    → IsTake m s o n k → Gains m k t [] (cond (s == t) (item_of n) [])
took_gains m k s t None n above from l h =
    subst (λ (v : Note). Gains m k t [] (cond (s == t) (item_of v) [])) (sym h.0)
    (subst (λ (xs : List Delivery). Gains m k t [] xs) (sym (either_way (s == t) [])) (same m k t h.1))
took_gains m k s t (Some x) n above from l h =
    subst (λ (v : Note). Gains m k t [] (cond (s == t) (item_of v) [])) (sym h.0) (subst
    (λ (j : State). Gains m j t [] (cond (s == t) (x ∷ []) [])) (sym h.1) (take_gains m s t x above from l))

done_gains : (m k : State) (e : Event) (n : Note) (t : ℕ) → 0 < t → own_refusal m e ≡ None → IsDone m e n k
    → Gains m k t (fed_by t e) (handed_by t e n)
done_gains m k (Connect host moment) n t from free h = connect_gains m k t (inboxes_of _ _ h.2)
done_gains m k (Feed s octets) n t from free h = let i = session_in m s None free in
    subst (λ (j : State). Gains m j t (cond (s == t) octets []) []) (sym h.3)
    (feed_gains m s t octets h.0 i.0.above from i.0.below)
done_gains m k (Pick w s) n t from free h = alike m k s t (with_place (inbox_at m s) (Hand w)) refl refl
    (inboxes_of _ _ h.1)
done_gains m k (Begin w moment) n t from free h = begin_gains m k w t (job_of m w) moment n h
done_gains m k (Put w) n t from free h = untouched m k t (inboxes_of _ _ h.3)
done_gains m k (End w) n t from free h = end_gains m k w t (job_of m w) h.5
done_gains m k (Back w) n t from free h = back_gains m k w t (job_of m w) n h
done_gains m k (Take s) n t from free h = let i = session_in m s None free in
    took_gains m k s t (slice_get (queue_of m s) 0) n i.0.above from i.0.below h
done_gains m k (Hang w s why moment) n t from free h = untouched m k t (inboxes_of _ _ h.5)
done_gains m k (Sweep w moment) n t from free h = sweep_gains m k w t (to_sweep m.book.history) moment n h.1
done_gains m k (Tick w moment) n t from free h = tick_gains m k w t (to_ping m.book.history moment) moment n h.1
done_gains m k (Reap s) n t from free h = alike m k s t (with_left (inbox_at m s) (queue_of m s)) refl refl
    (inboxes_of _ _ h.2)

step_gains : (m k : State) (e : Event) (r : Result Note StepRefusal) (t : ℕ) → 0 < t → IsStep m e r k
    → Gains m k t (sent_by t e r) (took_by t e r)
step_gains m k e (Ok n) t from h = done_gains m k e n t from h.0 h.1
step_gains m k e (Err r) t from h = same m k t h.1

-- ---- runs

run_gains : (m k : State) (es : List Event) (rs : List (Result Note StepRefusal)) (t : ℕ) → 0 < t → IsRun m es rs k
    → Gains m k t (sent_in t es rs) (taken_in t es rs)
run_gains m k [] [] t from h = same m k t h
run_gains m k [] (r ∷ rs) t from h = absurd h
run_gains m k (e ∷ es) [] t from h = absurd h
run_gains m k (e ∷ es) (r ∷ rs) t from h =
    let one = step_gains m h.0 e r t from h.1 in
    let more = run_gains h.0 k es rs t from h.3 in
    record {
      fed = more.fed ∙ ap (λ xs. xs ++ sent_in t es rs) one.fed ∙ append_assoc (inbox_at m t).fed (sent_by t e r)
          (sent_in t es rs);
      taken = more.taken ∙ ap (λ xs. xs ++ taken_in t es rs) one.taken ∙ append_assoc (taken_of m t) (took_by t e r)
          (taken_in t es rs);
    }

pub run_taken : (m k : State) (es : List Event) (rs : List (Result Note StepRefusal))
    → IsSound k → IsRun m es rs k → ForEach k
    (λ t. (taken_of m t ++ taken_in t es rs) ++ queue_of k t ++ planned_for k t
    ≡ owed k.book.settings k.book.history t)
run_taken m k es rs i h t from to = ap (λ xs. xs ++ queue_of k t ++ planned_for k t)
    (sym (run_gains m k es rs t from h).taken) ∙ sound_owed k i t from to

pub run_accepted : (m k : State) (es : List Event) (rs : List (Result Note StepRefusal))
    → IsSound k → IsRun m es rs k → ForEach k
    (λ t. accepted k.book.history t ++ in_hand k t ++ unread k t ≡ lines ((inbox_at m t).fed ++ sent_in t es rs))
run_accepted m k es rs i h t from to = sound_accepted k i t from to ∙ ap lines (run_gains m k es rs t from h).fed
