-- The plan that is out stays the one that is out.
use Rattle.std.proofs.Common.{◌≡◌, ℕ, ◌+◌, ◌<◌, ◌≤◌, List, [], ◌∷◌, ◌++◌, length, Option}
use Rattle.std.proofs.Common.{Some, None, true, false, arith, refl, sym, ap, ◌∙◌, subst}
use Rattle.std.specs.Prelude.{IsSome, IfSome}
use Rattle.line_grammar.specs.declared.splitter.Piece.{Piece}
use Rattle.chronicle.specs.declared.record.Kind.{Kind}
use Rattle.chronicle.specs.declared.record.Kind.TheVariants.{Opened, Said, Hung, Gone, Ticked}
use Rattle.chronicle.specs.History.{Rec, actor, sessions}
use Rattle.chronicle.specs.Journal.{miss}
use Rattle.deliveries.specs.declared.item.Item.{Item}
use Rattle.outbox.specs.declared.queue.PutFault.{PutFault}
use Rattle.ledger.specs.declared.plan.Planned.{Planned}
use Rattle.ledger.specs.declared.outcomes.Step.{Step}
use Rattle.ledger.specs.declared.outcomes.Step.TheVariants.{Put, Missed}
use Rattle.ledger.specs.Ledger.{Shown, delivered_to, after_miss, IsPutNext, Out, IsOut}
use Rattle.ledger.specs.Ledger.{newest_missed, newest_actor, newest_next, newest_line, next_of, line_of}

-- what is noted of a step
abbrev pub IsNoted : Out → Option Step → Out → Type 0
IsNoted p None q = q ≡ p
IsNoted p (Some (Put t)) q = q ≡ p
IsNoted p (Some (Missed t)) q = (q.number ≡ p.number) × (q.session ≡ p.session) × (q.next ≡ p.next)
    × (q.missed ≡ p.missed ++ t ∷ []) × (q.room + 1 ≡ p.room)

-- a record after which a line of its session is next says a line
says : (k : Kind) → IsSome (next_of k) → IsSome (line_of k)
says (Opened s host) i = i
says (Said s j piece) i = refl
says (Hung s why) i = i
says (Gone s) i = i
says Ticked i = i

pub newest_says : (h : List Rec) → IsSome (newest_next h) → IsSome (newest_line h)
newest_says [] i = i
newest_says (r ∷ h) i = says r.kind i

-- which is its session's
says_own : (k : Kind) (x : Piece) → IsSome (line_of k) → IfSome (line_of k) (λ l. l.1 ≡ x)
    → line_of k ≡ Some (actor k, x)
says_own (Opened s host) x i e = absurd (let f : false ≡ true = i in cc)
says_own (Said s j piece) x i e = ap (λ (p : Piece). Some (s, p)) e
says_own (Hung s why) x i e = absurd (let f : false ≡ true = i in cc)
says_own (Gone s) x i e = absurd (let f : false ≡ true = i in cc)
says_own Ticked x i e = absurd (let f : false ≡ true = i in cc)

pub newest_says_own : (h : List Rec) (x : Piece) → IsSome (newest_line h) → IfSome (newest_line h) (λ l. l.1 ≡ x)
    → newest_line h ≡ Some (newest_actor h, x)
newest_says_own [] x i e = absurd (let f : false ≡ true = i in cc)
newest_says_own (r ∷ h) x i e = says_own r.kind x i e

missed_more : (h : List Rec) (t : ℕ) → 0 < length h → newest_missed (miss h t) ≡ newest_missed h ++ t ∷ []
missed_more [] t l = absurd (omega arith)
missed_more (r ∷ h) t l = refl

actor_same : (h : List Rec) (t : ℕ) → newest_actor (miss h t) ≡ newest_actor h
actor_same [] t = refl
actor_same (r ∷ h) t = refl

next_same : (h : List Rec) (t : ℕ) → newest_next (miss h t) ≡ newest_next h
next_same [] t = refl
next_same (r ∷ h) t = refl

sessions_same : (h : List Rec) (t : ℕ) → sessions (miss h t) ≡ sessions h
sessions_same [] t = refl
sessions_same (r ∷ h) t = refl

length_same : (h : List Rec) (t : ℕ) → length (miss h t) ≡ length h
length_same [] t = refl
length_same (r ∷ h) t = refl

out_missed : {O : Type 0} (m : Shown O) (p q : Out) (x : Planned) (xs : List Planned) → IsOut m p → m.plan ≡ x ∷ xs
    → IsNoted p (Some (Missed x.session)) q → IsOut (after_miss m x xs) q
out_missed m p q x xs i e n =
    let h = m.history in
    let t = x.session in
    let longer : length m.plan ≡ length xs + 1 = ap length e
    ∙ (let f : length (x ∷ xs) ≡ length xs + 1 = omega arith in f) in
    let fits = i.room in let less = n.4 in let few = i.kept in let some : 0 < length h = omega arith in
    record {
      busy = i.busy;
      number = n.0 ∙ i.number ∙ sym (length_same h t);
      session = n.1 ∙ i.session ∙ sym (actor_same h t);
      next = n.2 ∙ i.next ∙ sym (next_same h t);
      opened = let a = i.opened in let b = n.1 in let c = sessions_same h t in
          let goal : q.session ≤ sessions (miss h t) = omega arith in goal;
      missed = n.3 ∙ ap (λ xs. xs ++ t ∷ []) i.missed ∙ sym (missed_more h t some);
      room = omega arith;
      kept = let few = i.kept in let same = length_same h t in
          let goal : m.limit.dropped < length (miss h t) = omega arith in goal;
    }

out_put : {O : Type 0} (m : Shown O) (p : Out) (x : Planned) (xs : List Planned) (box : O) → IsOut m p
    → m.plan ≡ x ∷ xs → IsOut (delivered_to m x xs box) p
out_put m p x xs box i e =
    let longer : length m.plan ≡ length xs + 1 = ap length e
    ∙ (let f : length (x ∷ xs) ≡ length xs + 1 = omega arith in f) in
    let fits = i.room in
    record {
      busy = i.busy;
      number = i.number;
      session = i.session;
      next = i.next;
      opened = i.opened;
      missed = i.missed;
      room = omega arith;
      kept = i.kept;
    }

by_plan : {O : Type 0} (accepts : O → Item → O → Type 0) (refuses : O → PutFault → Type 0)
    (m k : Shown O) (p q : Out) (ps : List Planned) (step : Option Step) → m.plan ≡ ps → IsOut m p
    → IsPutNext accepts refuses m ps step k → IsNoted p step q → IsOut k q
by_plan accepts refuses m k p q [] None e i is n = subst (λ x. IsOut x q) (sym is) (subst (IsOut m) (sym n) i)
by_plan accepts refuses m k p q [] (Some step) e i is n = absurd is
by_plan accepts refuses m k p q (x ∷ xs) None e i is n = absurd is
by_plan accepts refuses m k p q (x ∷ xs) (Some (Put t)) e i is n = subst (λ y. IsOut y q) (sym is.1.book)
    (subst (IsOut (delivered_to m x xs is.1.after)) (sym n) (out_put m p x xs is.1.after i e))
by_plan accepts refuses m k p q (x ∷ xs) (Some (Missed t)) e i is n = subst (λ y. IsOut y q) (sym is.1.book)
    (out_missed m p q x xs i e (subst (λ (u : ℕ). IsNoted p (Some (Missed u)) q) is.0 n))

pub out_next : {O : Type 0} (accepts : O → Item → O → Type 0) (refuses : O → PutFault → Type 0)
    (m k : Shown O) (p q : Out) (step : Option Step) → IsOut m p → IsPutNext accepts refuses m m.plan step k
    → IsNoted p step q → IsOut k q
out_next accepts refuses m k p q step i is n = by_plan accepts refuses m k p q m.plan step refl i is n
