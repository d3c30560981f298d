-- A history grows to itself, by a record and by a session that missed its newest; and growing goes on.
use Rattle.std.proofs.Common.{◌≡◌, ◌∙◌, ℕ, List, [], ◌∷◌, ◌++◌, ap, sym, refl, subst, append_assoc}
use Rattle.std.proofs.lemmas.List.{append-nil}
use Rattle.chronicle.specs.History.{Rec}
use Rattle.chronicle.specs.Journal.{miss}
use Rattle.deliveries.specs.Growth.{Grows, also_missed}

missed_none : (r : Rec) → r ≡ also_missed r []
missed_none r = ap (λ ts. record { number = r.number; moment = r.moment; kind = r.kind; missed = ts })
    (sym (append-nil r.missed))

missed_twice : (r : Rec) (ts us : List ℕ) → also_missed (also_missed r ts) us ≡ also_missed r (ts ++ us)
missed_twice r ts us = ap (λ all. record { number = r.number; moment = r.moment; kind = r.kind; missed = all })
    (append_assoc r.missed ts us)

pub grows_to_itself : (h : List Rec) → Grows h h
grows_to_itself [] = tt
grows_to_itself (r ∷ h) = ([], [], ap (λ x. x ∷ h) (missed_none r))

pub grows_by_one : (h : List Rec) (r : Rec) → Grows h (r ∷ h)
grows_by_one [] r = tt
grows_by_one (x ∷ h) r = (r ∷ [], [], ap (λ y. r ∷ y ∷ h) (missed_none x))

pub grows_by_a_miss : (h : List Rec) (t : ℕ) → Grows h (miss h t)
grows_by_a_miss [] t = tt
grows_by_a_miss (r ∷ h) t = ([], t ∷ [], refl)

after_more : (r : Rec) (h : List Rec) (more : List Rec) (ts : List ℕ) (l : List Rec)
    → Grows (more ++ also_missed r ts ∷ h) l → Grows (r ∷ h) l
after_more r h [] ts l next = (next.0, ts ++ next.1, next.2 ∙ ap (λ x. next.0 ++ x ∷ h) (missed_twice r ts next.1))
after_more r h (m ∷ more) ts l next = (
  next.0 ++ also_missed m next.1 ∷ more,
  ts,
  next.2 ∙ sym (append_assoc next.0 (also_missed m next.1 ∷ more) (also_missed r ts ∷ h)),
)

pub grows_on : (h k l : List Rec) → Grows h k → Grows k l → Grows h l
grows_on [] k l now next = tt
grows_on (r ∷ h) k l now next = after_more r h now.0 now.1 l (subst (λ x. Grows x l) now.2 next)
