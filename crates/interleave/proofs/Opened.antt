-- The sessions of a legal history are opened once each.
use Rattle.std.proofs.Common.{◌≡◌, ℕ, zero, suc, ◌+◌, ◌<◌, ◌==◌, false, List, []}
use Rattle.std.proofs.Common.{◌∷◌, ◌++◌, arith, refl, sym, subst, ap, ◌∙◌, ne_eqb}
use Rattle.std.specs.List.{AllByRecursion, IsDistinct}
use Rattle.chronicle.specs.declared.record.Kind.{Kind}
use Rattle.chronicle.specs.declared.record.Kind.TheVariants.{Opened, Said, Hung, Gone, Ticked}
use Rattle.chronicle.specs.History.{Rec, opened_by, sessions}
use Rattle.registration.specs.declared.settings.Settings.{Settings}
use Rattle.roster.specs.LookBack.{after, numbers, opened_in}
use Rattle.deeds.specs.Deeds.{deeds, facts}
use Rattle.record_laws.specs.Laws.{IsEachOnce, RecordsOpenNoOthers, opens}
use Rattle.book.specs.Legal.{IsKind, IsLegal}
use Rattle.book.proofs.Opened.{numbers_push}

-- numbers from j on have none below j
above : (k j n : ℕ) → k < j → AllByRecursion (λ y. (k == y) ≡ false) (numbers j n)
above k j zero below = tt
above k j (suc n) below = (ne_eqb k j (omega arith), above k (j + 1) n (omega arith))

pub numbers-once : (k n : ℕ) → IsEachOnce (numbers k n)
unfolding IsDistinct
numbers-once k zero = tt
numbers-once k (suc n) = (above k (k + 1) n (omega arith), numbers-once (k + 1) n)

with-one : (xs : List ℕ) (n s : ℕ) → xs ≡ numbers 1 n → s ≡ n + 1 → xs ++ s ∷ [] ≡ numbers 1 (1 + n)
with-one xs n s e is =
    let next : s ≡ 1 + n = omega arith in let more : 1 + n ≡ suc n = omega arith in
    ap (λ ys. ys ++ s ∷ []) e ∙ ap (λ (m : ℕ). numbers 1 n ++ m ∷ []) next ∙ sym (numbers_push 1 n)
    ∙ ap (numbers 1) (sym more)

-- any record but an opening
others : RecordsOpenNoOthers → (g : Settings) (h : List Rec) (k : Kind) → opens k ≡ false → opened_in (facts g h)
    ≡ numbers 1 (sessions h) → opened_in (after (facts g h) (deeds g (facts g h) k)) ≡ numbers 1 (0 + sessions h)
others no-others g h k closed before =
    let once : IsEachOnce (opened_in (facts g h)) = subst IsEachOnce (sym before) (numbers-once 1 (sessions h)) in
    let same : sessions h ≡ 0 + sessions h = omega arith in
    no-others g (facts g h) k once closed ∙ before ∙ ap (numbers 1) same

-- one record more
by-kind : RecordsOpenNoOthers → (g : Settings) (h : List Rec) (k : Kind) → IsKind h k
    → opened_in (facts g h) ≡ numbers 1 (sessions h)
    → opened_in (after (facts g h) (deeds g (facts g h) k)) ≡ numbers 1 (opened_by k + sessions h)
by-kind no-others g h (Opened s host) is before = with-one (opened_in (facts g h)) (sessions h) s before is
by-kind no-others g h (Said s i piece) is before = others no-others g h (Said s i piece) refl before
by-kind no-others g h (Hung s why) is before = others no-others g h (Hung s why) refl before
by-kind no-others g h (Gone s) is before = others no-others g h (Gone s) refl before
by-kind no-others g h Ticked is before = others no-others g h Ticked refl before

opened-are : RecordsOpenNoOthers → (g : Settings) (h : List Rec) → IsLegal g h
    → opened_in (facts g h) ≡ numbers 1 (sessions h)
opened-are no-others g [] legal = refl
opened-are no-others g (r ∷ h) legal = by-kind no-others g h r.kind legal.2 (opened-are no-others g h legal.4)

pub opened-once : RecordsOpenNoOthers → (g : Settings) (h : List Rec) → IsLegal g h
    → IsEachOnce (opened_in (facts g h))
opened-once no-others g h legal = subst IsEachOnce (sym (opened-are no-others g h legal)) (numbers-once 1 (sessions h))
