-- What is looked up after facts is the answer before them, changed by each in turn; effects on effects.
use Rattle.std.proofs.Common.{◌≡◌, ℕ, zero, suc, ◌+◌, ◌<◌, ◌≤◌, List, [], ◌∷◌, ◌++◌, length, take, get_or, unwrap_or}
use Rattle.std.proofs.Common.{arith, refl, sym, ap, ◌∙◌, subst, append_assoc, length-append, Result, Ok, Err}
use Rattle.std.specs.Result.{OnOk}
use Rattle.transactions.specs.TransactionView.{TransactionView, IsTransaction, grown}
use Rattle.std.proofs.lemmas.List.{take_more}
use Rattle.roster.specs.declared.deed.Deed.{Deed}
use Rattle.roster.specs.declared.deed.Deed.TheVariants.{Opened, NickSet, UserSet, HoldSet, CapsSet}
use Rattle.roster.specs.declared.deed.Deed.TheVariants.{ExchangeSet, LoggedIn, Enrolled, AwaySet}
use Rattle.roster.specs.declared.deed.Deed.TheVariants.{InvisibleSet, ChannelMade, Changed, Ended, Gone}
use Rattle.roster.specs.LookBack.{after, opened_in, host, enrol, enrol_after, state_after, state, tells_host}
use Rattle.roster.specs.Legal.{IsOpened, IsNext, AreNext}
use Rattle.transactions.specs.declared.effect.Effect.{Effect}
use Rattle.transactions.specs.declared.effect.Effect.TheVariants.{Establish, Answer, Show, Copy}
use Rattle.transactions.specs.Effects.{deeds_of}

pub after-append : (fs ds es : List Deed) → after fs (ds ++ es) ≡ after (after fs ds) es
after-append fs [] es = refl
after-append fs (d ∷ ds) es = after-append (d ∷ fs) ds es

pub deeds_of-append : (xs ys : List Effect) → deeds_of (xs ++ ys) ≡ deeds_of xs ++ deeds_of ys
deeds_of-append [] ys = refl
deeds_of-append (Establish d ∷ xs) ys = ap (λ ds. d ∷ ds) (deeds_of-append xs ys)
deeds_of-append (Answer l ∷ xs) ys = deeds_of-append xs ys
deeds_of-append (Show hs l ∷ xs) ys = deeds_of-append xs ys
deeds_of-append (Copy l ∷ xs) ys = deeds_of-append xs ys

-- the facts after more effects
pub after-effects : (fs : List Deed) (xs ys : List Effect) → after fs (deeds_of (xs ++ ys))
    ≡ after (after fs (deeds_of xs)) (deeds_of ys)
after-effects fs xs ys = ap (after fs) (deeds_of-append xs ys) ∙ after-append fs (deeds_of xs) (deeds_of ys)

-- the facts after one fact more
pub after-take : (fs ds : List Deed) (i : ℕ) (d : Deed) → i < length ds → d ≡ get_or ds i d
    → after fs (take (i + 1) ds) ≡ d ∷ after fs (take i ds)
after-take fs ds i d l is = ap (after fs) (take_more ds i d l ∙ ap (λ (x : Deed). take i ds ++ x ∷ []) (sym is))
    ∙ after-append fs (take i ds) (d ∷ [])

-- a look-back that each fact changes by a step
pub replay : {A : Type 0} (look : List Deed → A) (step : A → Deed → A)
    → ((fs : List Deed) (d : Deed) → look (d ∷ fs) ≡ step (look fs) d)
    → (fs ds : List Deed) (i : ℕ) (d : Deed) → i < length ds → d ≡ get_or ds i d
    → look (after fs (take (i + 1) ds)) ≡ step (look (after fs (take i ds))) d
replay look step h fs ds i d l is = ap look (after-take fs ds i d l is) ∙ h (after fs (take i ds)) d

pub host_step : (s : ℕ) (fs : List Deed) (d : Deed) → host (d ∷ fs) s ≡ unwrap_or (tells_host s d) (host fs s)
host_step s fs d = refl

pub enrol_step : (s : ℕ) (fs : List Deed) (d : Deed) → enrol (d ∷ fs) s ≡ enrol_after s d (enrol fs s)
enrol_step s fs d = refl

pub state_step : (c : List ℕ) (fs : List Deed) (d : Deed) → state (d ∷ fs) c ≡ state_after d c (state fs c)
state_step c fs d = refl

-- ---- deeds that may come next

next-append : (fs ds es : List Deed) → AreNext fs ds → AreNext (after fs ds) es → AreNext fs (ds ++ es)
next-append fs [] es a b = b
next-append fs (d ∷ ds) es a b = (a.0, next-append (d ∷ fs) ds es a.1 b)

pub tx-append : (fs ds es : List Deed) → IsTransaction fs ds → IsTransaction (after fs ds) es
    → IsTransaction fs (ds ++ es)
tx-append fs ds es a b = record {
  next = next-append fs ds es a.next b.next;
  opened = ap opened_in (after-append fs ds es) ∙ b.opened ∙ a.opened;
}

-- each may come after those before it
pub next_at : (fs ds : List Deed) (i : ℕ) (d : Deed) → i < length ds → d ≡ get_or ds i d → AreNext fs ds
    → IsNext (after fs (take i ds)) d
next_at fs [] i d l is a = absurd (omega arith)
next_at fs (x ∷ ds) zero d l is a = subst (λ (y : Deed). IsNext fs y) (sym is) a.0
next_at fs (x ∷ ds) (suc i) d l is a = let inside : i < length ds = omega arith in
    next_at (x ∷ fs) ds i d inside is a.1

-- effects on effects
pub grown_grown : (d : TransactionView) (xs ys : List Effect) → grown (grown d xs) ys ≡ grown d (xs ++ ys)
grown_grown d xs ys =
    ap (λ (gs : List Deed). record {
      settings = d.settings;
      base = d.base;
      facts = gs;
      effects = d.effects ++ xs ++ ys;
      session = d.session;
    }) (sym (after-effects d.facts xs ys))
    ∙ ap (λ (es : List Effect). record {
      settings = d.settings;
      base = d.base;
      facts = after d.facts
          (deeds_of (xs ++ ys));
      effects = es;
      session = d.session;
    }) (append_assoc d.effects xs ys)

-- a step that adds effects, after one that added others
pub on_grown : {E : Type 0} (r : Result (Unit {0}) E) (d m k : TransactionView) (xs ys : List Effect) → m ≡ grown d xs
    → OnOk r (k ≡ grown m ys) → OnOk r (k ≡ grown d (xs ++ ys))
on_grown (Ok u) d m k xs ys e f = f ∙ ap (λ (x : TransactionView). grown x ys) e ∙ grown_grown d xs ys
on_grown (Err x) d m k xs ys e f = tt

-- ---- sessions that were opened

same : (n : ℕ) → n ≤ n
same n = omega arith

opened_one : (d : Deed) (fs : List Deed) → length (opened_in fs) ≤ length (opened_in (d ∷ fs))
opened_one (Opened t h) fs = let e : length (opened_in fs ++ t ∷ [])
    ≡ length (opened_in fs) + 1 = length-append (opened_in fs) (t ∷ []) in omega arith
opened_one _ fs = same (length (opened_in fs))

opened_more : (fs ds : List Deed) → length (opened_in fs) ≤ length (opened_in (after fs ds))
opened_more fs [] = same (length (opened_in fs))
opened_more fs (d ∷ ds) = let a = opened_one d fs in let b = opened_more (d ∷ fs) ds in omega arith

-- a session that was opened still is
pub still_opened : (fs ds : List Deed) (s : ℕ) → IsOpened fs s → IsOpened (after fs ds) s
still_opened fs ds s o = (o.0, (let a = opened_more fs ds in let b = o.1 in omega arith))

-- also in a transaction that grew
pub opened_grown : (d m : TransactionView) (xs : List Effect) (s : ℕ) → m ≡ grown d xs → IsOpened d.facts s
    → IsOpened m.facts s
opened_grown d m xs s e o = subst (λ (x : TransactionView). IsOpened x.facts s) (sym e)
    (still_opened d.facts (deeds_of xs) s o)
