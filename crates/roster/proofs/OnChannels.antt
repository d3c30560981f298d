-- A channel, by the facts.
use Rattle.std.proofs.lemmas.List.Folds.{list_any-append}
use Rattle.std.proofs.lemmas.Bool.Decides.{eqb_tells}
use Rattle.std.proofs.Common.{◌≡◌, inl, inr, ℕ, Bool, true, false, ◌||◌, ◌==◌, cond, List, [], ◌∷◌}
use Rattle.std.proofs.Common.{◌++◌, unwrap_or, Some, None, refl, sym, ap, ◌∙◌, ne_eqb}
use Rattle.casemapping.specs.Fold.{is_same}
use Rattle.casemapping.proofs.SameNames.{is_same-right}
use Rattle.channel_state.specs.declared.change.Rank.TheVariants.{Operator, Voice}
use Rattle.channel_state.specs.declared.change.Change.{Change}
use Rattle.channel_state.specs.declared.change.Change.TheVariants.{Joined, Left, RankSet}
use Rattle.channel_state.specs.State.{State, among, without, with_last, is_some_one, nothing}
use Rattle.channel_state.specs.State.{made_by, with_change, after_gone, or_nothing}
use Rattle.roster.specs.declared.deed.Deed.{Deed}
use Rattle.roster.specs.declared.deed.Deed.TheVariants.{ChannelMade, Changed, Gone}
use Rattle.roster.specs.LookBack.{tells_seat, on, state, members, state_after}
use Rattle.roster.proofs.Bools.{or-true, or-false}

pub among-push : (t s : ℕ) (ts : List ℕ) → among t (ts ++ s ∷ []) ≡ (among t ts || s == t)
among-push t s ts = list_any-append (λ u. u == t) ts (s ∷ []) ∙ ap (λ b. among t ts || b) (or-false (s == t))

pub among-without : (t s : ℕ) (ts : List ℕ) → among t (without s ts) ≡ cond (s == t) false (among t ts)
among-without t s [] = elim (s == t) as (λ b. false ≡ cond b false false) [ true ↦ refl | false ↦ refl ]
among-without t s (u ∷ ts) =
    let ih = among-without t s ts in
    elim (eqb_tells u s) [
      | inl same ↦ rw same.0 (ih ∙ elim (eqb_tells s t) [
        | inl it ↦ rw it.0 refl
        | inr other ↦ let away : (u == t) ≡ false = ne_eqb u t (λ e. other.1 (sym same.1 ∙ e)) in
            rw (other.0, away) refl
      ])
      | inr other ↦ rw other.0 (ap (λ b. u == t || b) ih ∙ elim (eqb_tells s t) [
        | inl it ↦ let away : (u == t) ≡ false = ne_eqb u t (λ e. other.1 (e ∙ sym it.1)) in rw (it.0, away) refl
        | inr miss ↦ rw miss.0 refl
      ])
    ]

-- ---- a fact that says who is on a channel

joined : (e : Bool) (t u : ℕ) (ms : List ℕ) → (u == t) ≡ e → among t (with_last u ms)
    ≡ unwrap_or (cond e (Some true) None) (among t ms)
joined true t u ms eq = among-push t u (without u ms) ∙ ap (λ x. among t (without u ms) || x) eq
    ∙ or-true (among t (without u ms))
joined false t u ms eq = among-push t u (without u ms) ∙ ap (λ x. among t (without u ms) || x) eq
    ∙ or-false (among t (without u ms)) ∙ among-without t u ms ∙ ap (λ x. cond x false (among t ms)) eq

made : (b : Bool) (t u : ℕ) (k : State) → among t (cond b (made_by u) k).members
    ≡ unwrap_or (cond b (Some (u == t)) None) (among t k.members)
made true t u k = or-false (u == t)
made false t u k = refl

gone : (e : Bool) (t u : ℕ) (ms : List ℕ) → (u == t) ≡ e → among t (without u ms)
    ≡ unwrap_or (cond e (Some false) None) (among t ms)
gone true t u ms eq = among-without t u ms ∙ ap (λ x. cond x false (among t ms)) eq
gone false t u ms eq = among-without t u ms ∙ ap (λ x. cond x false (among t ms)) eq

among-changed : (x : Change) (t : ℕ) (k : State) → among t (with_change x k).members
    ≡ unwrap_or (tells_seat t x) (among t k.members)
among-changed (Joined u) t k = joined (u == t) t u k.members refl
among-changed (Left u) t k = gone (u == t) t u k.members refl
among-changed (RankSet u Operator is) t k = refl
among-changed (RankSet u Voice is) t k = refl
among-changed _ t k = refl

-- a channel that ends had no member
members_of_none : (ms : List ℕ) (k : State) → (cond (is_some_one ms) k nothing).members
    ≡ cond (is_some_one ms) k.members []
members_of_none [] k = refl
members_of_none (m ∷ ms) k = refl

some_or_none : (ms : List ℕ) → cond (is_some_one ms) ms [] ≡ ms
some_or_none [] = refl
some_or_none (m ∷ ms) = refl

pub members-lasting : (k : State) → (or_nothing k).members ≡ k.members
members-lasting k = members_of_none k.members k ∙ some_or_none k.members

changes_to : (b : Bool) (x : Change) (t : ℕ) (k : State) → among t (cond b (or_nothing (with_change x k)) k).members
    ≡ unwrap_or (cond b (tells_seat t x) None) (among t k.members)
changes_to true x t k = ap (among t) (members-lasting (with_change x k)) ∙ among-changed x t k
changes_to false x t k = refl

-- a session is on a channel exactly where it is among the members
pub among-members : (fs : List Deed) (t : ℕ) (c : List ℕ) → among t (members fs c) ≡ on fs t c
among-members [] t c = refl
among-members (ChannelMade u k ∷ fs) t c = made (is_same k c) t u (state fs c)
    ∙ ap (unwrap_or (cond (is_same k c) (Some (u == t)) None)) (among-members fs t c)
among-members (Changed k x ∷ fs) t c = changes_to (is_same k c) x t (state fs c)
    ∙ ap (unwrap_or (cond (is_same k c) (tells_seat t x) None)) (among-members fs t c)
among-members (Gone u ∷ fs) t c = ap (among t) (members-lasting (after_gone u (state fs c))) ∙ gone (u == t) t u
    (members fs c) refl ∙ ap (unwrap_or (cond (u == t) (Some false) None)) (among-members fs t c)
among-members (_ ∷ fs) t c = among-members fs t c

-- ---- one name is one channel

reshaped-same : (d : Deed) (c e : List ℕ) (k : State) → is_same c e ≡ true → state_after d c k ≡ state_after d e k
reshaped-same (ChannelMade u n) c e k s = ap (λ b. cond b (made_by u) k) (is_same-right c e n s)
reshaped-same (Changed n x) c e k s = ap (λ b. cond b (or_nothing (with_change x k)) k) (is_same-right c e n s)
reshaped-same _ c e k s = refl

pub state-same : (fs : List Deed) (c e : List ℕ) → is_same c e ≡ true → state fs c ≡ state fs e
state-same [] c e s = refl
state-same (d ∷ fs) c e s = ap (state_after d c) (state-same fs c e s) ∙ reshaped-same d c e (state fs e) s

-- the same name has the same sessions on it
pub on-same : (fs : List Deed) (s : ℕ) (c d : List ℕ) → is_same c d ≡ true → on fs s c ≡ on fs s d
on-same fs s c d e = sym (among-members fs s c) ∙ ap (λ (k : State). among s k.members) (state-same fs c d e)
    ∙ among-members fs s d

-- ---- a channel lasts while somebody is on it

lasting_once : (ms : List ℕ) (k : State) → k.members ≡ ms → or_nothing k ≡ cond (is_some_one ms) k nothing
lasting_once ms k e = ap (λ xs. cond (is_some_one xs) k nothing) e

lasting_twice : (ms : List ℕ) (k : State) → k.members ≡ ms → or_nothing (cond (is_some_one ms) k nothing)
    ≡ cond (is_some_one ms) k nothing
lasting_twice [] k e = refl
lasting_twice (m ∷ ms) k e = lasting_once (m ∷ ms) k e

pub lasting-lasting : (k : State) → or_nothing (or_nothing k) ≡ or_nothing k
lasting-lasting k = lasting_twice k.members k refl

lasts_by : (b : Bool) (new k : State) → or_nothing new ≡ new → or_nothing k ≡ k → or_nothing (cond b new k)
    ≡ cond b new k
lasts_by true new k e f = e
lasts_by false new k e f = f

pub state-lasts : (fs : List Deed) (c : List ℕ) → or_nothing (state fs c) ≡ state fs c
state-lasts [] c = refl
state-lasts (ChannelMade u k ∷ fs) c = lasts_by (is_same k c) (made_by u) (state fs c) refl (state-lasts fs c)
state-lasts (Changed k x ∷ fs) c = lasts_by (is_same k c) (or_nothing (with_change x (state fs c))) (state fs c)
    (lasting-lasting (with_change x (state fs c))) (state-lasts fs c)
state-lasts (Gone u ∷ fs) c = lasting-lasting (after_gone u (state fs c))
state-lasts (_ ∷ fs) c = state-lasts fs c

-- ---- somebody who is among them is somebody

pub someone : (t : ℕ) (ts : List ℕ) → among t ts ≡ true → is_some_one ts ≡ true
someone t [] e = absurd (let f : false ≡ true = e in cc)
someone t (u ∷ ts) e = refl

pub someone-without : (s : ℕ) (ts : List ℕ) → is_some_one ts ≡ false → is_some_one (without s ts) ≡ false
someone-without s [] e = refl
someone-without s (t ∷ ts) e = absurd (let f : true ≡ false = e in cc)
