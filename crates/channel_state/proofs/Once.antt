-- Lists of sessions in which each is there once.
use Rattle.std.proofs.lemmas.Bool.Decides.{eqb_tells}
use Rattle.std.proofs.lemmas.List.Folds.{list_any-append}
use Rattle.std.proofs.Common.{◌≡◌, inl, inr, ℕ, zero, suc, Bool, true, false, not, ◌||◌, ◌==◌, cond}
use Rattle.std.proofs.Common.{List, [], ◌∷◌, ◌++◌, slice_get, length, ◌<◌, ◌≤◌, arith, Option, Some}
use Rattle.std.proofs.Common.{None, refl, sym, ap, ◌∙◌, ne_eqb, eq-eqb}
use Rattle.std.specs.List.{remove}
use Rattle.channel_state.specs.State.{among, without}
use Rattle.channel_state.specs.Held.{AreOnce, AreKept, has_come}

or-false : (b : Bool) → (b || false) ≡ b
or-false true = refl
or-false false = refl

or-true : (b : Bool) → (b || true) ≡ true
or-true true = refl
or-true false = refl

or-turned : (a b : Bool) → (a || b) ≡ (b || a)
or-turned true b = sym (or-true b)
or-turned false b = sym (or-false b)

or-none : (a b : Bool) → (a || b) ≡ false → (a ≡ false) × (b ≡ false)
or-none true b e = absurd (let f : true ≡ false = e in cc)
or-none false b e = (refl, e)

pub among-push : (t s : ℕ) (ts : List ℕ) → among t (ts ++ s ∷ []) ≡ (among t ts || s == t)
among-push t s ts = list_any-append (λ u. u == t) ts (s ∷ []) ∙ ap (λ b. among t ts || b) (or-false (s == t))

pub among-without : (t s : ℕ) (ts : List ℕ) → among t (without s ts) ≡ cond (s == t) false (among t ts)
among-without t s [] = elim (s == t) as (λ b. false ≡ cond b false false) [ true ↦ refl | false ↦ refl ]
among-without t s (u ∷ ts) =
    let ih = among-without t s ts in
    elim (eqb_tells u s) [
      | inl same ↦ rw same.0 (ih ∙ elim (eqb_tells s t) [
        | inl it ↦ rw it.0 refl
        | inr other ↦ let away : (u == t) ≡ false = ne_eqb u t (λ e. other.1 (sym same.1 ∙ e)) in
            rw (other.0, away) refl
      ])
      | inr other ↦ rw other.0 (ap (λ b. u == t || b) ih ∙ elim (eqb_tells s t) [
        | inl it ↦ let away : (u == t) ≡ false = ne_eqb u t (λ e. other.1 (e ∙ sym it.1)) in rw (it.0, away) refl
        | inr miss ↦ rw miss.0 refl
      ])
    ]

-- who isn't there needn't be taken out
pub without-none : (s : ℕ) (ts : List ℕ) → among s ts ≡ false → without s ts ≡ ts
without-none s [] e = refl
without-none s (t ∷ ts) e =
    let parts = or-none (t == s) (among s ts) e in
    ap (λ b. cond (not b) (t ∷ without s ts) (without s ts)) parts.0 ∙ ap (λ us. t ∷ us) (without-none s ts parts.1)

pub once-without : (s : ℕ) (ts : List ℕ) → AreOnce ts → AreOnce (without s ts)
once-without s [] o = tt
once-without s (t ∷ ts) o = elim (t == s) as (λ b. AreOnce (cond (not b) (t ∷ without s ts) (without s ts))) [
  | true ↦ once-without s ts o.1
  | false ↦ (
    among-without t s ts ∙ ap (λ b. cond (s == t) false b) o.0 ∙ elim (s == t) as
        (λ b. cond b false false ≡ false) [ true ↦ refl | false ↦ refl ],
    once-without s ts o.1,
  )
]

once-push : (s : ℕ) (ts : List ℕ) → AreOnce ts → among s ts ≡ false → AreOnce (ts ++ s ∷ [])
once-push s [] o e = (refl, tt)
once-push s (t ∷ ts) o e =
    let parts = or-none (t == s) (among s ts) e in
    let away : (s == t) ≡ false = elim (eqb_tells s t) [
      | inl it ↦ absurd
          (let f : (t == s) ≡ true = eq-eqb t s (sym it.1) in let g : true ≡ false = sym f ∙ parts.0 in cc)
      | inr other ↦ other.0
    ] in
    (among-push t s ts ∙ ap (λ b. b || s == t) o.0 ∙ away, once-push s ts o.1 parts.1)

-- who was taken out isn't there
pub gone : (s : ℕ) (ts : List ℕ) → among s (without s ts) ≡ false
gone s ts = among-without s s ts ∙ ap (λ b. cond b false (among s ts)) (eq-eqb s s refl)

-- who is at a place is taken out there
pub removed : (i s : ℕ) (ts : List ℕ) → AreOnce ts → slice_get ts i ≡ Some s → remove ts i ≡ without s ts
removed i s [] o e = absurd (let f : ◌≡◌ {A = Option ℕ} None (Some s) = e in cc)
removed zero s (t ∷ ts) o e =
    let f : Some t ≡ Some s = e in let g : t ≡ s = cc in
    sym (ap (λ b. cond (not b) (t ∷ without s ts) (without s ts)) (eq-eqb t s g)
    ∙ without-none s ts (ap (λ u. among u ts) (sym g) ∙ o.0))
removed (suc i) s (t ∷ ts) o e =
    let there = among-at i s ts e in
    let away : (t == s) ≡ false = elim (eqb_tells t s) [
      | inl it ↦ absurd (let f : among s ts ≡ false = ap (λ u. among u ts) (sym it.1) ∙ o.0 in
          let g : true ≡ false = sym there ∙ f in cc)
      | inr other ↦ other.0
    ] in
    ap (λ us. t ∷ us) (removed i s ts o.1 e) ∙ sym (ap (λ b. cond (not b) (t ∷ without s ts) (without s ts)) away)
  where
    among-at : (j u : ℕ) (us : List ℕ) → slice_get us j ≡ Some u → among u us ≡ true
    among-at j u [] h = absurd (let f : ◌≡◌ {A = Option ℕ} None (Some u) = h in cc)
    among-at zero u (v ∷ us) h = let f : Some v ≡ Some u = h in let g : v ≡ u = cc in
        ap (λ b. b || among u us) (eq-eqb v u g)
    among-at (suc j) u (v ∷ us) h = ap (λ b. v == u || b) (among-at j u us h) ∙ or-true (v == u)

-- ---- sessions, and the turns in which they came

pub kept-none : (ts : List ℕ) (es : List (ℕ × ℕ)) → AreOnce ts → length es ≡ 0 → AreKept ts es
kept-none ts es o e = record { once = o; turns = λ more. absurd (let f : 0 < length es = more in omega arith) }

some : {A : Type 0} (es : List A) → (length es == 0) ≡ false → 0 < length es
some [] e = absurd (let f : true ≡ false = e in cc)
some (x ∷ es) e = omega arith

none : (n : ℕ) → (n == 0) ≡ true → n ≡ 0
none n e = elim (eqb_tells n 0) [
  | inl it ↦ it.1
  | inr other ↦ absurd (let f : true ≡ false = sym e ∙ other.0 in cc)
]

-- who comes last, where no turns are kept
pub kept-alone : (s : ℕ) (ts : List ℕ) (es : List (ℕ × ℕ)) → AreKept ts es → among s ts ≡ false
    → (length es == 0) ≡ true → AreKept (ts ++ s ∷ []) es
kept-alone s ts es k away e = kept-none (ts ++ s ∷ []) es (once-push s ts k.once away) (none (length es) e)

-- and where they are
pub kept-last : (s : ℕ) (ts : List ℕ) (es fs : List (ℕ × ℕ)) → AreKept ts es → among s ts ≡ false
    → (length es == 0) ≡ false
    → (0 < length fs → (t : ℕ) → has_come fs t ≡ (s == t || has_come es t)) → AreKept (ts ++ s ∷ []) fs
kept-last s ts es fs k away there said = record {
  once = once-push s ts k.once away;
  turns = λ more t. said more t ∙ ap (λ b. s == t || b) (k.turns (some es there) t)
      ∙ or-turned (s == t) (among t ts) ∙ sym (among-push t s ts);
}

pub kept-out : (s : ℕ) (ts : List ℕ) (es fs : List (ℕ × ℕ)) → AreKept ts es → length fs ≤ length es
    → ((t : ℕ) → has_come fs t ≡ cond (s == t) false (has_come es t)) → AreKept (without s ts) fs
kept-out s ts es fs k fewer said = record {
  once = once-without s ts k.once;
  turns = λ more t. said t ∙ ap (λ b. cond (s == t) false b) (k.turns (omega arith) t) ∙ sym (among-without t s ts);
}
