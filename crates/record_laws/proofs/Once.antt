-- Lists in which each session stands once.
use Rattle.std.proofs.Common.{◌≡◌, inl, inr, ℕ, Bool, true, false, not, ◌&&◌, ◌==◌, List, [], ◌∷◌, ◌++◌}
use Rattle.std.proofs.Common.{filter, sym, ap, ◌∙◌, ne_eqb}
use Rattle.std.specs.List.{AllByRecursion}
use Rattle.channel_state.specs.State.{without}
use Rattle.roster.specs.declared.deed.Deed.{Deed}
use Rattle.roster.specs.LookBack.{opened_in, share, sharers}
use Rattle.roster.proofs.Bools.{either}
use Rattle.roster.proofs.OnceLaws.{eq, distinct-filter, distinct-push, not_self}
use Rattle.record_laws.specs.Laws.{IsEachOnce}

pub once-filter : (p : ℕ → Bool) (ts : List ℕ) → IsEachOnce ts → IsEachOnce (filter p ts)
once-filter p ts once = distinct-filter eq p ts once

pub once-without : (s : ℕ) (ts : List ℕ) → IsEachOnce ts → IsEachOnce (without s ts)
once-without s ts once = once-filter (λ u. not (u == s)) ts once

pub once-sharers : (fs : List Deed) (s : ℕ) → IsEachOnce (opened_in fs) → IsEachOnce (sharers fs s)
once-sharers fs s once = once-filter (λ t. share fs s t && not (s == t)) (opened_in fs) once

-- whoever passes a test that s doesn't isn't s
apart : (p : ℕ → Bool) (s : ℕ) → p s ≡ false → (ts : List ℕ) → AllByRecursion (λ t. eq t s ≡ false) (filter p ts)
apart p s fails [] = tt
apart p s fails (t ∷ ts) = elim (either (p t)) [
  | inl in_it ↦
      let other : (t == s) ≡ false = ne_eqb t s (λ e. let f : false ≡ true = sym fails ∙ ap p (sym e) ∙ in_it in cc) in
      rw in_it (other, apart p s fails ts)
  | inr out ↦ rw out (apart p s fails ts)
]

-- the sharers, and the session itself
pub once-with_self : (fs : List Deed) (s : ℕ) → IsEachOnce (opened_in fs) → IsEachOnce (sharers fs s ++ s ∷ [])
once-with_self fs s once = distinct-push eq s (sharers fs s) (once-sharers fs s once)
    (apart (λ t. share fs s t && not (s == t)) s (not_self (share fs s s) s) (opened_in fs))
