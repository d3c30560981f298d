use Rattle.std.proofs.Common.{◌≡◌, inl, inr, ℕ, List, Bool, true, false, not, Some, refl, sym, ap, ◌∙◌}
use Rattle.std.proofs.lemmas.Bool.Decides.{eqb_tells}
use Rattle.std.specs.Prelude.{if◌then◌else◌}
use Rattle.casemapping.specs.Names.{nick_shape}
use Rattle.registration.specs.Enrol.{Enrolment, enrolment, nick_answer, is_own}
use Rattle.registration.specs.declared.enrol.NickAnswer.TheVariants.{Erroneous, InUse, Same, Taken}
use Rattle.roster.specs.declared.deed.Deed.{Deed}
use Rattle.roster.specs.Legal.{IsFree}
use Rattle.session_commands.specs.Registration.{is_another, is_held}
use Rattle.session_commands.proofs.enrolling.take_nick.Goals as goal

-- a nickname that another holds isn't taken
unheld : (e : Enrolment) (n : List ℕ) (h : Bool) → nick_answer e n h ≡ Taken → h ≡ false
unfolding nick_answer
unheld e n false t = refl
unheld e n true t = absurd (by (nick_shape n) t)
  where
    by : (b : Bool) → (if not b then Erroneous
        else (if true then InUse else (if is_own e.nick n then Same else Taken))) ≡ Taken → ⊥
    by true f = let g : InUse ≡ Taken = f in cc
    by false f = let g : Erroneous ≡ Taken = f in cc

another_is : (s t : ℕ) → is_another s (Some t) ≡ false → t ≡ s
another_is s t e = elim (eqb_tells t s) [
  | inl same ↦ same.1
  | inr other ↦ absurd (let f : true ≡ false = sym (ap not other.0) ∙ e in cc)
]

free : (fs : List Deed) (s : ℕ) (n : List ℕ) → is_held fs s n ≡ false → IsFree fs s n
free fs s n e t at = another_is s t (sym (ap (is_another s) at) ∙ e)

pub rename-requires-clause-free : goal.rename-requires-clause-free
rename-requires-clause-free c =
    let s = c.args.session in let b = c.before-2.result.now.facts in
    free c.args.tx.now.facts s c.args.nick.now (
    ap (λ (fs : List Deed). is_held fs s c.args.nick.now) (c.requires.first ∙ sym c.before-2.ensures.facts)
    ∙ ap (λ (n : List ℕ). is_held b s n) (sym c.as_slice.ensures)
    ∙ sym c.is_held-is_held.ensures
    ∙ unheld (enrolment c.enrol_of.result) c.as_slice-2.result.now c.is_held-is_held.result
    (sym c.nick.ensures ∙ c.in-Taken.is))
