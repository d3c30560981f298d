-- What holds where a step has no refusal of its own.
use Rattle.std.proofs.lemmas.Bool.Decides.{leb_tells, eqb_tells}
use Rattle.std.proofs.Common.{◌≡◌, ◌≢◌, inl, inr, ℕ, ◌<◌, ◌≤◌, Bool, true, false, ◌||◌, ◌&&◌, nat_le, cond}
use Rattle.std.proofs.Common.{List, [], ◌∷◌, length, Option, Some, None, refl, sym, ap, ◌∙◌}
use Rattle.std.specs.Option.{is_some}
use Rattle.book.specs.Ledger.{is_here}
use Rattle.interleave.specs.declared.event.StepRefusal.{StepRefusal}
use Rattle.interleave.specs.State.{State, inbox_at, is_known, is_worker, job_of, holds, is_home}
use Rattle.interleave.specs.Refusals.{is_empty, no_session, no_worker, not_free, not_holding, has_job, no_job}
use Rattle.interleave.specs.Refusals.{in_flight, nothing_read, nothing_left, puts_left, holds_lock}

no_some : {X : Type 0} (x : X) → Some x ≡ None → ⊥
no_some x e = cc

passed : (b : Bool) (e : StepRefusal) (later : Option StepRefusal) → cond b later (Some e) ≡ None → (b ≡ true)
    × (later ≡ None)
passed true e later h = (refl, h)
passed false e later h = absurd (no_some e h)

kept_off : (b : Bool) (e : StepRefusal) (later : Option StepRefusal) → cond b (Some e) later ≡ None → (b ≡ false)
    × (later ≡ None)
kept_off true e later h = absurd (no_some e h)
kept_off false e later h = (refl, h)

both : (b c : Bool) → (b && c) ≡ true → (b ≡ true) × (c ≡ true)
both true c e = (refl, e)
both false c e = absurd (let f : false ≡ true = e in cc)

neither : (b c : Bool) → (b || c) ≡ false → (b ≡ false) × (c ≡ false)
neither true c e = absurd (let f : true ≡ false = e in cc)
neither false c e = (refl, e)

at_least : (a b : ℕ) → nat_le a b ≡ true → a ≤ b
at_least a b e =
    elim (leb_tells a b) [
      | inl fits ↦ fits.1
      | inr larger ↦ absurd (let f : false ≡ true = sym larger.0 ∙ e in cc)
    ]

-- of a session that is known
pub record IsIn (m : State) (s : ℕ) : Type 0 where
  pub above : 0 < s
  pub below : s ≤ length m.inboxes
  pub here : is_here m.book.outboxes s ≡ true

pub known : (m : State) (s : ℕ) → is_known m s ≡ true → IsIn m s
known m s e =
    let one = both (nat_le 1 s) (nat_le s (length m.inboxes) && is_here m.book.outboxes s) e in
    let two = both (nat_le s (length m.inboxes)) (is_here m.book.outboxes s) one.1 in
    record { above = at_least 1 s one.0; below = at_least s (length m.inboxes) two.0; here = two.1 }

pub session_in : (m : State) (s : ℕ) (later : Option StepRefusal) → no_session m s later ≡ None → IsIn m s
    × (later ≡ None)
session_in m s later e = let f = passed (is_known m s) _ later e in (known m s f.0, f.1)

pub worker_in : (m : State) (w : ℕ) (later : Option StepRefusal) → no_worker m w later ≡ None → (0 < w)
    × (w ≤ length m.jobs) × (later ≡ None)
worker_in m w later e =
    let f = passed (is_worker m w) _ later e in let g = both (nat_le 1 w) (nat_le w (length m.jobs)) f.0 in
    (at_least 1 w g.0, at_least w (length m.jobs) g.1, f.1)

none_there : {X : Type 0} (o : Option X) → is_some o ≡ false → o ≡ None
none_there None e = refl
none_there (Some x) e = absurd (let f : true ≡ false = e in cc)

some_there : {X : Type 0} (o : Option X) → is_some o ≡ true → (x : X) × (o ≡ Some x)
some_there None e = absurd (let f : false ≡ true = e in cc)
some_there (Some x) e = (x, refl)

pub unlocked : (m : State) (later : Option StepRefusal) → not_free m later ≡ None → (m.holder ≡ None) × (later ≡ None)
unlocked m later e = let f = kept_off (is_some m.holder) _ later e in (none_there m.holder f.0, f.1)

held_by : (o : Option ℕ) (w : ℕ) → holds o w ≡ true → o ≡ Some w
held_by None w e = absurd (let f : false ≡ true = e in cc)
held_by (Some v) w e =
    elim (eqb_tells v w) [
      | inl same ↦ ap (λ (j : ℕ). Some j) same.1
      | inr other ↦ absurd (let f : false ≡ true = sym other.0 ∙ e in cc)
    ]

pub holding : (m : State) (w : ℕ) (later : Option StepRefusal) → not_holding m w later ≡ None → (m.holder ≡ Some w)
    × (later ≡ None)
holding m w later e = let f = passed (holds m.holder w) _ later e in (held_by m.holder w f.0, f.1)

pub idle : (m : State) (w : ℕ) (later : Option StepRefusal) → has_job m w later ≡ None → (job_of m w ≡ None)
    × (holds m.holder w ≡ false) × (later ≡ None)
idle m w later e =
    let f = kept_off (is_some (job_of m w) || holds m.holder w) _ later e in
    let g = neither (is_some (job_of m w)) (holds m.holder w) f.0 in
    (none_there (job_of m w) g.0, g.1, f.1)

pub busy : (m : State) (w : ℕ) (later : Option StepRefusal) → no_job m w later ≡ None → (s : ℕ)
    × (job_of m w ≡ Some s) × (later ≡ None)
busy m w later e = let f = passed (is_some (job_of m w)) _ later e in let g = some_there (job_of m w) f.0 in
    (g.0, g.1, f.1)

pub at_home : (m : State) (s : ℕ) (later : Option StepRefusal) → in_flight m s later ≡ None
    → (is_home (inbox_at m s).place ≡ true) × (later ≡ None)
at_home m s later e = passed (is_home (inbox_at m s).place) _ later e

not_empty : {X : Type 0} (xs : List X) → is_empty xs ≡ false → xs ≢ []
not_empty [] e f = absurd (let g : true ≡ false = e in cc)
not_empty (x ∷ xs) e f = cc

empty : {X : Type 0} (xs : List X) → is_empty xs ≡ true → xs ≡ []
empty [] e = refl
empty (x ∷ xs) e = absurd (let f : false ≡ true = e in cc)

pub something_read : (m : State) (s : ℕ) → nothing_read m s ≡ None → (inbox_at m s).pending ≢ []
something_read m s e = not_empty (inbox_at m s).pending (kept_off (is_empty (inbox_at m s).pending) _ None e).0

pub something_left : (m : State) → nothing_left m ≡ None → m.book.plan ≢ []
something_left m e = not_empty m.book.plan (kept_off (is_empty m.book.plan) _ None e).0

pub all_put : (m : State) → puts_left m ≡ None → m.book.plan ≡ []
all_put m e = empty m.book.plan (passed (is_empty m.book.plan) _ None e).0

pub without_lock : (m : State) (w : ℕ) → holds_lock m w ≡ None → holds m.holder w ≡ false
without_lock m w e = (kept_off (holds m.holder w) _ None e).0
