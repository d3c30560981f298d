-- What a ledger keeps of when its sessions were last heard of, and how that stands for the history.
use Rattle.std.specs.Prelude.{◌≡◌, ℕ, ℤ, ◌≤ℤ◌, ◌+ℤ◌, int_le, Bool, true, not, ◌&&◌, nat_eq, min}
use Rattle.std.specs.Prelude.{cond, List, [], ◌∷◌, ◌++◌, Option, Some, None, IfSome}
use Rattle.std.specs.Option.{is_some}
use Rattle.std.specs.List.{fold}
use Rattle.std.specs.Map.{lookup}
use Rattle.chronicle.specs.History.{Rec, last_moment}
use Rattle.chronicle.specs.Idle.{PING_AFTER, LATE_AFTER, idle_since, was_pinged}
use Rattle.ledger.specs.declared.last_heard.Since.{Since}
use Rattle.ledger.specs.declared.seat.Seat.{Seat}
use Rattle.ledger.specs.Seats.{hears, IsThere}

-- since when session t is idle
abbrev pub since_at : List (ℕ × Since) → ℕ → Option Since
since_at xs t = lookup (nat_eq t) xs

-- moments, the latest first, of which none is later than this
abbrev pub Falls : ℤ → List (ℕ × Since) → Type 0
Falls latest [] = Unit {0}
Falls latest (x ∷ xs) = (x.1.moment ≤ℤ latest) × Falls x.1.moment xs

-- whether it is at least so long before a moment
abbrev pub is_before : Since → ℤ → ℤ → Bool
is_before x span moment = int_le (x.moment +ℤ span) moment

-- whether a tick at a moment pings a session of these seats
abbrev pub is_due : List Seat → ℤ → ℕ × Since → Bool
is_due seats moment e = is_before e.1 PING_AFTER moment && (hears seats e.0 && not e.1.pinged)

-- whether a session of these seats is late at a moment
abbrev pub is_overdue : List Seat → ℤ → ℕ × Since → Bool
is_overdue seats moment e = is_before e.1 LATE_AFTER moment && hears seats e.0

-- the sessions that pass, whoever was heard of longest ago first
abbrev pub who_pass : (ℕ × Since → Bool) → List (ℕ × Since) → List ℕ
who_pass f [] = []
who_pass f (e ∷ es) = who_pass f es ++ cond (f e) (e.0 ∷ []) []

-- the lower of two numbers, where there is one before
abbrev pub lower : Option ℕ → ℕ → Option ℕ
lower None n = Some n
lower (Some m) n = Some (min m n)

-- the lowest of numbers
abbrev pub lower_of : ℕ → Option ℕ → ℕ
lower_of n None = n
lower_of n (Some m) = min n m

abbrev pub lowest : List ℕ → Option ℕ
lowest [] = None
lowest (n ∷ ns) = Some (lower_of n (lowest ns))

-- session t was pinged since
abbrev pub with_ping : ℕ → List (ℕ × Since) → List (ℕ × Since)
with_ping t [] = []
with_ping t (e ∷ es) = cond (nat_eq t e.0) ((e.0, record { moment = e.1.moment; pinged = true }) ∷ es)
    (e ∷ with_ping t es)

-- these sessions were pinged since
abbrev pub with_pings : List (ℕ × Since) → List ℕ → List (ℕ × Since)
with_pings xs ts = fold (λ ys t. with_ping t ys) xs ts

-- what is kept of session t is what the history says
pub record IsSince (x : Since) (h : List Rec) (t : ℕ) : Type 0 where
  pub moment : idle_since h t ≡ Some x.moment
  pub pinged : was_pinged h t ≡ x.pinged

-- it is kept of each session that is there, and of no other, whoever was heard of last first
pub record AreSince {O : Type 0} (xs : List (ℕ × Since)) (h : List Rec) (boxes : List (Option O)) : Type 0 where
  pub each : (t : ℕ) → IfSome (since_at xs t) (λ x. IsThere boxes t × IsSince x h t)
  pub all : (t : ℕ) → IsThere boxes t → is_some (since_at xs t) ≡ true
  pub order : Falls (last_moment h) xs
