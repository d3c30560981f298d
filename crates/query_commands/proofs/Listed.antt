-- A channel at a place, as LIST tells it.
use Rattle.std.proofs.Common.{◌≡◌, ℕ, Bool, true, false, cond, List, slice_get, Option, Some, None, sym, ap, ◌∙◌}
use Rattle.channel_state.specs.State.{State}
use Rattle.roster.specs.declared.deed.Deed.{Deed}
use Rattle.roster.specs.LookBack.{channels, has_member, name, name_of, state}
use Rattle.transactions.specs.Seen.{Seen, seen}
use Rattle.query_commands.specs.Listing.{list_told, listed_seen}
use Rattle.query_commands.specs.Visible.{channel_for, of_one, seen_by}

abbrev seen_as : List ℕ → State → Seen
seen_as n st = record { name = n; state = st }

there : (b : Bool) (m n : List ℕ) (st : State) → cond b (Some m) None ≡ Some n
    → cond b (Some (seen_as m st)) None ≡ Some (seen_as n st)
there true m n st e = let is : m ≡ n = cc in ap (λ (x : List ℕ). Some (seen_as x st)) is
there false m n st e = absurd (let e' : ◌≡◌ {A = Option (List ℕ)} None (Some n) = e in cc)

-- what a session is told of the channel that stands at a place, which has its own name
pub listed_at : (fs : List Deed) (s place : ℕ) (n : List ℕ) (st : State) → slice_get (channels fs) place ≡ Some n
    → name_of fs n ≡ Some n → st ≡ state fs n
    → listed_seen (seen_by s (Some (seen_as n st))) ≡ of_one (list_told fs s) (slice_get (channels fs) place)
unfolding channel_for
listed_at fs s place n st at named is =
    let found : seen fs n ≡ Some (seen_as n (state fs n)) = there (has_member fs n) (name fs n) n (state fs n) named in
    ap (λ (x : State). listed_seen (seen_by s (Some (seen_as n x)))) is
    ∙ sym (ap (λ o. listed_seen (seen_by s o)) found) ∙ ap (of_one (list_told fs s)) (sym at)
