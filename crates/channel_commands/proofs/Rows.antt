-- Facts of joins, and who is on a channel after one.
use Rattle.std.proofs.Common.{◌≡◌, ℕ, Bool, true, false, ◌||◌, ◌==◌, ◌∙◌, cond, List, [], ◌∷◌}
use Rattle.std.proofs.Common.{◌++◌, filter, Option, Some, None, refl, sym, ap, eq-eqb}
use Rattle.numerics.specs.declared.numeric.Numeric.{Numeric}
use Rattle.registration.specs.declared.settings.Settings.{Settings}
use Rattle.channel_state.specs.declared.change.Change.TheVariants.{Joined}
use Rattle.channel_state.specs.State.{State, among, with_change, is_some_one, without}
use Rattle.channel_state.proofs.Once.{without-none}
use Rattle.roster.specs.declared.deed.Deed.{Deed}
use Rattle.roster.specs.LookBack.{account, away, has_member, real}
use Rattle.transactions.specs.Seen.{Seen, seen}
use Rattle.transactions.specs.Effects.{deeds_of}
use Rattle.transactions.specs.Hearers.{shows_to}
use Rattle.transactions.specs.Lines.{extended_join_line, join_line}
use Rattle.transactions.specs.Replies.{tells_all}
use Rattle.transactions.proofs.Quiet.{both-quiet, shown-quiet}
use Rattle.query_commands.specs.Names.{with_members}
use Rattle.query_commands.proofs.Members.{told_uninvited}
use Rattle.channel_commands.specs.Joining.{absence_shown, arrives, arrival_shown, join_shown}
use Rattle.channel_commands.specs.Joining.{takes_extended, takes_plain, topic_told, arrival_told}

-- answers establish nothing
pub no_deeds : (g : Settings) (fs : List Deed) (s : ℕ) (ns : List Numeric) → deeds_of (tells_all g fs s ns) ≡ []
no_deeds g fs s [] = refl
no_deeds g fs s (n ∷ ns) = no_deeds g fs s ns

-- and neither does what members are shown of a join
absence_quiet : (fs : List Deed) (s : ℕ) (from : List ℕ) (k : Seen) (text : Option (List ℕ))
    → deeds_of (absence_shown fs s from k text) ≡ []
absence_quiet fs s from k None = refl
absence_quiet fs s from k (Some text) = shown-quiet _ _

pub introduced_quiet : (fs : List Deed) (s : ℕ) (from : List ℕ) (k : Seen) → deeds_of (arrival_shown fs s from k) ≡ []
unfolding arrival_shown
introduced_quiet fs s from k =
    let plain = shows_to (filter (takes_plain fs) k.state.members) (join_line from k.name) in
    let extended = shows_to (filter (takes_extended fs) k.state.members)
    (extended_join_line from k.name (account fs s) (real fs s)) in
    both-quiet (join_shown fs s from k) (absence_shown fs s from k (away fs s))
    (both-quiet plain extended (shown-quiet _ _) (shown-quiet _ _)) (absence_quiet fs s from k (away fs s))

pub entered_quiet : (g : Settings) (fs0 fs : List Deed) (s : ℕ) (from : List ℕ) (k : Seen)
    → deeds_of (arrives g fs0 fs s from k) ≡ []
unfolding arrives
entered_quiet g fs0 fs s from k =
    let ns = arrival_told g fs0 s k in
    both-quiet (arrival_shown fs0 s from k) (tells_all g fs s ns) (introduced_quiet fs0 s from k) (no_deeds g fs s ns)

some_last : (t : ℕ) (ts : List ℕ) → is_some_one (ts ++ t ∷ []) ≡ true
some_last t [] = refl
some_last t (u ∷ us) = refl

-- who made a channel is on it
pub on_it : (t : ℕ) → among t (t ∷ []) ≡ true
on_it t = ap (λ b. b || false) (eq-eqb t t refl)

either_true : (a b : Bool) → b ≡ true → (a || b) ≡ true
either_true true b e = refl
either_true false b e = e

-- somebody is on a channel that a session joined
pub some_joined : (t : ℕ) (ts : List ℕ) → is_some_one (without t ts ++ t ∷ []) ≡ true
some_joined t ts = some_last t (without t ts)

-- who came last is among them
pub last_on_it : (t : ℕ) (ts : List ℕ) → among t (ts ++ t ∷ []) ≡ true
last_on_it t [] = on_it t
last_on_it t (u ∷ us) = either_true (u == t) (among t (us ++ t ∷ [])) (last_on_it t us)

-- a channel that a session joined is the one before with one member more: of the rest its own invitation alone goes,
-- of which nobody is told
pub entered_joined : (g : Settings) (fs0 fs : List Deed) (s : ℕ) (from name : List ℕ) (k : State)
    → among s k.members ≡ false → arrives g fs0 fs s from (with_members name k (k.members ++ s ∷ []))
    ≡ arrives g fs0 fs s from (record { name = name; state = with_change (Joined s) k })
unfolding arrives arrival_shown
entered_joined g fs0 fs s from name k e =
    let members = without s k.members ++ s ∷ [] in let j = with_members name k members in
    ap (λ ts. arrives g fs0 fs s from (with_members name k (ts ++ s ∷ []))) (sym (without-none s k.members e))
    ∙ ap (λ ns. arrival_shown fs0 s from j ++ tells_all g fs s (topic_told j k.topic ++ ns))
    (told_uninvited g fs0 s name k members)

none_is_false : {A : Type 0} (b : Bool) (x : A) → cond b (Some x) None ≡ None → b ≡ false
none_is_false true x e = absurd (let f : Some x ≡ None = e in cc)
none_is_false false x e = refl

-- a channel that isn't seen isn't there
pub not_there : (fs : List Deed) (c : List ℕ) → seen fs c ≡ None → has_member fs c ≡ false
not_there fs c e = none_is_false (has_member fs c) _ e
