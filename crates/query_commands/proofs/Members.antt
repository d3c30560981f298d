-- What a member is told of a channel that is kept with other members.
use Rattle.std.proofs.Common.{◌≡◌, ℕ, Bool, true, List, [], ◌∷◌, ◌++◌, map, Option, Some}
use Rattle.std.proofs.Common.{None, refl, ap, sym, ◌∙◌, if◌then◌else◌}
use Rattle.channel_state.specs.State.{State, among, invite_used}
use Rattle.numerics.specs.declared.prefix.Prefix.{Prefix}
use Rattle.numerics.specs.declared.prefix.Prefix.TheVariants.{Operator, Voice}
use Rattle.numerics.specs.Numerics.{marks}
use Rattle.registration.specs.declared.settings.Settings.{Settings}
use Rattle.roster.specs.declared.deed.Deed.{Deed}
use Rattle.roster.specs.LookBack.{nick}
use Rattle.transactions.specs.Lines.{title}
use Rattle.query_commands.specs.Names.{all_told, member_name, names_told, with_members}
use Rattle.query_commands.specs.Visible.{members_for}

rank_by : List ℕ → List ℕ → ℕ → Option Prefix
rank_by operators voices t = if among t operators then Some Operator else if among t voices then Some Voice else None

-- a member's name shows its rank, and nothing else of the channel
same_name : (fs : List Deed) (j k : State) → j.operators ≡ k.operators → j.voices ≡ k.voices → (t : ℕ)
    → member_name fs j t ≡ member_name fs k t
unfolding member_name rank_by
same_name fs j k operators voices t =
    ap (λ ts. marks (rank_by ts j.voices t) ++ title (nick fs t)) operators ∙ ap
    (λ ts. marks (rank_by k.operators ts t) ++ title (nick fs t)) voices

same_names : (fs : List Deed) (j k : State) → j.operators ≡ k.operators → j.voices ≡ k.voices → (ts : List ℕ)
    → map (member_name fs j) ts ≡ map (member_name fs k) ts
same_names fs j k operators voices [] = refl
same_names fs j k operators voices (t ∷ ts) =
    ap (λ n. n ∷ map (member_name fs j) ts) (same_name fs j k operators voices t) ∙ ap
    (λ ns. member_name fs k t ∷ ns) (same_names fs j k operators voices ts)

all_of : (b : Bool) (xs ys : List ℕ) → b ≡ true → (if b then xs else ys) ≡ xs
all_of b xs ys e = ap (λ (c : Bool). if c then xs else ys) e

all_members : (fs : List Deed) (s : ℕ) (k : State) → among s k.members ≡ true → members_for fs s k ≡ k.members
unfolding members_for
all_members fs s k e = all_of (among s k.members) k.members _ e

-- a member is told of all members
pub told_to_member : (g : Settings) (fs : List Deed) (s : ℕ) (name : List ℕ) (k : State) (members : List ℕ)
    → among s members ≡ true → all_told g fs s (record { name = name; state = k }) (map (member_name fs k) members)
    ≡ names_told g fs s (with_members name k members)
told_to_member g fs s name k members e =
    let j = record k { members = members } in
    ap (λ ns. all_told g fs s (record { name = name; state = j }) ns)
    (same_names fs k j refl refl members ∙ ap (map (member_name fs j)) (sym (all_members fs s j e)))

-- whether somebody is invited changes nothing of that
pub told_uninvited : (g : Settings) (fs : List Deed) (s : ℕ) (name : List ℕ) (k : State) (members : List ℕ)
    → names_told g fs s (with_members name k members)
    ≡ names_told g fs s (record { name = name; state = invite_used s (record k { members = members }) })
unfolding members_for
told_uninvited g fs s name k members =
    let j = record k { members = members } in
    ap (λ ns. all_told g fs s (record { name = name; state = j }) ns)
    (same_names fs j (invite_used s j) refl refl (members_for fs s j))
