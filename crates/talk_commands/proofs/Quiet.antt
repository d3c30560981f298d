-- A text establishes no fact.
use Rattle.std.proofs.Common.{◌≡◌, ℕ, ◌&&◌, ◌==◌, List, [], ◌∷◌}
use Rattle.std.proofs.Common.{filter, Option, Some, None, refl, cond}
use Rattle.std.specs.List.{flat_map}
use Rattle.numerics.specs.declared.numeric.Numeric.{Numeric}
use Rattle.numerics.specs.declared.outgoing.Out.{Out}
use Rattle.registration.specs.declared.caps.Cap.TheVariants.{EchoMessage}
use Rattle.registration.specs.declared.settings.Settings.{Settings}
use Rattle.registration.specs.Caps.{is_on}
use Rattle.roster.specs.declared.deed.Deed.{Deed}
use Rattle.roster.specs.LookBack.{away, caps, user_named, state, name_of, nick}
use Rattle.transactions.specs.declared.effect.Effect.{Effect}
use Rattle.transactions.specs.declared.effect.Effect.TheVariants.{Answer, Show}
use Rattle.transactions.specs.Effects.{deeds_of}
use Rattle.transactions.specs.Lines.{prefix, title}
use Rattle.transactions.proofs.Quiet.{both-quiet, either-quiet}
use Rattle.talk_commands.specs.declared.verb.Verb.{Verb}
use Rattle.talk_commands.specs.declared.verb.Verb.TheVariants.{Privmsg, Notice, Tagmsg}
use Rattle.talk_commands.specs.Lines.{Sent, sent_line}
use Rattle.talk_commands.specs.Talking.{answers, echoes, keeps, may_speak, names_channel, delivers}
use Rattle.talk_commands.specs.Talking.{reaches, tells_away, to_channel, to_user, to_one}

answers-quiet : (g : Settings) (fs : List Deed) (s : ℕ) (v : Verb) (n : Numeric) → deeds_of (answers g fs s v n) ≡ []
answers-quiet g fs s Privmsg n = refl
answers-quiet g fs s Notice n = refl
answers-quiet g fs s Tagmsg n = refl

echo-quiet : (fs : List Deed) (s : ℕ) (b : Sent) (l : Out) → deeds_of (echoes fs s b l) ≡ []
echo-quiet fs s b l = either-quiet (is_on (caps fs s) EchoMessage && reaches fs b s) (Answer l ∷ []) [] refl refl

kept-quiet : (fs : List Deed) (s : ℕ) (b : Sent) (l : Out) → deeds_of (keeps fs s b l) ≡ []
kept-quiet fs s b l = either-quiet (reaches fs b s) _ _ refl refl

channel-quiet : (g : Settings) (fs : List Deed) (s : ℕ) (b : Sent) (c : List ℕ) (o : Option (List ℕ))
    → deeds_of (to_channel g fs s b c o) ≡ []
channel-quiet g fs s b c None = answers-quiet g fs s b.verb _
channel-quiet g fs s b c (Some n) = either-quiet (may_speak (state fs c) s (prefix fs s)) _ _
    (echo-quiet fs s b (sent_line b (prefix fs s) n)) (answers-quiet g fs s b.verb _)

away-quiet : (g : Settings) (fs : List Deed) (s : ℕ) (v : Verb) (t : ℕ) (o : Option (List ℕ))
    → deeds_of (tells_away g fs s v t o) ≡ []
away-quiet g fs s Privmsg t None = refl
away-quiet g fs s Privmsg t (Some x) = refl
away-quiet g fs s Notice t o = refl
away-quiet g fs s Tagmsg t o = refl

delivers-quiet : (fs : List Deed) (s : ℕ) (b : Sent) (t : ℕ) (l : Out) → deeds_of (delivers fs s b t l) ≡ []
delivers-quiet fs s b t l =
    let other : List Effect = Show (filter (reaches fs b) (t ∷ [])) l ∷ [] in
    both-quiet (cond (t == s) (keeps fs s b l) other) (echoes fs s b l)
    (either-quiet (t == s) (keeps fs s b l) other (kept-quiet fs s b l) refl) (echo-quiet fs s b l)

user-quiet : (g : Settings) (fs : List Deed) (s : ℕ) (b : Sent) (n : List ℕ) (o : Option ℕ)
    → deeds_of (to_user g fs s b n o) ≡ []
user-quiet g fs s b n None = answers-quiet g fs s b.verb _
user-quiet g fs s b n (Some t) =
    let l = sent_line b (prefix fs s) (title (nick fs t)) in
    both-quiet (delivers fs s b t l) (tells_away g fs s b.verb t (away fs t)) (delivers-quiet fs s b t l)
    (away-quiet g fs s b.verb t (away fs t))

pub one-quiet : (g : Settings) (fs : List Deed) (s : ℕ) (b : Sent) (c : List ℕ) → deeds_of (to_one g fs s b c) ≡ []
one-quiet g fs s b c = either-quiet (names_channel c) _ _ (channel-quiet g fs s b c (name_of fs c))
    (user-quiet g fs s b c (user_named fs c))

pub all-quiet : (g : Settings) (fs : List Deed) (s : ℕ) (b : Sent) (cs : List (List ℕ))
    → deeds_of (flat_map (to_one g fs s b) cs) ≡ []
all-quiet g fs s b [] = refl
all-quiet g fs s b (c ∷ cs) = both-quiet (to_one g fs s b c) (flat_map (to_one g fs s b) cs) (one-quiet g fs s b c)
    (all-quiet g fs s b cs)
