-- Whom a text reaches.
use Rattle.std.proofs.Common.{◌≡◌, ℕ, List, [], ◌∷◌, filter, refl, ap, ◌∙◌}
use Rattle.roster.specs.declared.deed.Deed.{Deed}
use Rattle.talk_commands.specs.declared.verb.Verb.{Verb}
use Rattle.talk_commands.specs.declared.verb.Verb.TheVariants.{Privmsg, Notice}
use Rattle.talk_commands.specs.Lines.{Sent}
use Rattle.talk_commands.specs.Talking.{is_reached, reaches}

by_privmsg : (fs : List Deed) (tags ts : List ℕ) → filter (is_reached fs Privmsg tags) ts ≡ ts
by_privmsg fs tags [] = refl
by_privmsg fs tags (t ∷ ts) = ap (λ us. t ∷ us) (by_privmsg fs tags ts)

by_notice : (fs : List Deed) (tags ts : List ℕ) → filter (is_reached fs Notice tags) ts ≡ ts
by_notice fs tags [] = refl
by_notice fs tags (t ∷ ts) = ap (λ us. t ∷ us) (by_notice fs tags ts)

-- a text reaches all
pub privmsg_reaches_all : (fs : List Deed) (b : Sent) (ts : List ℕ) → b.verb ≡ Privmsg → filter (reaches fs b) ts ≡ ts
privmsg_reaches_all fs b ts e = ap (λ (v : Verb). filter (is_reached fs v b.tags) ts) e ∙ by_privmsg fs b.tags ts

pub notice_reaches_all : (fs : List Deed) (b : Sent) (ts : List ℕ) → b.verb ≡ Notice → filter (reaches fs b) ts ≡ ts
notice_reaches_all fs b ts e = ap (λ (v : Verb). filter (is_reached fs v b.tags) ts) e ∙ by_notice fs b.tags ts
