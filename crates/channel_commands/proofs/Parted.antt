-- Sessions of whom nobody takes extended-join.
use Rattle.std.proofs.Common.{◌≡◌, ℕ, false, List, [], ◌∷◌, filter, refl}
use Rattle.std.specs.List.{list_any}
use Rattle.std.proofs.lemmas.Bool.{or_parts}
use Rattle.roster.specs.declared.deed.Deed.{Deed}
use Rattle.channel_commands.specs.Joining.{takes_extended, takes_plain}

pub nobody_extended : (fs : List Deed) (ts : List ℕ) → list_any (takes_extended fs) ts ≡ false
    → filter (takes_extended fs) ts ≡ []
nobody_extended fs [] none = refl
nobody_extended fs (t ∷ ts) none =
    let parts = or_parts (takes_extended fs t) (list_any (takes_extended fs) ts) none in
    rw (parts.0, nobody_extended fs ts parts.1) refl

pub all_plain : (fs : List Deed) (ts : List ℕ) → list_any (takes_extended fs) ts ≡ false
    → filter (takes_plain fs) ts ≡ ts
all_plain fs [] none = refl
all_plain fs (t ∷ ts) none =
    let parts = or_parts (takes_extended fs t) (list_any (takes_extended fs) ts) none in
    rw (parts.0, all_plain fs ts parts.1) refl
