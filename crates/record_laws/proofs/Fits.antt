-- What every effect keeps: its line is no BATCH, its hearers stand once each, and it opens no session.
use Rattle.std.proofs.Common.{◌≡◌, ℕ, ◌+◌, ◌==◌, Bool, true, false, cond, List, [], ◌∷◌, ◌++◌}
use Rattle.std.proofs.Common.{codes, length, Option, Some, None, refl}
use Rattle.std.specs.Bool.{if◌then◌else◌}
use Rattle.std.specs.List.{flat_map}
use Rattle.std.specs.Str.{bytes_eq}
use Rattle.numerics.specs.declared.numeric.Numeric.{Numeric}
use Rattle.numerics.specs.declared.numeric.Numeric.TheVariants.{Welcome}
use Rattle.numerics.specs.declared.outgoing.Out.{Out}
use Rattle.numerics.specs.Numerics.{numeric, row_line}
use Rattle.registration.specs.declared.settings.Settings.{Settings}
use Rattle.roster.specs.declared.deed.Deed.{Deed}
use Rattle.roster.specs.declared.deed.Deed.TheVariants.{Opened}
use Rattle.roster.specs.LookBack.{after, has_member, name, nick, state}
use Rattle.transactions.specs.declared.effect.Effect.{Effect}
use Rattle.transactions.specs.declared.effect.Effect.TheVariants.{Establish, Answer, Show, Copy}
use Rattle.transactions.specs.Effects.{deeds_of}
use Rattle.transactions.specs.Hearers.{shows_to}
use Rattle.transactions.specs.Lines.{title}
use Rattle.transactions.specs.Replies.{tells, tells_all}
use Rattle.transactions.specs.Seen.{Seen, seen}
use Rattle.channel_commands.specs.Each.{each, each_counted}
use Rattle.channel_commands.specs.Found.{channel_of}
use Rattle.record_laws.specs.Laws.{IsEachOnce}
use Rattle.roster.proofs.OnceLaws.{members_once}

abbrev pub is_batch : Out → Bool
is_batch l = bytes_eq l.command (codes "BATCH")

abbrev pub opens_session : Deed → Bool
opens_session (Opened t h) = true
opens_session d = false

abbrev pub Fits : Effect → Type 0
Fits (Establish d) = opens_session d ≡ false
Fits (Answer l) = is_batch l ≡ false
Fits (Show hearers l) = IsEachOnce hearers × (is_batch l ≡ false)
Fits (Copy l) = is_batch l ≡ false

abbrev pub AllFit : List Effect → Type 0
AllFit [] = Unit {0}
AllFit (e ∷ es) = Fits e × AllFit es

pub record Fit (es : List Effect) : Type 0 where
  pub all : AllFit es

pub none : Fit []
none = record { all = tt }

pub more : (e : Effect) (es : List Effect) → Fits e → Fit es → Fit (e ∷ es)
more e es f g = record { all = (f, g.all) }

pub only : (e : Effect) → Fits e → Fit (e ∷ [])
only e f = more e [] f none

pub joined : (xs ys : List Effect) → Fit xs → Fit ys → Fit (xs ++ ys)
joined [] ys f g = g
joined (x ∷ xs) ys f g = more x (xs ++ ys) f.all.0 (joined xs ys (record { all = f.all.1 }) g)

pub either : (b : Bool) (xs ys : List Effect) → Fit xs → Fit ys → Fit (if b then xs else ys)
either true xs ys f g = f
either false xs ys f g = g

pub some_shown : (hearers : List ℕ) (l : Out) → IsEachOnce hearers → is_batch l ≡ false → Fit (shows_to hearers l)
unfolding shows_to
some_shown hearers l once p = either (length hearers == 0) [] (Show hearers l ∷ []) none
    (only (Show hearers l) (once, p))

pub of_all : {A : Type 0} (f : A → List Effect) → ((x : A) → Fit (f x)) → (xs : List A) → Fit (flat_map f xs)
of_all f fits [] = none
of_all f fits (x ∷ xs) = joined (f x) (flat_map f xs) (fits x) (of_all f fits xs)

pub in_turn : {A : Type 0} (row : List Deed → A → List Effect) → ((fs : List Deed) (x : A) → Fit (row fs x))
    → (fs : List Deed) (xs : List A) → Fit (each row fs xs)
in_turn row fits fs [] = none
in_turn row fits fs (x ∷ xs) = let later = after fs (deeds_of (row fs x)) in
    joined (row fs x) (each row later xs) (fits fs x) (in_turn row fits later xs)

pub in_turn_counted : {A : Type 0} (row : List Deed → ℕ → A → List Effect)
    → ((fs : List Deed) (n : ℕ) (x : A) → Fit (row fs n x)) → (fs : List Deed) (n : ℕ) (xs : List A)
    → Fit (each_counted row fs n xs)
in_turn_counted row fits fs n [] = none
in_turn_counted row fits fs n (x ∷ xs) =
    let ds = deeds_of (row fs n x) in
    joined (row fs n x) (each_counted row (after fs ds) (n + length ds) xs) (fits fs n x)
    (in_turn_counted row fits (after fs ds) (n + length ds) xs)

-- ---- numerics

plain : (server to : List ℕ) (n : Numeric) → is_batch (numeric server to n) ≡ false
unfolding numeric row_line
plain server to (Welcome source) = refl
plain server to _ = refl

pub told : (g : Settings) (fs : List Deed) (s : ℕ) (n : Numeric) → Fits (tells g fs s n)
told g fs s n = plain g.server (title (nick fs s)) n

pub told_only : (g : Settings) (fs : List Deed) (s : ℕ) (n : Numeric) → Fit (tells g fs s n ∷ [])
told_only g fs s n = only (tells g fs s n) (told g fs s n)

pub told_all : (g : Settings) (fs : List Deed) (s : ℕ) (ns : List Numeric) → Fit (tells_all g fs s ns)
told_all g fs s [] = none
told_all g fs s (n ∷ ns) = more (tells g fs s n) (tells_all g fs s ns) (told g fs s n) (told_all g fs s ns)

-- ---- a channel as a row sees it

abbrev pub SeenOnce : Option Seen → Type 0
SeenOnce None = Unit {0}
SeenOnce (Some k) = IsEachOnce k.state.members

pub seen_once : (fs : List Deed) (c : List ℕ) → SeenOnce (seen fs c)
seen_once fs c =
    let k : Seen = record { name = name fs c; state = state fs c } in
    elim (has_member fs c) as (λ b. SeenOnce (cond b (Some k) None)) [ true ↦ members_once fs c | false ↦ tt ]

pub found_once : (fs : List Deed) (c : List ℕ) → SeenOnce (channel_of fs c)
unfolding channel_of
found_once fs c = seen_once fs c
