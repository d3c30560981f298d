-- What every effect keeps: its line is clean, or its fact.
use Rattle.std.proofs.Common.{◌≡◌, ℕ, ◌≤◌, ◌==◌, Bool, true, false, List, [], ◌∷◌, ◌++◌}
use Rattle.std.proofs.Common.{length, arith, flat_map}
use Rattle.std.specs.Bool.{if◌then◌else◌}
use Rattle.std.specs.List.{AllByRecursion}
use Rattle.std.proofs.lemmas.List.Elements.{All-from_recursion, recursion_from_All}
use Rattle.line_grammar.specs.Reading.{is_command}
use Rattle.numerics.specs.declared.numeric.Numeric.{Numeric}
use Rattle.numerics.specs.declared.outgoing.Out.{Out}
use Rattle.numerics.specs.Numerics.{row}
use Rattle.numerics.specs.Outgoing.{line}
use Rattle.registration.specs.declared.settings.Settings.{Settings}
use Rattle.roster.specs.declared.deed.Deed.{Deed}
use Rattle.roster.specs.LookBack.{after, nick}
use Rattle.transactions.specs.declared.effect.Effect.{Effect}
use Rattle.transactions.specs.declared.effect.Effect.TheVariants.{Establish, Answer, Show, Copy}
use Rattle.transactions.specs.Effects.{deeds_of}
use Rattle.transactions.specs.Hearers.{shows_to}
use Rattle.transactions.specs.Lines.{prefix, title}
use Rattle.transactions.specs.Replies.{tells, tells_all}
use Rattle.answer_octets.specs.Clean.{IsClean, IsTextRow}
use Rattle.answer_octets.proofs.Names.{settings-server}
use Rattle.answer_octets.proofs.Numerics.{line-clean, numeric-clean}
use Rattle.clean_records.specs.Clean.{AreClean, AreCleanEffects, IsCleanDeed, IsCleanEffect, IsServing}
use Rattle.clean_records.proofs.Lookups.{Facts, nick-shown, prefix-is}
use Rattle.clean_records.proofs.Texts.{AreTexts}

pub record Clean (es : List Effect) : Type 0 where
  pub all : AllByRecursion IsCleanEffect es

pub none : Clean []
none = record { all = tt }

pub more : (e : Effect) (es : List Effect) → IsCleanEffect e → Clean es → Clean (e ∷ es)
more e es is are = record { all = (is, are.all) }

pub only : (e : Effect) → IsCleanEffect e → Clean (e ∷ [])
only e is = more e [] is none

pub joined : (xs ys : List Effect) → Clean xs → Clean ys → Clean (xs ++ ys)
joined [] ys f g = g
joined (x ∷ xs) ys f g = more x (xs ++ ys) f.all.0 (joined xs ys (record { all = f.all.1 }) g)

pub either : (b : Bool) (xs ys : List Effect) → Clean xs → Clean ys → Clean (if b then xs else ys)
either true xs ys f g = f
either false xs ys f g = g

pub some_shown : (hearers : List ℕ) (l : Out) → IsClean l → Clean (shows_to hearers l)
unfolding shows_to
some_shown hearers l is = either (length hearers == 0) [] (Show hearers l ∷ []) none (only (Show hearers l) is)

pub of_all : {A : Type 0} (P : A → Type 0) (f : A → List Effect) → ((x : A) → P x → Clean (f x)) → (xs : List A)
    → AllByRecursion P xs → Clean (flat_map f xs)
of_all P f clean [] are = none
of_all P f clean (x ∷ xs) are = joined (f x) (flat_map f xs) (clean x are.0) (of_all P f clean xs are.1)

-- ---- between lists as laws have them and as proofs do

pub facts-of : (fs : List Deed) → AreClean fs → Facts fs
facts-of fs are = record { all = recursion_from_All IsCleanDeed fs are }

pub clean-facts : (fs : List Deed) → Facts fs → AreClean fs
clean-facts fs facts = All-from_recursion IsCleanDeed fs facts.all

pub clean-effects : (es : List Effect) → Clean es → AreCleanEffects es
clean-effects es are = All-from_recursion IsCleanEffect es are.all

-- ---- the facts after effects

later-all : (es : List Effect) (fs : List Deed) → AllByRecursion IsCleanEffect es → Facts fs
    → Facts (after fs (deeds_of es))
later-all [] fs are facts = facts
later-all (Establish d ∷ es) fs are facts = later-all es (d ∷ fs) are.1 (record { all = (are.0, facts.all) })
later-all (Answer l ∷ es) fs are facts = later-all es fs are.1 facts
later-all (Show hearers l ∷ es) fs are facts = later-all es fs are.1 facts
later-all (Copy l ∷ es) fs are facts = later-all es fs are.1 facts

pub later : (es : List Effect) (fs : List Deed) → Clean es → Facts fs → Facts (after fs (deeds_of es))
later es fs are facts = later-all es fs are.all facts

-- ---- lines

-- a line of a session's own
pub from-session : (fs : List Deed) (s : ℕ) (command : List ℕ) (params : List (List ℕ)) (colon : Bool) → Facts fs
    → is_command command ≡ true → length command ≤ 100 → AreTexts params
    → IsClean (line (prefix fs s) command params colon)
from-session fs s command params colon facts is short texts =
    let from = prefix-is fs s facts in
    line-clean (prefix fs s) command params colon from.word is texts
    (let few = from.short in omega (arith, few, short))

-- a line of the server's
pub from-server : (g : Settings) (command : List ℕ) (params : List (List ℕ)) (colon : Bool) → IsServing g
    → is_command command ≡ true → length command ≤ 100 → AreTexts params → IsClean (line g.server command params colon)
from-server g command params colon serves is short texts =
    let server = settings-server g serves.set in
    line-clean g.server command params colon server.word is texts
    (let few = server.short in omega (arith, few, short))

pub told : (g : Settings) (fs : List Deed) (s : ℕ) (n : Numeric) → IsServing g → Facts fs → IsTextRow (row g.server n)
    → IsCleanEffect (tells g fs s n)
told g fs s n serves facts is =
    numeric-clean g.server (title (nick fs s)) n (settings-server g serves.set) (nick-shown fs s facts) is

pub told_only : (g : Settings) (fs : List Deed) (s : ℕ) (n : Numeric) → IsServing g → Facts fs
    → IsTextRow (row g.server n) → Clean (tells g fs s n ∷ [])
told_only g fs s n serves facts is = only (tells g fs s n) (told g fs s n serves facts is)

-- what a numeric says
abbrev pub IsTextNumeric : Settings → Numeric → Type 0
IsTextNumeric g n = IsTextRow (row g.server n)

pub told_all : (g : Settings) (fs : List Deed) (s : ℕ) (ns : List Numeric) → IsServing g → Facts fs
    → AllByRecursion (IsTextNumeric g) ns → Clean (tells_all g fs s ns)
told_all g fs s [] serves facts are = none
told_all g fs s (n ∷ ns) serves facts are =
    more (tells g fs s n) (tells_all g fs s ns) (told g fs s n serves facts are.0)
    (told_all g fs s ns serves facts are.1)
