-- That a history goes on from its base alone: what it owes and accepts after that, and the base that it has then.
use Rattle.std.specs.Prelude.{◌≡◌, ℕ, List, ◌++◌, length}
use Rattle.chronicle.specs.History.{Rec, sessions, accepted, shut}
use Rattle.chronicle.specs.Idle.{idle_since, was_pinged}
use Rattle.registration.specs.declared.settings.Settings.{Settings}
use Rattle.deeds.specs.Deeds.{facts}
use Rattle.deliveries.specs.Owed.{owed}
use Rattle.deliveries.specs.Base.{base, facts_from, records_from, sessions_from, shut_from}
use Rattle.deliveries.specs.Base.{idle_since_from, was_pinged_from, owed_from, accepted_from}

-- what a history owes is what its first records owe, and what the later ones do from the base of the first
abbrev pub OwedGoesOn : Type 0
OwedGoesOn = (g : Settings) (h later : List Rec) (t : ℕ) → owed g (later ++ h) t
    ≡ owed g h t ++ owed_from g (base g h) later t

abbrev pub AcceptedGoesOn : Type 0
AcceptedGoesOn = (g : Settings) (h later : List Rec) (t : ℕ) → accepted (later ++ h) t
    ≡ accepted h t ++ accepted_from (base g h) later t

-- what is known then, and so each look-up
abbrev pub FactsGoOn : Type 0
FactsGoOn = (g : Settings) (h later : List Rec) → facts g (later ++ h) ≡ facts_from g (base g h) later

abbrev pub NumbersGoOn : Type 0
NumbersGoOn = (g : Settings) (h later : List Rec) → (length (later ++ h) ≡ records_from (base g h) later)
    × (sessions (later ++ h) ≡ sessions_from (base g h) later)

abbrev pub ShutGoesOn : Type 0
ShutGoesOn = (g : Settings) (h later : List Rec) (t : ℕ) → shut (later ++ h) t ≡ shut_from (base g h) later t

abbrev pub IdleGoesOn : Type 0
IdleGoesOn = (g : Settings) (h later : List Rec) (t : ℕ) → idle_since (later ++ h) t
    ≡ idle_since_from (base g h) later t

abbrev pub PingedGoesOn : Type 0
PingedGoesOn = (g : Settings) (h later : List Rec) (t : ℕ) → was_pinged (later ++ h) t
    ≡ was_pinged_from (base g h) later t
