-- How a history grows: this project's own journal, whose newest record alone may still gain sessions that miss it.
use Rattle.std.specs.Prelude.{◌≡◌, ℕ, List, [], ◌∷◌, ◌++◌}
use Rattle.chronicle.specs.History.{Rec}

-- a record that these sessions missed besides
abbrev pub also_missed : Rec → List ℕ → Rec
also_missed r ts = record { number = r.number; moment = r.moment; kind = r.kind; missed = r.missed ++ ts }

-- a history has every record of an earlier one at its place; the newest of those may have been missed by more sessions
abbrev pub Grows : List Rec → List Rec → Type 0
Grows [] k = Unit {0}
Grows (r ∷ h) k = (more : List Rec) × (gained : List ℕ) × (k ≡ more ++ also_missed r gained ∷ h)
