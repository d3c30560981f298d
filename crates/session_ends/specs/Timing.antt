-- At which moment a record is: this project's own.
use Rattle.std.specs.Prelude.{◌≡◌, ℤ, ◌≤ℤ◌, ◌⊎◌, List, [], ◌∷◌}
use Rattle.chronicle.specs.History.{Rec, last_moment}

-- the later of two moments
pub record IsLater (a b moment : ℤ) : Type 0 where
  pub first : a ≤ℤ moment
  pub second : b ≤ℤ moment
  pub either : (moment ≡ a) ⊎ (moment ≡ b)

-- the records before the newest
abbrev pub older : List Rec → List Rec
older [] = []
older (r ∷ h) = h

-- the newest record of a history is at this moment, or at that of the record before it where that is later
abbrev pub IsAt : ℤ → List Rec → Type 0
IsAt moment h = IsLater moment (last_moment (older h)) (last_moment h)

-- a history has one record more, which is at this moment
pub record IsNext (time : ℤ) (old new : List Rec) : Type 0 where
  pub moment : last_moment new ≡ time
  pub older : older new ≡ old
