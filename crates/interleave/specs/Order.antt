-- Prefixes, and the order of deliveries: this project's own promise.
use Rattle.std.specs.Prelude.{◌≡◌, ℕ, ◌<◌, List, [], ◌∷◌, ◌++◌}
use Rattle.deliveries.specs.declared.delivery.Delivery.{Delivery}
use Rattle.deliveries.specs.Owed.{number_of}

abbrev pub IsPrefix : {X : Type 0} → List X → List X → Type 0
IsPrefix {X} xs ys = (rest : List X) × (xs ++ rest ≡ ys)

-- each is of a record after number n
abbrev pub AreAfter : ℕ → List Delivery → Type 0
AreAfter n [] = Unit {0}
AreAfter n (x ∷ xs) = (n < number_of x) × AreAfter n xs

-- the record numbers rise strictly, so that each record stands at most once
abbrev pub IsRising : List Delivery → Type 0
IsRising [] = Unit {0}
IsRising (x ∷ xs) = AreAfter (number_of x) xs × IsRising xs
