-- What a record owes is of that record.
use Rattle.std.proofs.Common.{◌≡◌, ℕ, ℤ, ◌+◌, Bool, true, false, cond, List, [], ◌∷◌, length, ap, sym}
use Rattle.chronicle.specs.declared.record.Kind.{Kind}
use Rattle.chronicle.specs.declared.why.Why.{Why}
use Rattle.chronicle.specs.History.{Rec, ends}
use Rattle.registration.specs.declared.settings.Settings.{Settings}
use Rattle.deliveries.specs.declared.delivery.Delivery.{Delivery}
use Rattle.deliveries.specs.declared.delivery.Delivery.TheVariants.{Last}
use Rattle.deliveries.specs.Owed.{number_of, item, reason, told_text, delivery}

abbrev first_number : List Delivery → ℕ
first_number [] = 0
first_number (x ∷ xs) = number_of x

of_number : (is_end : Bool) (n : ℕ) (w : Why) (text : List ℕ) (d : Delivery)
    → cond is_end (Last n w ∷ []) (item n text) ≡ d ∷ [] → number_of d ≡ n
of_number true n w text d e = sym (ap first_number e)
of_number false n w [] d e = absurd (let f : [] ≡ d ∷ [] = e in cc)
of_number false n w (b ∷ bs) d e = sym (ap first_number e)

-- the delivery of a record that comes after h
pub of_newest : (g : Settings) (h : List Rec) (k : Kind) (moment : ℤ) (t : ℕ) (d : Delivery)
    → delivery g h k moment t ≡ d ∷ [] → number_of d ≡ length h + 1
of_newest g h k moment t d e = of_number (ends k t) (length h + 1) (reason k) (told_text g h k moment t) d e
