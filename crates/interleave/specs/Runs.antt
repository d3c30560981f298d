-- Runs of a play, and what is read off events and answers: this project's own promise.
use Rattle.std.specs.Prelude.{◌≡◌, ℕ, ◌==◌, cond, List, [], ◌∷◌, ◌++◌, Result, Ok, Err}
use Rattle.deliveries.specs.declared.delivery.Delivery.{Delivery}
use Rattle.interleave.specs.declared.event.Event.{Event}
use Rattle.interleave.specs.declared.event.Event.TheVariants.{Feed, Take}
use Rattle.interleave.specs.declared.event.Note.{Note}
use Rattle.interleave.specs.declared.event.Note.TheVariants as note
use Rattle.interleave.specs.declared.event.StepRefusal.{StepRefusal}
use Rattle.interleave.specs.State.{State, IsSound}
use Rattle.interleave.specs.Steps.{IsStep}

-- events in turn, from m to k, each with its answer; each state on the way is sound
abbrev pub IsRun : State → List Event → List (Result Note StepRefusal) → State → Type 0
IsRun m [] [] k = k ≡ m
IsRun m (e ∷ es) (r ∷ rs) k = (l : State) × IsStep m e r l × IsSound l × IsRun l es rs k
IsRun m es rs k = ⊥

-- the octets of an event that were read of session t
abbrev pub fed_by : ℕ → Event → List ℕ
fed_by t (Feed s octets) = cond (s == t) octets []
fed_by t e = []

-- none where it was refused
abbrev pub sent_by : ℕ → Event → Result Note StepRefusal → List ℕ
sent_by t e (Err r) = []
sent_by t e (Ok n) = fed_by t e

-- in order
abbrev pub sent_in : ℕ → List Event → List (Result Note StepRefusal) → List ℕ
sent_in t (e ∷ es) (r ∷ rs) = sent_by t e r ++ sent_in t es rs
sent_in t es rs = []

-- the item that an answer hands out
abbrev pub item_of : Note → List Delivery
item_of (note.Item x) = x ∷ []
item_of n = []

-- where the event takes it of session t
abbrev pub handed_by : ℕ → Event → Note → List Delivery
handed_by t (Take s) n = cond (s == t) (item_of n) []
handed_by t e n = []

abbrev pub took_by : ℕ → Event → Result Note StepRefusal → List Delivery
took_by t e (Err r) = []
took_by t e (Ok n) = handed_by t e n

-- in order
abbrev pub taken_in : ℕ → List Event → List (Result Note StepRefusal) → List Delivery
taken_in t (e ∷ es) (r ∷ rs) = took_by t e r ++ taken_in t es rs
taken_in t es rs = []
