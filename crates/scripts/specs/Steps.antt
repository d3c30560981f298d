-- What a step of a script asks of the play, and what it prints: this project's own promise.
use Rattle.std.specs.Prelude.{◌≡◌, ◌⊎◌, ℕ, ℤ, zero, suc, ◌-◌, ◌^◌, Bool, false, true, List, []}
use Rattle.std.specs.Prelude.{◌++◌, Option, Some, None, Result, Ok, Err, codes}
use Rattle.chronicle.specs.declared.why.Why.TheVariants as why
use Rattle.deliveries.specs.declared.delivery.Delivery.{Delivery}
use Rattle.ledger.specs.Ledger.{late}
use Rattle.interleave.specs.declared.event.Event.TheVariants as event
use Rattle.interleave.specs.declared.event.Note.{Note}
use Rattle.interleave.specs.declared.event.Note.TheVariants as note
use Rattle.interleave.specs.declared.event.StepRefusal.{StepRefusal}
use Rattle.interleave.specs.State.{State}
use Rattle.interleave.specs.Steps.{IsStep}
use Rattle.scripts.specs.declared.script.ScriptStep.{ScriptStep}
use Rattle.scripts.specs.declared.script.ScriptStep.TheVariants as step
use Rattle.scripts.specs.Notes.{named_by, host_of, opened_by, answer_text, whole_text}

abbrev pub Answer : Type 0
Answer = Result Note StepRefusal

-- ---- what worker 1 does alone, and the answer that is told

-- it puts so many deliveries
abbrev pub ArePut : ℕ → State → State → Type 0
ArePut zero m k = k ≡ m
ArePut (suc n) m k = (l : State) × (note : Note) × ArePut n m l × IsStep l (event.Put 1) (Ok note) k

-- it puts until it is refused, but no more than 2 ^ 64 - 1 times
abbrev pub IsPutOut : State → State → Type 0
IsPutOut m k = (n : ℕ) × (((l : State) × (refusal : StepRefusal) × ArePut n m l
    × IsStep l (event.Put 1) (Err refusal) k) ⊎ ((n ≡ 2 ^ 64 - 1) × ArePut n m k))

abbrev pub IsEnded : State → Answer → State → Type 0
IsEnded m a k = (l : State) × IsPutOut m l × IsStep l (event.End 1) a k

-- it goes on with the line that it began, or gives back the line that it couldn't begin
abbrev pub IsAfterBegin : Answer → State → Answer → State → Type 0
IsAfterBegin (Ok note) m a k = IsEnded m a k
IsAfterBegin (Err refusal) m a k = (back : Answer) × IsStep m (event.Back 1) back k × (a ≡ Err refusal)

abbrev pub IsBegun : ℤ → State → Answer → State → Type 0
IsBegun moment m a k = (begin : Answer) × (l : State) × IsStep m (event.Begin 1 moment) begin l
    × IsAfterBegin begin l a k

abbrev pub IsAfterPick : ℤ → Answer → State → Answer → State → Type 0
IsAfterPick moment (Ok note) m a k = IsBegun moment m a k
IsAfterPick moment (Err refusal) m a k = (a ≡ Err refusal) × (k ≡ m)

-- it picks a line, begins it, puts and ends
abbrev pub IsDoing : ℕ → ℤ → State → Answer → State → Type 0
IsDoing session moment m a k = (pick : Answer) × (l : State) × IsStep m (event.Pick 1 session) pick l
    × IsAfterPick moment pick l a k

abbrev pub IsAfterSweep : Answer → State → Answer → State → Type 0
IsAfterSweep (Ok (note.Swept (Some number))) m a k = IsEnded m a k
IsAfterSweep sweep m a k = (a ≡ sweep) × (k ≡ m)

-- it sweeps, and where there was one to sweep it puts and ends
abbrev pub IsTidying : ℤ → State → Answer → State → Type 0
IsTidying moment m a k = (sweep : Answer) × (l : State) × IsStep m (event.Sweep 1 moment) sweep l
    × IsAfterSweep sweep l a k

abbrev pub IsAfterTick : Answer → State → Answer → State → Type 0
IsAfterTick (Ok (note.Ticked (Some number))) m a k = IsEnded m a k
IsAfterTick tick m a k = (a ≡ tick) × (k ≡ m)

-- it ticks, and where there was somebody to ping it puts and ends
abbrev pub IsTicking : ℤ → State → Answer → State → Type 0
IsTicking moment m a k = (tick : Answer) × (l : State) × IsStep m (event.Tick 1 moment) tick l × IsAfterTick tick l a k

-- ---- who is late is hung

-- worker 1 hangs the late session of the lowest number, if there is one
abbrev pub IsLateHung : ℤ → State → Option Answer → State → Type 0
IsLateHung moment m None k = (late m.book.history moment ≡ None) × (k ≡ m)
IsLateHung moment m (Some a) k = (s : ℕ) × (late m.book.history moment ≡ Some s)
    × IsStep m (event.Hang 1 s why.PingTimeout moment) a k

abbrev pub is_hung : Option Answer → Bool
is_hung None = false
is_hung (Some (Ok note)) = true
is_hung (Some (Err refusal)) = false

abbrev pub late_text : Option Answer → List ℕ
late_text None = []
late_text (Some a) = answer_text 0 [] a

-- so many late sessions are hung, and printed
abbrev pub AreLateHung : ℕ → ℤ → State → List ℕ → State → Type 0
AreLateHung zero moment m text k = (text ≡ []) × (k ≡ m)
AreLateHung (suc n) moment m text k =
    (l : State) × (a : Option Answer) × (before : List ℕ) × AreLateHung n moment m before l
    × IsLateHung moment l a k × (is_hung a ≡ true) × (text ≡ before ++ late_text a)

-- late sessions are hung until there is none, or one isn't, but no more than 2 ^ 64 - 1
abbrev pub IsHungOut : ℤ → State → List ℕ → State → Type 0
IsHungOut moment m text k =
    (n : ℕ) × (((l : State) × (a : Option Answer) × (before : List ℕ) × AreLateHung n moment m before l
    × IsLateHung moment l a k × (is_hung a ≡ false) × (text ≡ before ++ late_text a))
    ⊎ ((n ≡ 2 ^ 64 - 1) × AreLateHung n moment m text k))

-- after a tick that isn't refused
abbrev pub IsAfterBeat : ℤ → Answer → State → List ℕ → State → Type 0
IsAfterBeat moment (Ok note) m text k = IsHungOut moment m text k
IsAfterBeat moment (Err refusal) m text k = (text ≡ []) × (k ≡ m)

-- worker 1 ticks, and then hangs each late session
abbrev pub IsBeat : ℤ → State → List ℕ → State → Type 0
IsBeat moment m text k = (a : Answer) × (l : State) × (rest : List ℕ) × IsTicking moment m a l
    × IsAfterBeat moment a l rest k × (text ≡ whole_text (codes "tick") a ++ rest)

-- ---- takes

-- so many items are taken of a session that has this host, and printed
abbrev pub AreTaken : ℕ → ℕ → List ℕ → State → List ℕ → State → Type 0
AreTaken zero session host m text k = (text ≡ []) × (k ≡ m)
AreTaken (suc n) session host m text k =
    (l : State) × (item : Delivery) × (before : List ℕ) × AreTaken n session host m before l
    × IsStep l (event.Take session) (Ok (note.Item item)) k
    × (text ≡ before ++ answer_text session host (Ok (note.Item item)))

abbrev pub is_item : Answer → Bool
is_item (Ok (note.Item item)) = true
is_item a = false

-- items are taken until there is none, but no more than 2 ^ 64 - 1, and the last answer is printed, too
abbrev pub IsDrained : ℕ → List ℕ → State → List ℕ → State → Type 0
IsDrained session host m text k =
    (n : ℕ) × (((l : State) × (a : Answer) × (before : List ℕ) × AreTaken n session host m before l × IsStep l
    (event.Take session) a k × (is_item a ≡ false) × (text ≡ before ++ answer_text session host a))
    ⊎ ((n ≡ 2 ^ 64 - 1) × AreTaken n session host m text k))

-- ---- steps

-- the state with the hosts of all sessions that were opened, the step's text, and both after it
abbrev pub IsPerformed : ScriptStep → List (List ℕ) → State → List ℕ → List (List ℕ) → State → Type 0
IsPerformed (step.One e) hosts m text hosts' k =
    (a : Answer) × IsStep m e a k × (hosts' ≡ hosts ++ opened_by e a)
    × (text ≡ answer_text (named_by e) (host_of hosts (named_by e)) a)
IsPerformed (step.Do session moment) hosts m text hosts' k = (a : Answer) × IsDoing session moment m a k
    × (hosts' ≡ hosts) × (text ≡ whole_text (codes "record") a)
IsPerformed (step.Tidy moment) hosts m text hosts' k = (a : Answer) × IsTidying moment m a k × (hosts' ≡ hosts)
    × (text ≡ whole_text (codes "sweep") a)
IsPerformed (step.Beat moment) hosts m text hosts' k = IsBeat moment m text k × (hosts' ≡ hosts)
IsPerformed (step.Drain session) hosts m text hosts' k = IsDrained session (host_of hosts session) m text k
    × (hosts' ≡ hosts)
