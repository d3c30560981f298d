-- What a step gave, as it is written: this project's own choice.
use Rattle.std.specs.Prelude.{ℕ, zero, suc, Bool, false, true, List, [], ◌∷◌, ◌++◌, Option, Some, None}
use Rattle.std.specs.Prelude.{Result, Ok, Err, codes, decimal, flat_map, filter, slice_index_or}
use Rattle.line_grammar.specs.Lines.{ended_lines}
use Rattle.chronicle.specs.declared.ids.SessionId.{SessionId}
use Rattle.chronicle.specs.declared.ids.RecordNumber.{RecordNumber}
use Rattle.ledger.specs.declared.outcomes.Done.{Done}
use Rattle.ledger.specs.declared.outcomes.Hung.{Hung}
use Rattle.deliveries.specs.Text.{delivery_text}
use Rattle.interleave.specs.declared.event.Event.{Event}
use Rattle.interleave.specs.declared.event.Event.TheVariants as event
use Rattle.interleave.specs.declared.event.Note.{Note}
use Rattle.interleave.specs.declared.event.Note.TheVariants as note
use Rattle.interleave.specs.declared.event.StepRefusal.{StepRefusal}
use Rattle.scripts.specs.Escapes.{printed_text}
use Rattle.scripts.specs.Lines.{text_before}
use Rattle.scripts.specs.Refusals.{refusal_name}

-- a word as a line
abbrev pub word_line : List ℕ → List ℕ
word_line word = word ++ 10 ∷ []

-- a label and a number on a line
abbrev pub label_line : List ℕ → ℕ → List ℕ
label_line label n = label ++ (codes " " ++ (decimal n ++ 10 ∷ []))

-- the label and the number of a record, and each session that missed it
abbrev pub done_text : List ℕ → Done → List ℕ
done_text label done = label_line label done.number ++ flat_map
    (λ (s : SessionId). label_line (codes "missed") s) done.missed

-- whether the session missed its last item
abbrev pub missed_word : Bool → List ℕ
missed_word false = []
missed_word true = codes " missed"

abbrev pub hung_text : Hung → List ℕ
hung_text hung = codes "hung " ++ (decimal hung.number ++ (missed_word hung.missed ++ 10 ∷ []))

-- a label, and the number of a record or that there is none
abbrev pub chosen_text : List ℕ → Option RecordNumber → List ℕ
chosen_text label None = label ++ word_line (codes " none")
chosen_text label (Some number) = label_line label number

-- a line that was due to a session
abbrev pub line_text : ℕ → List ℕ → List ℕ
line_text session line = decimal session ++ (codes "> " ++ (printed_text line ++ 10 ∷ []))

abbrev pub is_nonempty : List ℕ → Bool
is_nonempty [] = false
is_nonempty (b ∷ bs) = true

-- each line that ends in a text, an empty one apart, with what stands before the text
abbrev pub lines_after : ℕ → List ℕ → List ℕ → List ℕ
lines_after session line text = flat_map (line_text session) (filter is_nonempty (text_before line (ended_lines text)))

-- of a step of a session that has this host
abbrev pub note_text : ℕ → List ℕ → Note → List ℕ
note_text session host (note.Session opened) = label_line (codes "session") opened
note_text session host (note.Read count) = label_line (codes "read") count
note_text session host note.Picked = word_line (codes "picked")
note_text session host (note.Record number) = label_line (codes "record") number
note_text session host (note.Put s) = label_line (codes "put") s
note_text session host (note.Missed s) = label_line (codes "missed") s
note_text session host (note.Done done) = label_line (codes "done") done.number
note_text session host note.Back = word_line (codes "back")
note_text session host (note.Item item) = lines_after session [] (delivery_text item host)
note_text session host note.Empty = word_line (codes "empty")
note_text session host (note.Hung hung) = hung_text hung
note_text session host (note.Swept number) = chosen_text (codes "sweep") number
note_text session host (note.Ticked number) = chosen_text (codes "tick") number
note_text session host (note.Left count) = label_line (codes "left") count

-- why a step was refused
abbrev pub refused_text : StepRefusal → List ℕ
refused_text refusal = codes "refused " ++ word_line (refusal_name refusal)

-- what a step of a session that has this host gave, or why it was refused
abbrev pub answer_text : ℕ → List ℕ → Result Note StepRefusal → List ℕ
answer_text session host (Ok note) = note_text session host note
answer_text session host (Err refusal) = refused_text refusal

-- what worker 1 came to alone: a record with this label and who missed it, or what any step gives
abbrev pub whole_text : List ℕ → Result Note StepRefusal → List ℕ
whole_text label (Ok (note.Done done)) = done_text label done
whole_text label answer = answer_text 0 [] answer

-- the session that an event names, 0 where it names none
abbrev pub named_by : Event → ℕ
named_by (event.Connect host moment) = 0
named_by (event.Feed session octets) = session
named_by (event.Pick worker session) = session
named_by (event.Begin worker moment) = 0
named_by (event.Put worker) = 0
named_by (event.End worker) = 0
named_by (event.Back worker) = 0
named_by (event.Take session) = session
named_by (event.Hang worker session why moment) = session
named_by (event.Sweep worker moment) = 0
named_by (event.Tick worker moment) = 0
named_by (event.Reap session) = session

-- the host of a session, by the hosts of all that were opened
abbrev pub host_of : List (List ℕ) → ℕ → List ℕ
host_of hosts zero = []
host_of hosts (suc n) = slice_index_or hosts n []

-- the host of the session that an event opened
abbrev pub opened_by : Event → Result Note StepRefusal → List (List ℕ)
opened_by (event.Connect host moment) (Ok (note.Session session)) = host ∷ []
opened_by event answer = []
