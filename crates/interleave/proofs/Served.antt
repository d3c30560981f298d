-- Settings stay within their limits, and records clean, over the book's steps.
use Rattle.std.proofs.Common.{◌≡◌, ℕ, ℤ, Bool, true, false, cond, List, [], ◌∷◌, ◌++◌, length}
use Rattle.std.specs.List.{list_all}
use Rattle.std.proofs.lemmas.Bool.{and_parts}
use Rattle.std.proofs.lemmas.List.Elements.{All-cons, All-head, All-tail}
use Rattle.line_grammar.specs.declared.splitter.Piece.{Piece}
use Rattle.chronicle.specs.declared.record.Kind.{Kind}
use Rattle.chronicle.specs.History.{Rec}
use Rattle.chronicle.specs.Journal.{fresh_record, miss}
use Rattle.registration.specs.Settings.{IsWellSet}
use Rattle.answer_octets.specs.Clean.{is_one_line}
use Rattle.clean_records.specs.Clean.{IsCleanHistory, IsCleanKind}
use Rattle.book.specs.Ring.{Waiting, has_room}
use Rattle.book.specs.Planned.{Planned}
use Rattle.book.specs.Ledger.{Shown, after_begin, after_put, after_all, after_miss, outbox_at, plan_of, put_all}
use Rattle.book.specs.Ledger.{put_next}

abbrev pub IsServed : Shown Waiting → Type 0
IsServed m = IsWellSet m.settings × IsCleanHistory m.history

abbrev Clean : Rec → Type 0
Clean r = IsCleanKind r.kind

missed_clean : (h : List Rec) (t : ℕ) → IsCleanHistory h → IsCleanHistory (miss h t)
missed_clean [] t are = are
missed_clean (r ∷ h) t are =
    let n : Rec = record { number = r.number; moment = r.moment; kind = r.kind; missed = r.missed ++ t ∷ [] } in
    All-cons Clean n h (All-head Clean r h are) (All-tail Clean r h are)

pub next_served : (m : Shown Waiting) (ps : List Planned) → IsServed m → IsServed (put_next m ps)
next_served m [] i = i
next_served m (p ∷ ps) i =
    elim (has_room (outbox_at m.outboxes p.session)) as
    (λ (b : Bool). IsServed (cond b (after_put m p ps) (after_miss m p ps))) [
      | true ↦ (i.0, i.1)
      | false ↦ (i.0, missed_clean m.history p.session i.1)
    ]

puts_served : (m : Shown Waiting) (ps : List Planned) → IsServed m → IsServed (put_all m ps)
puts_served m [] i = i
puts_served m (p ∷ ps) i = puts_served (put_next m (p ∷ ps)) ps (next_served m (p ∷ ps) i)

pub begun_served : (m : Shown Waiting) (k : Kind) (moment : ℤ) → IsCleanKind k → IsServed m
    → IsServed (after_begin m k moment)
begun_served m k moment is i = (i.0, All-cons Clean (fresh_record m.history moment k) m.history is i.1)

pub done_served : (m : Shown Waiting) (k : Kind) (moment : ℤ) → IsCleanKind k → IsServed m
    → IsServed (after_all m k moment)
done_served m k moment is i =
    let all = puts_served (after_begin m k moment) (plan_of m.settings m.history k moment (length m.outboxes))
    (begun_served m k moment is i) in (all.0, all.1)

-- ---- lines

pub one_line : (xs : List Piece) (piece : Piece) (rest : List Piece)
    → list_all is_one_line (xs ++ piece ∷ rest) ≡ true → is_one_line piece ≡ true
one_line [] piece rest e = (and_parts (is_one_line piece) (list_all is_one_line rest) e).0
one_line (x ∷ xs) piece rest e =
    one_line xs piece rest (and_parts (is_one_line x) (list_all is_one_line (xs ++ piece ∷ rest)) e).1
