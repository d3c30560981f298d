-- What came of a call of a book: the state after it and what it answers; or the first cause of its refusal that holds,
-- and nothing changed. A refusal's causes stand in their order in `ledger`. This project's own promise.
use Rattle.std.specs.Prelude.{◌≡◌, ◌+◌, ◌==◌, ℕ, ℤ, false, Option, Some, None, List, [], length}
use Rattle.std.specs.Prelude.{Result, IfOk, IfErr, IfSome, OnOk, OnErr}
use Rattle.std.specs.List.{list_any}
use Rattle.line_grammar.specs.declared.splitter.Piece.{Piece}
use Rattle.chronicle.specs.declared.why.Why.{Why}
use Rattle.chronicle.specs.declared.record.Kind.TheVariants.{Said, Hung, Gone, Ticked}
use Rattle.chronicle.specs.History.{sessions, accepted, shut}
use Rattle.deliveries.specs.declared.item.Item.{Item}
use Rattle.outbox.specs.declared.queue.PutFault.{PutFault}
use Rattle.register.specs.Shown.{Stubbed, new_stub}
use Rattle.ledger.specs.declared.outcomes.Done.{Done}
use Rattle.ledger.specs.declared.outcomes.Hung.{Hung as Told}
use Rattle.ledger.specs.declared.outcomes.Reaped.{Reaped}
use Rattle.ledger.specs.declared.outcomes.Rolled.{Rolled}
use Rattle.ledger.specs.declared.refusals.OpenRefusal.{OpenRefusal}
use Rattle.ledger.specs.declared.refusals.LineRefusal.{LineRefusal}
use Rattle.ledger.specs.declared.refusals.HangRefusal.{HangRefusal}
use Rattle.ledger.specs.declared.refusals.SweepRefusal.{SweepRefusal}
use Rattle.ledger.specs.declared.refusals.TickRefusal.{TickRefusal}
use Rattle.ledger.specs.declared.refusals.RollRefusal.{RollRefusal}
use Rattle.ledger.specs.declared.refusals.ReapRefusal.{ReapRefusal}
use Rattle.ledger.specs.Ledger as ledger
use Rattle.ledger.specs.Ledger.{Shown, Out, IsOut, IsDone, after_open, after_begin, after_roll, after_reap}
use Rattle.ledger.specs.Ledger.{newest_missed, to_sweep}
use Rattle.ledger.specs.Ledger.{to_ping, MayOpen, MayBegin, MayHang, MaySweep, MayTick, IsSomebodyIdle, HasRoom}
use Rattle.ledger.specs.Ledger.{IsOpenRefusal, IsLineRefusal, IsHangRefusal, IsSweepRefusal, IsTickRefusal}
use Rattle.ledger.specs.Ledger.{IsRollRefusal}
use Rattle.book.specs.Turn.{BatonView, new_turn, next_turn}
use Rattle.book.specs.Reaping.{turn_of, MayReap, IsReapRefusal, IsAllOwed, AreAllAccepted}

-- ---- a session comes and goes

-- a session was opened, and has its baton and its stub; a refusal gives the outbox back
pub record IsOpenOutcome {O N : Type 0} (name : O → N) (m k : Shown O) (host : List ℕ) (moment : ℤ) (outbox : O)
    (came : Result (ℕ × BatonView × Stubbed N) (OpenRefusal × O)) : Type 0 where
  pub ok : OnOk came (k ≡ after_open m host moment outbox)
  pub may : OnOk came (MayOpen m moment)
  pub session : IfOk came (λ r. r.0 ≡ sessions m.history + 1)
  pub baton : IfOk came (λ r. r.1 ≡ new_turn r.0 k.history)
  pub stub : IfOk came (λ r. r.2 ≡ new_stub r.0 (name outbox))
  pub refusal : IfErr came (λ e. IsOpenRefusal m moment e.0)
  pub err : IfErr came (λ e. (k ≡ m) × (e.1 ≡ outbox))

-- a session was given up, with its baton, its stub and what takes from its outbox; a refusal gives the three back
pub record IsReapOutcome {O N W : Type 0} (sent : O → List Item) (taken : O → W → List Item) (m k : Shown O)
    (b : BatonView) (stub : Stubbed N) (taker : W) (answer : Result Reaped (ReapRefusal × BatonView × Stubbed N × W))
    : Type 0 where
  pub ok : OnOk answer (k ≡ after_reap m b.session)
  pub session : IfOk answer (λ l. l.session ≡ b.session)
  pub left : IfOk answer (λ l. IsAllOwed sent taken m b.session taker l.count)
  pub pieces : OnOk answer (AreAllAccepted m b.session b.pieces)
  pub may : OnOk answer (MayReap m b.session stub.session)
  pub refusal : IfErr answer (λ e. IsReapRefusal m b.session stub.session e.0)
  pub same : OnErr answer (k ≡ m)
  pub back : IfErr answer (λ e. (e.1 ≡ b) × (e.2 ≡ stub) × (e.3 ≡ taker))

-- ---- a record is appended, and its plan is out

-- the next line of a session
pub record IsLineBegun {O : Type 0} (m k : Shown O) (b : ledger.Turn) (piece : Piece) (moment : ℤ)
    (plan : Result Out LineRefusal) : Type 0 where
  pub ok : OnOk plan (k ≡ after_begin m (Said b.session b.next piece) moment)
  pub out : IfOk plan (λ p. IsOut k p)
  pub line : IfOk plan (λ p. (p.session ≡ b.session) × (p.next ≡ Some (b.next + 1)))
  pub may : OnOk plan (MayBegin m b moment)
  pub refusal : IfErr plan (λ e. IsLineRefusal m b moment e)
  pub err : OnErr plan (k ≡ m)

-- the shut session of the lowest number that isn't gone is; None where there is none
pub record IsSweepBegun {O : Type 0} (m k : Shown O) (moment : ℤ) (plan : Result (Option Out) SweepRefusal)
    : Type 0 where
  pub some : IfOk plan (λ o. IfSome o (λ p. (to_sweep m.history ≡ Some p.session)
      × (k ≡ after_begin m (Gone p.session) moment) × IsOut k p × (p.next ≡ None)))
  pub none : IfOk plan (λ o. o ≡ None → (to_sweep m.history ≡ None) × (k ≡ m))
  pub may : OnOk plan (MaySweep m moment)
  pub refusal : IfErr plan (λ e. IsSweepRefusal m moment e)
  pub err : OnErr plan (k ≡ m)

-- whoever is idle for long enough is pinged; None where nobody is
pub record IsTickBegun {O : Type 0} (m k : Shown O) (moment : ℤ) (plan : Result (Option Out) TickRefusal)
    : Type 0 where
  pub some : IfOk plan (λ o. IfSome o (λ p. (k ≡ after_begin m Ticked moment) × IsOut k p × (p.session ≡ 0)
      × (p.next ≡ None)))
  pub idle : IfOk plan (λ o. IfSome o (λ p. IsSomebodyIdle m moment × HasRoom m))
  pub none : IfOk plan (λ o. o ≡ None → (to_ping m.history moment ≡ []) × (k ≡ m))
  pub may : OnOk plan (MayTick m moment)
  pub refusal : IfErr plan (λ e. IsTickRefusal m moment e)
  pub err : OnErr plan (k ≡ m)

-- ---- a record is appended, and all that it owes is put or missed

-- the next line of a baton's session was accepted, all that it owes was put or missed, and it is done
pub record IsLineOutcome {O : Type 0} (accepts : O → Item → O → Type 0) (refuses : O → PutFault → Type 0)
    (m k : Shown O) (b c : BatonView) (piece : Piece) (moment : ℤ) (done : Result Done LineRefusal) : Type 0 where
  pub ok : OnOk done (IsDone accepts refuses m (Said b.session b.next piece) moment k)
  pub baton : OnOk done (c ≡ next_turn b piece k.history)
  pub accepted : OnOk done (c.pieces ≡ accepted k.history b.session)
  pub may : OnOk done (MayBegin m (turn_of b) moment)
  pub number : IfOk done (λ d. d.number ≡ length m.history + 1)
  pub missed : IfOk done (λ d. d.missed ≡ newest_missed k.history)
  pub shut : IfOk done (λ d. d.shut ≡ shut k.history b.session)
  pub refusal : IfErr done (λ e. IsLineRefusal m (turn_of b) moment e)
  pub err : OnErr done ((k ≡ m) × (c ≡ b))

-- a session was ended, and its last item was put, or missed where its outbox didn't take it
pub record IsHangOutcome {O : Type 0} (accepts : O → Item → O → Type 0) (refuses : O → PutFault → Type 0)
    (m k : Shown O) (session : ℕ) (why : Why) (moment : ℤ) (hung : Result Told HangRefusal) : Type 0 where
  pub ok : OnOk hung (IsDone accepts refuses m (Hung session why) moment k)
  pub may : OnOk hung (MayHang m session moment)
  pub number : IfOk hung (λ d. d.number ≡ length m.history + 1)
  pub missed : IfOk hung (λ d. d.missed ≡ list_any (λ u. u == session) (newest_missed k.history))
  pub refusal : IfErr hung (λ e. IsHangRefusal m session moment e)
  pub err : OnErr hung (k ≡ m)

-- one session was swept, or none is to be
pub record IsSweepOutcome {O : Type 0} (accepts : O → Item → O → Type 0) (refuses : O → PutFault → Type 0)
    (m k : Shown O) (moment : ℤ) (swept : Result (Option Done) SweepRefusal) : Type 0 where
  pub some : IfOk swept (λ o. IfSome o (λ d. (s : ℕ) × (to_sweep m.history ≡ Some s)
      × IsDone accepts refuses m (Gone s) moment k × (d.number ≡ length m.history + 1)
      × (d.missed ≡ newest_missed k.history) × (d.shut ≡ shut k.history s)))
  pub none : IfOk swept (λ o. o ≡ None → (to_sweep m.history ≡ None) × (k ≡ m))
  pub may : OnOk swept (MaySweep m moment)
  pub refusal : IfErr swept (λ e. IsSweepRefusal m moment e)
  pub err : OnErr swept (k ≡ m)

-- whoever is idle was pinged, or nobody is
pub record IsTickOutcome {O : Type 0} (accepts : O → Item → O → Type 0) (refuses : O → PutFault → Type 0)
    (m k : Shown O) (moment : ℤ) (ticked : Result (Option Done) TickRefusal) : Type 0 where
  pub some : IfOk ticked (λ o. IfSome o (λ d. IsDone accepts refuses m Ticked moment k
      × (d.number ≡ length m.history + 1) × (d.missed ≡ newest_missed k.history) × (d.shut ≡ false)))
  pub idle : IfOk ticked (λ o. IfSome o (λ d. IsSomebodyIdle m moment × HasRoom m))
  pub none : IfOk ticked (λ o. o ≡ None → (to_ping m.history moment ≡ []) × (k ≡ m))
  pub may : OnOk ticked (MayTick m moment)
  pub refusal : IfErr ticked (λ e. IsTickRefusal m moment e)
  pub err : OnErr ticked (k ≡ m)

-- ---- all records are dropped

pub record IsRollOutcome {O : Type 0} (m k : Shown O) (result : Result Rolled RollRefusal) : Type 0 where
  pub ok : OnOk result (k ≡ after_roll m)
  pub dropped : IfOk result (λ r. r.dropped + m.limit.dropped ≡ length m.history)
  pub next : IfOk result (λ r. r.next ≡ length m.history + 1)
  pub idle : OnOk result (m.busy ≡ false)
  pub refusal : IfErr result (λ e. IsRollRefusal m e)
  pub err : OnErr result (k ≡ m)
