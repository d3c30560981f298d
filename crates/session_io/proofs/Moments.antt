-- At which moment a record is, and who was shut by it.
use Rattle.std.proofs.Common.{◌≡◌, ℕ, ℤ, ◌+◌, true, List, [], ◌∷◌, ◌++◌, length, All, Option}
use Rattle.std.proofs.Common.{Some, None, refl, ap, sym, ◌∙◌, subst, add-one}
use Rattle.std.specs.Prelude.{Result, Ok, Err, IfOk, OnOk, OnErr}
use Rattle.line_grammar.specs.declared.splitter.Piece.{Piece}
use Rattle.chronicle.specs.declared.record.Kind.{Kind}
use Rattle.chronicle.specs.declared.record.Kind.TheVariants.{Said}
use Rattle.chronicle.specs.History.{Rec, last_moment, shut}
use Rattle.chronicle.specs.Journal.{miss}
use Rattle.session_ends.specs.Ends.{Puttings, accepts, refuses}
use Rattle.session_ends.specs.Turn.{BatonView, next_turn}
use Rattle.session_ends.specs.Planned.{Planned}
use Rattle.session_ends.specs.Step.{Step}
use Rattle.session_ends.specs.Step.TheVariants.{Put, Missed}
use Rattle.session_ends.specs.Done.{Done}
use Rattle.session_ends.specs.Ledger.{Shown, after_begin, plan_of, newest_missed, IsPutNext, IsPutAll, IsDone}
use Rattle.session_ends.specs.Timing.{IsLater, older, IsAt, IsNext}
use Rattle.session_io.specs.Doing.{TellsOfNewest, IsSeenTo}

-- two histories with the same records but for who missed the newest
record AreLike (h k : List Rec) : Type 0 where
  moment : last_moment k ≡ last_moment h
  older : older k ≡ older h
  count : length k ≡ length h

like_itself : (h k : List Rec) → k ≡ h → AreLike h k
like_itself h k same = record {
  moment = ap last_moment same;
  older = ap older same;
  count = ap (λ (l : List Rec). length l) same;
}

like_then : (h k l : List Rec) → AreLike h k → AreLike k l → AreLike h l
like_then h k l a b = record { moment = b.moment ∙ a.moment; older = b.older ∙ a.older; count = b.count ∙ a.count }

missed_like : (h : List Rec) (t : ℕ) → AreLike h (miss h t)
missed_like [] t = record { moment = refl; older = refl; count = refl }
missed_like (r ∷ h) t = record { moment = refl; older = refl; count = refl }

put_next : (m k : Shown Puttings) (ps : List Planned) (step : Option Step) → IsPutNext accepts refuses m ps step k
    → AreLike m.history k.history
put_next m k [] None p = like_itself m.history k.history (ap (λ n. n.history) p)
put_next m k [] (Some step) p = absurd p
put_next m k (q ∷ qs) None p = absurd p
put_next m k (q ∷ qs) (Some (Put t)) p = like_itself m.history k.history (ap (λ n. n.history) p.1.book)
put_next m k (q ∷ qs) (Some (Missed t)) p =
    like_then m.history (miss m.history q.session) k.history (missed_like m.history q.session)
    (like_itself (miss m.history q.session) k.history (ap (λ n. n.history) p.1.book))

put_all : (m k : Shown Puttings) (ps : List Planned) → IsPutAll accepts refuses m ps k → AreLike m.history k.history
put_all m k [] p = like_itself m.history k.history (ap (λ n. n.history) p)
put_all m k (q ∷ qs) p = like_then m.history p.0.history k.history (put_next m p.0 (q ∷ qs) (Some p.1) p.2)
    (put_all p.0 k qs p.3)

done_like : (m k : Shown Puttings) (kind : Kind) (moment : ℤ) → IsDone accepts refuses m kind moment k
    → AreLike (after_begin m kind moment).history k.history
done_like m k kind moment d =
    let b = after_begin m kind moment in
    like_then b.history d.0.history k.history (put_all b d.0 (plan_of m.settings m.history kind moment
    (length m.outboxes)) d.1) (like_itself d.0.history k.history (ap (λ n. n.history) d.2))

-- a record that was done comes after all before it, at its moment
pub done_next : (m k : Shown Puttings) (kind : Kind) (moment : ℤ) (front : List Rec)
    → IsDone accepts refuses m kind moment k → front ≡ k.history → IsNext moment m.history front
done_next m k kind moment front d is =
    let like = done_like m k kind moment d in
    record { moment = ap last_moment is ∙ like.moment; older = ap older is ∙ like.older }

-- what is told of a line that was done
pub done_tells : (m k : Shown Puttings) (kind : Kind) (moment : ℤ) (front : List Rec) (session : ℕ) (d : Done)
    → IsDone accepts refuses m kind moment k → front ≡ k.history
    → d.number ≡ length m.history + 1 → d.missed ≡ newest_missed k.history → d.shut ≡ shut k.history session
    → TellsOfNewest d front session
done_tells m k kind moment front session d done is number missed shut_ = record {
  number = number ∙ add-one (length m.history)
      ∙ sym (ap (λ (l : List Rec). length l) is ∙ (done_like m k kind moment done).count);
  missed = missed ∙ sym (ap newest_missed is);
  shut = shut_ ∙ sym (ap (λ (l : List Rec). shut l session) is);
}

-- what comes of a line: its piece is the newest of those done, at its moment; or the baton is the old one
pub record IsSaid {E : Type 0} (h : List Rec) (b c : BatonView) (piece : Piece) (moment : ℤ) (answer : Result Done E)
    : Type 0 where
  pub done : OnOk answer (c.pieces ≡ b.pieces ++ piece ∷ [])
  pub refused : OnErr answer (c ≡ b)
  pub session : c.session ≡ b.session
  pub told : IfOk answer (λ d. TellsOfNewest d c.front c.session)
  pub next : OnOk answer (IsNext moment h c.front)

-- what came of a call of a hall, as it is told of a line
pub line_said : {E : Type 0} (m k : Shown Puttings) (b c : BatonView) (piece : Piece) (moment : ℤ)
    (answer : Result Done E)
    → OnOk answer (IsDone accepts refuses m (Said b.session b.next piece) moment k)
    → OnOk answer (c ≡ next_turn b piece k.history)
    → IfOk answer (λ d. d.number ≡ length m.history + 1)
    → IfOk answer (λ d. d.missed ≡ newest_missed k.history)
    → IfOk answer (λ d. d.shut ≡ shut k.history b.session)
    → OnErr answer ((k ≡ m) × (c ≡ b)) → IsSaid m.history b c piece moment answer
line_said m k b c piece moment (Ok d) done baton number missed shut_ err =
    let kind = Said b.session b.next piece in
    let front = ap (λ (t : BatonView). t.front) baton in
    let session = ap (λ (t : BatonView). t.session) baton in
    record {
      done = ap (λ (t : BatonView). t.pieces) baton;
      refused = tt;
      session = session;
      told = done_tells m k kind moment c.front c.session d done front number missed
          (subst (λ (s : ℕ). d.shut ≡ shut k.history s) (sym session) shut_);
      next = done_next m k kind moment c.front done front;
    }
line_said m k b c piece moment (Err e) done baton number missed shut_ err = record {
  done = tt;
  refused = err.1;
  session = ap (λ (t : BatonView). t.session) err.1;
  told = tt;
  next = tt;
}

-- a record at the later of a moment and that of the record before it
pub at_later : (a moment : ℤ) (h front : List Rec) → IsLater a (last_moment h) moment → IsNext moment h front
    → IsAt a front
at_later a moment h front later next =
    subst (λ (m : ℤ). IsLater a (last_moment (older front)) m) (sym next.moment)
    (subst (λ (l : List Rec). IsLater a (last_moment l) moment) (sym next.older) later)

-- a line that was done at a moment that the clock showed, and whom it shut was shut
pub seen_to : (shows : ℤ → Type 0) (shuts : ℕ → Type 0) (b : BatonView) (clock : ℤ) (d : Done) (session : ℕ)
    → b.session ≡ session → shows clock → IsAt clock b.front → TellsOfNewest d b.front b.session
    → All shuts d.missed → (d.shut ≡ true → shuts session) → IsSeenTo shows shuts b
seen_to shows shuts b clock d session whose shown at told missed own = record {
  clock = clock;
  shown = shown;
  moment = at;
  shut = record {
    missed = subst (All shuts) told.missed missed;
    own = λ e. subst shuts (sym whose) (own (told.shut ∙ e));
  };
}
