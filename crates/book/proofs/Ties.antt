-- The register of a book stands for it over each step.
use Rattle.std.proofs.Common.{◌≡◌, ◌≢◌, ⊎_elim, ℕ, ℤ, ◌+◌, ◌-◌, ◌<◌, ◌≤◌, Bool, true, false, ◌==◌, cond, List, [], ◌∷◌}
use Rattle.std.proofs.Common.{◌++◌, length, Option, Some, None, refl, sym, ap, ◌∙◌, subst, append-nil, eq-eqb, arith}
use Rattle.std.specs.Prelude.{IfSome}
use Rattle.std.proofs.lemmas.Bool.Decides.{eqb_tells}
use Rattle.std.proofs.lemmas.List.{get_or_push}
use Rattle.std.proofs.lemmas.Option.{none-some, same_Some, IfSome_then}
use Rattle.line_grammar.specs.declared.splitter.Piece.{Piece}
use Rattle.chronicle.specs.declared.why.Why.{Why}
use Rattle.chronicle.specs.declared.record.Kind.{Kind}
use Rattle.chronicle.specs.declared.record.Kind.TheVariants.{Opened, Said, Hung, Gone, Ticked}
use Rattle.chronicle.specs.History.{Rec, actor, said_by, sessions, accepted}
use Rattle.chronicle.specs.Journal.{fresh_record, miss}
use Rattle.registration.specs.declared.settings.Settings.{Settings}
use Rattle.deliveries.specs.declared.item.Item.{Item}
use Rattle.outbox.specs.declared.queue.PutFault.{PutFault}
use Rattle.register.specs.declared.claims.Row.{Row}
use Rattle.register.specs.Rows.{new_row, with_piece, outbox_at, pieces_at}
use Rattle.register.proofs.Rows.{cond_is, first_outbox, rest_outbox, piece_outbox, piece_here}
use Rattle.book.specs.Standing.{Begun, StandsFor, begun_by}
use Rattle.book.proofs.Standing.{nothing, opens, passes, begins, finishes, misses, known}
use Rattle.ledger.specs.declared.plan.Planned.{Planned}
use Rattle.ledger.specs.declared.outcomes.Step.{Step}
use Rattle.ledger.specs.declared.outcomes.Step.TheVariants.{Put, Missed}
use Rattle.ledger.specs.Ledger.{Shown, box_at, plan_of, empty_ledger, after_open, after_begin, after_end, after_roll}
use Rattle.ledger.specs.Ledger.{after_reap, after_miss}
use Rattle.ledger.specs.Ledger.{IsPutNext, IsPutAll, IsDone, newest_actor, next_of, newest_next, line_of, newest_line}
use Rattle.ledger.specs.Ledger.{Out, IsOut}
use Rattle.ledger.specs.Legal.{IsKind, IsLegal}
use Rattle.book.specs.Reaping.{newest_said}
use Rattle.book.specs.Tied.{begun_of, IsTied}
use Rattle.book.proofs.Boxes.{push_else, replaced, taken_out}

sessions_missed : (h : List Rec) (u : ℕ) → sessions (miss h u) ≡ sessions h
sessions_missed [] u = refl
sessions_missed (r ∷ h) u = refl

-- who misses the newest record changes nothing of its line
line_missed : (h : List Rec) (u : ℕ) → newest_line (miss h u) ≡ newest_line h
line_missed [] u = refl
line_missed (r ∷ h) u = refl

-- nor of what is said in it
said_missed : (h : List Rec) (u s : ℕ) → newest_said (miss h u) s ≡ newest_said h s
said_missed [] u s = refl
said_missed (r ∷ h) u s = refl

-- ---- which line the newest record says

said_line : (k : Kind) (s : ℕ) → said_by k s ≡ begun_by (line_of k) s
said_line (Opened u host) s = refl
said_line (Said u i p) s = refl
said_line (Hung u why) s = refl
said_line (Gone u) s = refl
said_line Ticked s = refl

-- which is what it adds to its session's pieces
pub newest_adds : (h : List Rec) (s : ℕ) (p : Piece) → newest_line h ≡ Some (s, p) → newest_said h s ≡ p ∷ []
newest_adds [] s p e = absurd (none-some (s, p) e)
newest_adds (r ∷ h) s p e = said_line r.kind s ∙ ap (λ (b : Begun). begun_by b s) e
    ∙ cond_is (s == s) true (p ∷ []) [] (eq-eqb s s refl)

no_line : (k : Kind) → next_of k ≡ None → line_of k ≡ None
no_line (Opened s host) e = refl
no_line (Said s i p) e = absurd (none-some (i + 1) (sym e))
no_line (Hung s why) e = refl
no_line (Gone s) e = refl
no_line Ticked e = refl

-- whose session was opened
says_from_1 : (h : List Rec) (k : Kind) (n : ℕ) → IsKind h k → next_of k ≡ Some n → 0 < actor k
says_from_1 h (Opened s host) n i e = absurd (none-some n e)
says_from_1 h (Said s j p) n i e = i.0
says_from_1 h (Hung s why) n i e = absurd (none-some n e)
says_from_1 h (Gone s) n i e = absurd (none-some n e)
says_from_1 h Ticked n i e = absurd (none-some n e)

pub newest_from_1 : (g : Settings) (h : List Rec) (n : ℕ) → IsLegal g h → newest_next h ≡ Some n → 0 < newest_actor h
newest_from_1 g [] n i e = absurd (none-some n e)
newest_from_1 g (r ∷ h) n i e = says_from_1 h r.kind n i.2 e

-- and of no session there is no line
no_actor : (h : List Rec) (k : Kind) → IsKind h k → actor k ≡ 0 → line_of k ≡ None
no_actor h (Opened s host) i e = refl
no_actor h (Said s j p) i e = let from = i.0 in absurd (omega (arith, from, e))
no_actor h (Hung s why) i e = refl
no_actor h (Gone s) i e = refl
no_actor h Ticked i e = refl

newest_of_none : (g : Settings) (h : List Rec) → IsLegal g h → newest_actor h ≡ 0 → newest_line h ≡ None
newest_of_none g [] i e = refl
newest_of_none g (r ∷ h) i e = no_actor h r.kind i.2 e

pub newest_is_none : (h : List Rec) → newest_next h ≡ None → newest_line h ≡ None
newest_is_none [] e = refl
newest_is_none (r ∷ h) e = no_line r.kind e

-- no line is begun, where the plan that is out is that of none
pub out_no_line : {O : Type 0} (m : Shown O) (p : Out) → IsOut m p → p.next ≡ None → begun_of m ≡ None
out_no_line m p out next = ap (λ (b : Bool). cond b (newest_line m.history) None) out.busy
    ∙ newest_is_none m.history (sym out.next ∙ next)

pub out_tick : {O : Type 0} (m : Shown O) (p : Out) → IsLegal m.settings m.history → IsOut m p → p.session ≡ 0
    → begun_of m ≡ None
out_tick m p legal out nobody = ap (λ (b : Bool). cond b (newest_line m.history) None) out.busy
    ∙ newest_of_none m.settings m.history legal (sym out.session ∙ nobody)

module _ {O : Type 0} (accepts : O → Item → O → Type 0) (refuses : O → PutFault → Type 0) where
  -- ---- a delivery is put or missed, which changes neither the line that is begun nor the sessions

  put_line : (m k : Shown O) (ps : List Planned) (step : Option Step) → IsPutNext accepts refuses m ps step k
      → (begun_of k ≡ begun_of m) × (sessions k.history ≡ sessions m.history)
  put_line m k [] None p = (ap begun_of p, ap (λ n. sessions n.history) p)
  put_line m k [] (Some step) p = absurd p
  put_line m k (q ∷ qs) None p = absurd p
  put_line m k (q ∷ qs) (Some (Put t)) p = (ap begun_of p.1.book, ap (λ n. sessions n.history) p.1.book)
  put_line m k (q ∷ qs) (Some (Missed t)) p = (
    ap begun_of p.1.book ∙ ap (λ l. cond m.busy l None) (line_missed m.history q.session),
    ap (λ n. sessions n.history) p.1.book ∙ sessions_missed m.history q.session,
  )

  put_all_line : (m k : Shown O) (ps : List Planned) → IsPutAll accepts refuses m ps k → (begun_of k ≡ begun_of m)
      × (sessions k.history ≡ sessions m.history)
  put_all_line m k [] p = (ap begun_of p, ap (λ n. sessions n.history) p)
  put_all_line m k (q ∷ qs) p =
      let a = put_line m p.0 (q ∷ qs) (Some p.1) p.2 in let b = put_all_line p.0 k qs p.3 in (b.0 ∙ a.0, b.1 ∙ a.1)

  -- nor what its session said in it
  put_said : (m k : Shown O) (ps : List Planned) (step : Option Step) (s : ℕ)
      → IsPutNext accepts refuses m ps step k → newest_said k.history s ≡ newest_said m.history s
  put_said m k [] None s p = ap (λ n. newest_said n.history s) p
  put_said m k [] (Some step) s p = absurd p
  put_said m k (q ∷ qs) None s p = absurd p
  put_said m k (q ∷ qs) (Some (Put t)) s p = ap (λ n. newest_said n.history s) p.1.book
  put_said m k (q ∷ qs) (Some (Missed t)) s p = ap (λ n. newest_said n.history s) p.1.book
      ∙ said_missed m.history q.session s

  put_all_said : (m k : Shown O) (ps : List Planned) (s : ℕ) → IsPutAll accepts refuses m ps k
      → newest_said k.history s ≡ newest_said m.history s
  put_all_said m k [] s p = ap (λ n. newest_said n.history s) p
  put_all_said m k (q ∷ qs) s p = put_all_said p.0 k qs s p.3 ∙ put_said m p.0 (q ∷ qs) (Some p.1) s p.2

  -- which is its line, when all of it was put
  pub line_said : (m n k : Shown O) (s i : ℕ) (p : Piece) (moment : ℤ) → n ≡ after_begin m (Said s i p) moment
      → IsPutAll accepts refuses n n.plan k → newest_said k.history s ≡ p ∷ []
  line_said m n k s i p moment is put = put_all_said n k n.plan s put ∙ ap (λ b. newest_said b.history s) is
      ∙ cond_is (s == s) true (p ∷ []) [] (eq-eqb s s refl)

  module _ {N : Type 0} (name : O → N) (stays : (a : O) (x : Item) (b : O) → accepts a x b → name b ≡ name a) where
    pub put_ties : (m k : Shown O) (ps : List Planned) (step : Option Step) (rows : List (Row N))
        → IsPutNext accepts refuses m ps step k → IsTied name m rows → IsTied name k rows
    put_ties m k [] None rows p i = subst (λ n. IsTied name n rows) (sym p) i
    put_ties m k [] (Some step) rows p i = absurd p
    put_ties m k (q ∷ qs) None rows p i = absurd p
    put_ties m k (q ∷ qs) (Some (Put t)) rows p i =
        let d = p.1 in
        subst (λ n. IsTied name n rows) (sym d.book) (record {
          stands = i.stands;
          names = λ u from.
              replaced (λ o. outbox_at rows u ≡ Some (name o)) m.outboxes (q.session - 1)
              (u - 1) d.before d.after d.here
              (λ e. e ∙ ap (λ (n : N). Some n) (sym (stays d.before _ d.after d.accepted))) (i.names u from);
        })
    put_ties m k (q ∷ qs) (Some (Missed t)) rows p i =
        let d = p.1 in
        let same : begun_of m ≡ begun_of (after_miss m q qs) = ap
        (λ l. cond m.busy l None) (sym (line_missed m.history q.session)) in
        subst (λ n. IsTied name n rows) (sym d.book)
        (record {
          stands = subst (λ (b : Begun). StandsFor rows b (miss m.history q.session)) same
              (misses rows (begun_of m) m.history q.session i.stands);
          names = i.names;
        })

    pub put_all_ties : (m k : Shown O) (ps : List Planned) (rows : List (Row N)) → IsPutAll accepts refuses m ps k
        → IsTied name m rows → IsTied name k rows
    put_all_ties m k [] rows p i = subst (λ n. IsTied name n rows) (sym p) i
    put_all_ties m k (q ∷ qs) rows p i = put_all_ties p.0 k qs rows p.3 (put_ties m p.0 (q ∷ qs) (Some p.1) rows p.2 i)

module _ {O N : Type 0} (name : O → N) where
  pub empty_ties : (limit : ℕ) (g : Settings) → IsTied name (empty_ledger limit g) []
  empty_ties limit g = record { stands = nothing; names = λ t from. tt }

  -- where no plan is out, the rows stand for the whole history
  idle_stands : (m : Shown O) (rows : List (Row N)) → m.busy ≡ false → IsTied name m rows
      → StandsFor rows None m.history
  idle_stands m rows idle i = subst
      (λ (b : Bool). StandsFor rows (cond b (newest_line m.history) None) m.history) idle i.stands

  -- ---- a session is opened

  pub opened_ties : (m : Shown O) (host : List ℕ) (moment : ℤ) (box : O) (rows : List (Row N)) → m.busy ≡ false
      → sessions m.history ≡ length m.outboxes → accepted m.history (sessions m.history + 1) ≡ []
      → IsTied name m rows
      → IsTied name (after_open m host moment box) (new_row (sessions m.history + 1) (name box) ∷ rows)
  opened_ties m host moment box rows idle many none i =
      let h = m.history in
      let n = sessions h + 1 in
      let row = new_row n (name box) in
      let r = fresh_record h moment (Opened n host) in
      let now : StandsFor (row ∷ rows) None (r ∷ h) = opens rows h r (name box) (idle_stands m rows idle i) refl
      (λ t. refl) none in
      record {
        stands = subst (λ (b : Bool). StandsFor (row ∷ rows) (cond b None None) (r ∷ h)) (sym idle) now;
        names = λ t from. ⊎_elim
            (λ (x : ((t == n) ≡ true) × (t ≡ n)).
            let last : length m.outboxes ≡ t - 1 = let e = x.1 in omega arith in
            subst (λ (o : Option O). IfSome o (λ b. outbox_at (row ∷ rows) t ≡ Some (name b)))
            (sym (get_or_push m.outboxes (Some box) None (t - 1) last))
            (ap (outbox_at (row ∷ rows)) x.1 ∙ first_outbox row rows))
            (λ (x : ((t == n) ≡ false) × (t ≢ n)).
            let apart : t - 1 ≢ length m.outboxes = λ e. x.1 (omega arith) in
            subst (λ (o : Option O). IfSome o (λ b. outbox_at (row ∷ rows) t ≡ Some (name b)))
            (sym (push_else m.outboxes (Some box) None (t - 1) apart))
            (IfSome_then (box_at m.outboxes t) (i.names t from) (λ b e. rest_outbox row rows t x.1 ∙ e)))
            (eqb_tells t n);
      }

  -- ---- a record is begun

  pub said_ties : (m : Shown O) (s i : ℕ) (p : Piece) (moment : ℤ) (rows : List (Row N)) → m.busy ≡ false
      → IsTied name m rows → IsTied name (after_begin m (Said s i p) moment) rows
  said_ties m s i p moment rows idle tied = record {
    stands = begins rows m.history
        (fresh_record m.history moment (Said s i p)) s i p (idle_stands m rows idle tied) refl;
    names = tied.names;
  }

  pub gone_ties : (m : Shown O) (s : ℕ) (moment : ℤ) (rows : List (Row N)) → m.busy ≡ false → IsTied name m rows
      → IsTied name (after_begin m (Gone s) moment) rows
  gone_ties m s moment rows idle tied = record {
    stands = passes rows None m.history
        (fresh_record m.history moment (Gone s)) (idle_stands m rows idle tied) refl (λ t. refl);
    names = tied.names;
  }

  pub tick_ties : (m : Shown O) (moment : ℤ) (rows : List (Row N)) → m.busy ≡ false → IsTied name m rows
      → IsTied name (after_begin m Ticked moment) rows
  tick_ties m moment rows idle tied = record {
    stands = passes rows None m.history
        (fresh_record m.history moment Ticked) (idle_stands m rows idle tied) refl (λ t. refl);
    names = tied.names;
  }

  pub hung_ties : (m : Shown O) (s : ℕ) (why : Why) (moment : ℤ) (rows : List (Row N)) → m.busy ≡ false
      → IsTied name m rows → IsTied name (after_begin m (Hung s why) moment) rows
  hung_ties m s why moment rows idle tied = record {
    stands = passes rows None m.history (fresh_record m.history
        moment (Hung s why)) (idle_stands m rows idle tied) refl (λ t. refl);
    names = tied.names;
  }

  -- ---- the plan is given back

  pub line_ties : (m : Shown O) (s : ℕ) (p : Piece) (rows : List (Row N)) → begun_of m ≡ Some (s, p)
      → IsTied name m rows → IsTied name (after_end m) (with_piece rows s p)
  line_ties m s p rows line tied = record {
    stands = finishes rows m.history s p (subst (λ (b : Begun). StandsFor rows b m.history) line tied.stands);
    names = λ t from. IfSome_then (box_at m.outboxes t) (tied.names t from) (λ o e. piece_outbox rows s p t ∙ e);
  }

  pub sweep_ties : (m : Shown O) (rows : List (Row N)) → begun_of m ≡ None → IsTied name m rows
      → IsTied name (after_end m) rows
  sweep_ties m rows none tied =
      record { stands = subst (λ (b : Begun). StandsFor rows b m.history) none tied.stands; names = tied.names }

  -- ---- a session is given up

  -- no record counts less where all were dropped
  pub rolled_ties : (m : Shown O) (rows : List (Row N)) → IsTied name m rows → IsTied name (after_roll m) rows
  rolled_ties m rows tied = record { stands = tied.stands; names = tied.names }

  pub reaped_ties : (m : Shown O) (s : ℕ) (rows : List (Row N)) → IsTied name m rows
      → IsTied name (after_reap m s) rows
  reaped_ties m s rows tied = record {
    stands = tied.stands;
    names = λ t from. taken_out
        (λ o. outbox_at rows t ≡ Some (name o)) m.outboxes (s - 1) (t - 1) (tied.names t from);
  }

  -- ---- what the rows tell

  -- the pieces that a row has are those that the history accepts
  pub row_accepts : (m : Shown O) (s : ℕ) (ps : List Piece) (rows : List (Row N)) → m.busy ≡ false
      → IsTied name m rows → 0 < s → s ≤ sessions m.history → pieces_at rows s ≡ Some ps → ps ≡ accepted m.history s
  row_accepts m s ps rows idle tied from to is = sym
      (known rows None m.history s ps (idle_stands m rows idle tied) from to is ∙ append-nil ps)

  -- and so is one piece more, when its line is done
  pub done_accepts : (m : Shown O) (s : ℕ) (p : Piece) (ps : List Piece) (rows : List (Row N)) → m.busy ≡ false
      → IsTied name m (with_piece rows s p) → 0 < s → s ≤ sessions m.history → pieces_at rows s ≡ Some ps
      → ps ++ p ∷ [] ≡ accepted m.history s
  done_accepts m s p ps rows idle tied from to is = row_accepts m s (ps ++ p ∷ [])
      (with_piece rows s p) idle tied from to (piece_here rows s p ps is)

  -- the outbox that is there has the name that the row has
  pub row_names : (m : Shown O) (s : ℕ) (n : N) (rows : List (Row N)) → IsTied name m rows → 0 < s
      → outbox_at rows s ≡ Some n → IfSome (box_at m.outboxes s) (λ o. name o ≡ n)
  row_names m s n rows tied from is = IfSome_then (box_at m.outboxes s) (tied.names s from)
      (λ o e. same_Some (name o) n (sym e ∙ is))

  -- a session is ended
  pub hung_done_ties : (accepts : O → Item → O → Type 0) (refuses : O → PutFault → Type 0)
      → ((a : O) (x : Item) (b : O) → accepts a x b → name b ≡ name a)
      → (m k : Shown O) (s : ℕ) (why : Why) (moment : ℤ) (rows : List (Row N)) → m.busy ≡ false
      → IsDone accepts refuses m (Hung s why) moment k → IsTied name m rows → IsTied name k rows
  hung_done_ties accepts refuses stays m k s why moment rows idle d tied =
      let n = d.0 in
      let begun_ = put_all_ties accepts refuses name stays (after_begin m (Hung s why) moment) n
      (plan_of m.settings m.history (Hung s why) moment (length m.outboxes)) rows d.1
      (hung_ties m s why moment rows idle tied) in
      let line : begun_of n ≡ None = (put_all_line accepts refuses (after_begin m (Hung s why) moment) n
      (plan_of m.settings m.history (Hung s why) moment (length m.outboxes)) d.1).0 in
      subst (λ b. IsTied name b rows) (sym d.2) (sweep_ties n rows line begun_)

-- with no plan out, the pieces of a session's row are those that the history accepts
pub idle_pieces : {O N : Type 0} (name : O → N) (m : Shown O) (rows : List (Row N)) (t : ℕ) → m.busy ≡ false
    → IsTied name m rows → 0 < t → t ≤ sessions m.history → pieces_at rows t ≡ Some (accepted m.history t)
idle_pieces name m rows t idle tied from to =
    let p = tied.stands.pieces t from to in
    let none : begun_of m ≡ None = ap (λ b. cond b (newest_line m.history) None) idle in
    p.1 ∙ ap Some (sym (p.2 ∙ ap (λ b. p.0 ++ begun_by b t) none ∙ append-nil p.0))
