-- The rows of a register stand for a history, record by record.
use Rattle.std.proofs.Common.{◌≡◌, ◌≢◌, ⊎_elim, ℕ, ◌+◌, ◌<◌, ◌≤◌, true, false, ◌==◌}
use Rattle.std.proofs.Common.{List, [], ◌∷◌, ◌++◌, Option, Some, None, refl, sym, ap, ◌∙◌, subst}
use Rattle.std.proofs.Common.{append-nil, eq-eqb, ne_eqb, arith}
use Rattle.std.specs.Prelude.{IfSome}
use Rattle.std.proofs.lemmas.Bool.Decides.{eqb_tells}
use Rattle.std.proofs.lemmas.Option.{same_Some}
use Rattle.line_grammar.specs.declared.splitter.Piece.{Piece}
use Rattle.chronicle.specs.declared.record.Kind.TheVariants.{Said}
use Rattle.chronicle.specs.History.{Rec, opened_by, said_by, sessions, accepted}
use Rattle.chronicle.specs.Journal.{miss}
use Rattle.register.specs.declared.claims.Row.{Row}
use Rattle.register.specs.Rows.{new_row, with_piece, pieces_at}
use Rattle.register.proofs.Rows.{cond_is, first_pieces, rest_pieces, rest_outbox, piece_outbox, piece_else, piece_here}
use Rattle.book.specs.Standing.{Begun, begun_by, StandsFor}

-- who misses the newest record changes nothing that is said of lines
missed_sessions : (h : List Rec) (u : ℕ) → sessions (miss h u) ≡ sessions h
missed_sessions [] u = refl
missed_sessions (r ∷ h) u = refl

missed_accepted : (h : List Rec) (u t : ℕ) → accepted (miss h u) t ≡ accepted h t
missed_accepted [] u t = refl
missed_accepted (r ∷ h) u t = refl

module _ {N : Type 0} where
  -- no session said anything
  pub nothing : StandsFor {N = N} [] None []
  nothing = record { pieces = λ t from to. absurd (omega arith); none = λ t late. refl }

  -- a session was opened
  pub opens : (rows : List (Row N)) (h : List Rec) (r : Rec) (n : N) → StandsFor rows None h → opened_by r.kind ≡ 1
      → ((t : ℕ) → said_by r.kind t ≡ []) → accepted h (sessions h + 1) ≡ []
      → StandsFor (new_row (sessions h + 1) n ∷ rows) None (r ∷ h)
  opens rows h r n st one silent empty =
      let row = new_row (sessions h + 1) n in
      let kept : (t : ℕ) → accepted (r ∷ h) t ≡ accepted h t = λ t. ap (λ ps. accepted h t ++ ps) (silent t)
      ∙ append-nil (accepted h t) in
      record {
        pieces = λ t from to. ⊎_elim
            (λ (x : ((t == (sessions h + 1)) ≡ true) × (t ≡ sessions h + 1)).
            ([], ap (pieces_at (row ∷ rows)) x.1 ∙ first_pieces row rows, kept t ∙ ap (accepted h) x.1 ∙ empty))
            (λ (x : ((t == (sessions h + 1)) ≡ false) × (t ≢ sessions h + 1)).
            let old = st.pieces t from (let e = x.1 in omega (arith, one, to)) in
            (old.0, rest_pieces row rows t x.1 ∙ old.1, kept t ∙ old.2))
            (eqb_tells t (sessions h + 1));
        none = λ t late. rest_outbox row rows t (λ e. omega (arith, one, late)) ∙ st.none t (omega (arith, one, late));
      }

  -- a record that opens no session and says nothing
  pub passes : (rows : List (Row N)) (b : Begun) (h : List Rec) (r : Rec) → StandsFor rows b h
      → opened_by r.kind ≡ 0 → ((t : ℕ) → said_by r.kind t ≡ []) → StandsFor rows b (r ∷ h)
  passes rows b h r st none silent = record {
    pieces = λ t from to. let old = st.pieces t from (omega (arith, none, to)) in
        (old.0, old.1, ap (λ ps. accepted h t ++ ps) (silent t) ∙ append-nil (accepted h t) ∙ old.2);
    none = λ t late. st.none t (omega (arith, none, late));
  }

  -- a line is begun
  pub begins : (rows : List (Row N)) (h : List Rec) (r : Rec) (s i : ℕ) (p : Piece) → StandsFor rows None h
      → r.kind ≡ Said s i p → StandsFor rows (Some (s, p)) (r ∷ h)
  begins rows h r s i p st is = record {
    pieces = λ t from to.
        let old = st.pieces t from (omega (arith, ap opened_by is, to)) in (
          old.0,
          old.1,
          ap (λ ps. accepted h t ++ ps) (ap (λ k. said_by k t) is) ∙ ap
              (λ ps. ps ++ begun_by (Some (s, p)) t) (old.2 ∙ append-nil old.0),
        );
    none = λ t late. st.none t (omega (arith, ap opened_by is, late));
  }

  -- and is done
  pub finishes : (rows : List (Row N)) (h : List Rec) (s : ℕ) (p : Piece) → StandsFor rows (Some (s, p)) h
      → StandsFor (with_piece rows s p) None h
  finishes rows h s p st = record {
    pieces = λ t from to.
        let old = st.pieces t from to in
        ⊎_elim
        (λ (x : ((t == s) ≡ true) × (t ≡ s)). (
          old.0 ++ p ∷ [],
          ap (pieces_at (with_piece rows s p)) x.1 ∙ piece_here rows s p old.0 (ap (pieces_at rows) (sym x.1) ∙ old.1),
          old.2 ∙ ap (λ ps. old.0 ++ ps) (cond_is (s == t) true (p ∷ []) [] (eq-eqb s t (sym x.1)))
              ∙ sym (append-nil (old.0 ++ p ∷ [])),
        ))
        (λ (x : ((t == s) ≡ false) × (t ≢ s)). (
          old.0,
          piece_else rows s p t x.1 ∙ old.1,
          old.2 ∙ ap
              (λ ps. old.0 ++ ps) (cond_is (s == t) false (p ∷ []) [] (ne_eqb s t (λ e. x.1 (sym e)))),
        ))
        (eqb_tells t s);
    none = λ t late. piece_outbox rows s p t ∙ st.none t late;
  }

  -- a session missed the newest record
  pub misses : (rows : List (Row N)) (b : Begun) (h : List Rec) (u : ℕ) → StandsFor rows b h
      → StandsFor rows b (miss h u)
  misses rows b h u st = record {
    pieces = λ t from to. let old = st.pieces t from (omega (arith, missed_sessions h u, to)) in
        (old.0, old.1, missed_accepted h u t ∙ old.2);
    none = λ t late. st.none t (omega (arith, missed_sessions h u, late));
  }

  -- what a baton has done is what the history accepts, but for the line that was begun
  pub known : (rows : List (Row N)) (b : Begun) (h : List Rec) (s : ℕ) (ps : List Piece) → StandsFor rows b h
      → 0 < s → s ≤ sessions h → pieces_at rows s ≡ Some ps → accepted h s ≡ ps ++ begun_by b s
  known rows b h s ps st from to is = let old = st.pieces s from to in
      old.2 ∙ ap (λ qs. qs ++ begun_by b s) (same_Some old.0 ps (sym old.1 ∙ is))

  -- so the roll may be told that it is done
  pub may_finish : (rows : List (Row N)) (h : List Rec) (s : ℕ) (p : Piece) → StandsFor rows (Some (s, p)) h → 0 < s
      → s ≤ sessions h → IfSome (pieces_at rows s) (λ ps. accepted h s ≡ ps ++ p ∷ [])
  may_finish rows h s p st from to =
      let old = st.pieces s from to in
      subst (λ (o : Option (List Piece)). IfSome o (λ ps. accepted h s ≡ ps ++ p ∷ [])) (sym old.1)
      (old.2 ∙ ap (λ qs. old.0 ++ qs) (cond_is (s == s) true (p ∷ []) [] (eq-eqb s s refl)))
