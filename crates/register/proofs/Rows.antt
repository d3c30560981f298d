-- What stands in rows after a session was let in, or a piece was done.
use Rattle.std.proofs.Common.{◌≡◌, ◌≢◌, ℕ, Bool, true, false, ◌==◌, cond, List, [], ◌∷◌, ◌++◌, Option}
use Rattle.std.proofs.Common.{Some, None, refl, sym, ap, ◌∙◌, eq-eqb, ne_eqb, arith}
use Rattle.std.proofs.lemmas.Bool.{eqb-true}
use Rattle.std.proofs.lemmas.Option.{none-some, same_Some}
use Rattle.line_grammar.specs.declared.splitter.Piece.{Piece}
use Rattle.register.specs.declared.claims.Row.{Row}
use Rattle.register.specs.Rows.{outbox_at, pieces_at, longer, with_piece}

-- a test whose answer is known
pub cond_is : {A : Type 0} (b c : Bool) (x y : A) → b ≡ c → cond b x y ≡ cond c x y
cond_is b c x y e = ap (λ d. cond d x y) e

module _ {N : Type 0} where
  -- a session has pieces just where it has an outbox
  pub pieces_none : (rows : List (Row N)) (s : ℕ) → outbox_at rows s ≡ None → pieces_at rows s ≡ None
  pieces_none [] s = λ e. refl
  pieces_none (r ∷ rs) s = elim (r.session == s) as
      (λ b. cond b (Some r.outbox) (outbox_at rs s) ≡ None → cond b (Some r.pieces) (pieces_at rs s) ≡ None) [
        | true ↦ (λ e. absurd (none-some r.outbox (sym e)))
        | false ↦ pieces_none rs s
      ]

  -- who has pieces is another than who has none
  pub apart_pieces : (rows : List (Row N)) (s t : ℕ) (ps : List Piece) → pieces_at rows t ≡ Some ps
      → outbox_at rows s ≡ None → t ≢ s
  apart_pieces rows s t ps has none same = none-some ps
      (sym (pieces_none rows s none) ∙ ap (pieces_at rows) (sym same) ∙ has)

  pub apart_outbox : (rows : List (Row N)) (s t : ℕ) (n : N) → outbox_at rows t ≡ Some n
      → outbox_at rows s ≡ None → t ≢ s
  apart_outbox rows s t n has none same = none-some n (sym none ∙ ap (outbox_at rows) (sym same) ∙ has)

  pub first_pieces : (r : Row N) (rows : List (Row N)) → pieces_at (r ∷ rows) r.session ≡ Some r.pieces
  first_pieces r rows = cond_is (r.session == r.session) true (Some r.pieces) (pieces_at rows r.session)
      (eq-eqb r.session r.session refl)

  pub first_outbox : (r : Row N) (rows : List (Row N)) → outbox_at (r ∷ rows) r.session ≡ Some r.outbox
  first_outbox r rows = cond_is (r.session == r.session) true (Some r.outbox) (outbox_at rows r.session)
      (eq-eqb r.session r.session refl)

  pub rest_pieces : (r : Row N) (rows : List (Row N)) (t : ℕ) → t ≢ r.session
      → pieces_at (r ∷ rows) t ≡ pieces_at rows t
  rest_pieces r rows t apart = cond_is (r.session == t) false (Some r.pieces) (pieces_at rows t)
      (ne_eqb r.session t (λ e. apart (sym e)))

  pub rest_outbox : (r : Row N) (rows : List (Row N)) (t : ℕ) → t ≢ r.session
      → outbox_at (r ∷ rows) t ≡ outbox_at rows t
  rest_outbox r rows t apart = cond_is (r.session == t) false (Some r.outbox) (outbox_at rows t)
      (ne_eqb r.session t (λ e. apart (sym e)))

  -- a piece more leaves each outbox
  pub piece_outbox : (rows : List (Row N)) (s : ℕ) (p : Piece) (t : ℕ) → outbox_at (with_piece rows s p) t
      ≡ outbox_at rows t
  piece_outbox [] s p t = refl
  piece_outbox (r ∷ rs) s p t = elim (r.session == s) as
      (λ b. outbox_at (cond b (longer r p ∷ rs) (r ∷ with_piece rs s p)) t ≡ outbox_at (r ∷ rs) t) [
        | true ↦ refl
        | false ↦ ap (cond (r.session == t) (Some r.outbox)) (piece_outbox rs s p t)
      ]

  -- and the pieces of each other session
  pub piece_else : (rows : List (Row N)) (s : ℕ) (p : Piece) (t : ℕ) → t ≢ s
      → pieces_at (with_piece rows s p) t ≡ pieces_at rows t
  piece_else [] s p t apart = refl
  piece_else (r ∷ rs) s p t apart = at (r.session == s) refl
      (ap (cond (r.session == t) (Some r.pieces)) (piece_else rs s p t apart))
    where
      at : (b : Bool) → (r.session == s) ≡ b → pieces_at (r ∷ with_piece rs s p) t ≡ pieces_at (r ∷ rs) t
          → pieces_at (cond b (longer r p ∷ rs) (r ∷ with_piece rs s p)) t ≡ pieces_at (r ∷ rs) t
      at true e rest = let other : t ≢ r.session = λ same. apart (same ∙ eqb-true r.session s e) in
          rest_pieces (longer r p) rs t other ∙ sym (rest_pieces r rs t other)
      at false e rest = rest

  -- and comes at the end of the session's own
  pub piece_here : (rows : List (Row N)) (s : ℕ) (p : Piece) (ps : List Piece) → pieces_at rows s ≡ Some ps
      → pieces_at (with_piece rows s p) s ≡ Some (ps ++ p ∷ [])
  piece_here [] s p ps has = absurd (none-some ps has)
  piece_here (r ∷ rs) s p ps has = at (r.session == s) refl has (piece_here rs s p ps)
    where
      at : (b : Bool) → (r.session == s) ≡ b → cond b (Some r.pieces) (pieces_at rs s) ≡ Some ps
          → (pieces_at rs s ≡ Some ps → pieces_at (with_piece rs s p) s ≡ Some (ps ++ p ∷ []))
          → pieces_at (cond b (longer r p ∷ rs) (r ∷ with_piece rs s p)) s ≡ Some (ps ++ p ∷ [])
      at true e is later =
          cond_is (r.session == s) true (Some (r.pieces ++ p ∷ [])) (pieces_at rs s) e ∙ ap
          (λ (q : List Piece). Some (q ++ p ∷ [])) (same_Some r.pieces ps is)
      at false e is later = cond_is (r.session == s) false (Some r.pieces) (pieces_at (with_piece rs s p) s) e
          ∙ later is
