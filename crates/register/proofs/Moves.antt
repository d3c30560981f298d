-- Each step keeps the register's rule.
use Rattle.std.proofs.Common.{◌≡◌, ◌≢◌, ◌⊎◌, inl, inr, ℕ, zero, suc, Bool, true, false, ◌==◌, cond}
use Rattle.std.proofs.Common.{List, [], ◌∷◌, ◌++◌, length, set, Option, Some, None, refl, sym, ap}
use Rattle.std.proofs.Common.{◌∙◌, subst, ⊎_elim, eq-eqb, ne_eqb, arith}
use Rattle.std.specs.Prelude.{IfSome}
use Rattle.std.proofs.lemmas.Option.{IfSome_then}
use mathlib.Core.Option as opt
use mathlib.Core.Option.{some-ne-none, some-injective}
use lib.ListN.{get_elem?}
use Rattle.line_grammar.specs.declared.splitter.Piece.{Piece}
use Rattle.atomic_table.specs.Table.{State, Splits, Joins, Allows, keeps, step}
use Rattle.atomic_table.proofs.Lists.{at_set, set_again}
use Rattle.register.specs.declared.claims.Row.{Row}
use Rattle.register.specs.declared.claims.MarkClaim.{MarkClaim}
use Rattle.register.specs.declared.claims.StubClaim.{StubClaim}
use Rattle.register.specs.declared.claims.Known.{Known}
use Rattle.register.specs.Rows.{outbox_at, pieces_at, with_piece}
use Rattle.register.specs.Rule.{IsMark, IsStub, Fits, Kept, keeper, only_mark, only_stub, only_rows, without_stub}
use Rattle.register.specs.Rule.{spent, admitting, admitted, either, joined, advancing, advanced, Learns}
use Rattle.register.proofs.Rows.{cond_is, apart_pieces, apart_outbox, first_pieces, first_outbox}
use Rattle.register.proofs.Rows.{rest_pieces, rest_outbox, piece_outbox, piece_else, piece_here}

-- the new element of a list that is one longer, or one of those before
at_end : {A : Type 0} (l : List A) (a b : A) (j : ℕ) → get_elem? (l ++ a ∷ []) j ≡ opt.some b
    → (get_elem? l j ≡ opt.some b) ⊎ ((j ≡ length l) × (a ≡ b))
at_end [] a b zero e = inr (refl, some-injective a b e)
at_end [] a b (suc j) e = absurd (some-ne-none b (sym e))
at_end (x ∷ xs) a b zero e = inl e
at_end (x ∷ xs) a b (suc j) e = ⊎_elim (λ h. inl h) (λ h. inr (ap suc h.0, h.1)) (at_end xs a b j e)

-- who has the mark, or the stub, of each session, once `to` has that of s
moved : (ℕ → ℕ) → ℕ → ℕ → ℕ → ℕ
moved f s to t = cond (t == s) to (f t)

moved_here : (f : ℕ → ℕ) (s to : ℕ) → moved f s to s ≡ to
unfolding moved
moved_here f s to = cond_is (s == s) true to (f s) (eq-eqb s s refl)

moved_else : (f : ℕ → ℕ) (s to t : ℕ) → t ≢ s → moved f s to t ≡ f t
unfolding moved
moved_else f s to t apart = cond_is (t == s) false to (f t) (ne_eqb t s apart)

-- who has the mark of each session, once `to` has taken in that of a claim
marks_by : Option MarkClaim → (ℕ → ℕ) → ℕ → ℕ → ℕ
marks_by None f to = f
marks_by (Some m) f to = moved f m.session to

module _ {N : Type 0} where
  abbrev pub Holds : State (Unit {0}) (Known N) → Type 0
  Holds s = Kept s.views

  abbrev All : (ℕ → Known N → Type 0) → List (Known N) → Type 0
  All F views = (by : ℕ) (v : Known N) → get_elem? views by ≡ opt.some v → F by v

  all_set : (F : ℕ → Known N → Type 0) (views : List (Known N)) (by : ℕ) (w : Known N) → F by w
      → ((j : ℕ) (u : Known N) → j ≢ by → get_elem? views j ≡ opt.some u → F j u) → All F (set views by w)
  all_set F views by w mine others j u e = ⊎_elim
      (λ (x : (j ≡ by) × (w ≡ u)). subst (λ (y : ℕ × Known N). F y.0 y.1) (λ i. (sym x.0 i, x.1 i)) mine)
      (λ (x : (j ≢ by) × (get_elem? views j ≡ opt.some u)). others j u x.0 x.1) (at_set views by j w u e)

  all_end : (F : ℕ → Known N → Type 0) (views : List (Known N)) (w : Known N) → F (length views) w → All F views
      → All F (views ++ w ∷ [])
  all_end F views w mine others j u e = ⊎_elim (λ x. others j u x) (λ (x : (j ≡ length views) × (w ≡ u)). subst
      (λ (y : ℕ × Known N). F y.0 y.1) (λ i. (sym x.0 i, x.1 i)) mine) (at_end views w u j e)

  -- what another seat shows still fits
  stays : (own : ℕ) (rows now : List (Row N)) (mark_of marks stub_of stubs : ℕ → ℕ) (j : ℕ)
      → ((xs : List (Row N)) → (j ≡ own) × (xs ≡ rows) → (j ≡ own) × (xs ≡ now))
      → ((m : MarkClaim) → IsMark rows mark_of j m → IsMark now marks j m)
      → ((n : StubClaim N) → IsStub rows stub_of j n → IsStub now stubs j n)
      → (v : Known N) → Fits own rows mark_of stub_of j v → Fits own now marks stubs j v
  stays own rows now mark_of marks stub_of stubs j r m n v f =
      (IfSome_then v.rows f.0 r, IfSome_then v.mark f.1 m, IfSome_then v.stub f.2 n)

  pub begins : Kept {N = N} (keeper [] ∷ [])
  begins = record { own = 0; rows = []; mark_of = λ _. 0; stub_of = λ _. 0; fits = one }
    where
      one : All (Fits 0 [] (λ _. 0) (λ _. 0)) (keeper [] ∷ [])
      one zero v e = subst (Fits 0 [] (λ _. 0) (λ _. 0) 0) (some-injective _ _ e) ((refl, refl), tt, tt)
      one (suc by) v e = absurd (some-ne-none v (sym e))

  -- a session is let in, whose mark goes to a new seat
  admits : (id : ℕ) (xs : List (Row N)) (r : Row N) → outbox_at xs r.session ≡ None
      → Splits Holds id (keeper xs) (admitting (Some r) (keeper xs)) (admitted (Some r) (keeper xs))
  admits id xs r new s h at =
      let mine = (h.fits id (keeper xs) at).0 in
      let left = admitting (Some r) (keeper xs) in
      let right = admitted (Some r) (keeper xs) in
      let vs = set s.views id left in
      let marks = moved h.mark_of r.session (length vs) in
      let stubs = moved h.stub_of r.session id in
      let F = Fits h.own (r ∷ xs) marks stubs in
      let none : outbox_at h.rows r.session ≡ None = ap (λ l. outbox_at l r.session) (sym mine.1) ∙ new in
      let same_pieces : (t : ℕ) → t ≢ r.session → pieces_at (r ∷ xs) t
      ≡ pieces_at h.rows t = λ t o. rest_pieces r xs t o ∙ ap (λ l. pieces_at l t) mine.1 in
      let same_outbox : (t : ℕ) → t ≢ r.session → outbox_at (r ∷ xs) t
      ≡ outbox_at h.rows t = λ t o. rest_outbox r xs t o ∙ ap (λ l. outbox_at l t) mine.1 in
      record {
        own = h.own;
        rows = r ∷ xs;
        mark_of = marks;
        stub_of = stubs;
        fits =
            all_end F vs right (tt, (moved_here h.mark_of r.session (length vs), first_pieces r xs), tt)
            (all_set F s.views id left ((mine.0, refl), tt, (moved_here h.stub_of r.session id, first_outbox r xs))
            (λ j u apart e. stays h.own h.rows (r ∷ xs) h.mark_of marks h.stub_of stubs j
            (λ ys is. absurd (apart (is.0 ∙ sym mine.0)))
            (λ m is. let o = apart_pieces h.rows r.session m.session m.pieces is.1 none in
            (moved_else h.mark_of r.session (length vs) m.session o ∙ is.0, same_pieces m.session o ∙ is.1))
            (λ n is. let o = apart_outbox h.rows r.session n.session n.outbox is.1 none in
            (moved_else h.stub_of r.session id n.session o ∙ is.0, same_outbox n.session o ∙ is.1))
            u (h.fits j u e)));
      }

  pub admits_as : (id : ℕ) (v : Known N) (xs : List (Row N)) (o : Option (Row N)) (r : Row N) → v ≡ keeper xs
      → o ≡ Some r → outbox_at xs r.session ≡ None → Splits Holds id v (admitting o v) (admitted o v)
  admits_as id v xs o r is row new =
      subst (λ (u : Known N). Splits Holds id u (admitting o u) (admitted o u)) (sym is)
      (subst (λ (q : Option (Row N)). Splits Holds id (keeper xs) (admitting q (keeper xs))
      (admitted q (keeper xs))) (sym row) (admits id xs r new))

  -- the stub goes to a new seat
  pub gives_stub : (id : ℕ) (v : Known N) → Splits Holds id v (without_stub v) (only_stub v.stub)
  gives_stub id v s h at = by v.stub refl
    where
      vs : List (Known N)
      vs = set s.views id (without_stub v)

      mine : Fits h.own h.rows h.mark_of h.stub_of id v
      mine = h.fits id v at

      by : (o : Option (StubClaim N)) → v.stub ≡ o → Kept (vs ++ only_stub o ∷ [])
      by None e =
          let F = Fits h.own h.rows h.mark_of h.stub_of in
          record {
            own = h.own;
            rows = h.rows;
            mark_of = h.mark_of;
            stub_of = h.stub_of;
            fits = all_end F vs (only_stub None) (tt, tt, tt)
                (all_set F s.views id (without_stub v) (mine.0, mine.1, tt) (λ j u _ e. h.fits j u e));
          }
      by (Some n) e =
          let stubs = moved h.stub_of n.session (length vs) in
          let F = Fits h.own h.rows h.mark_of stubs in
          let its : IsStub h.rows h.stub_of id n = subst
          (λ (o : Option (StubClaim N)). IfSome o (IsStub h.rows h.stub_of id)) e mine.2 in
          record {
            own = h.own;
            rows = h.rows;
            mark_of = h.mark_of;
            stub_of = stubs;
            fits =
                all_end F vs (only_stub (Some n)) (tt, tt, (moved_here h.stub_of n.session (length vs), its.1))
                (all_set F s.views id (without_stub v) (mine.0, mine.1, tt)
                (λ j u apart e. stays h.own h.rows h.rows h.mark_of h.mark_of h.stub_of stubs j (λ xs is. is)
                (λ m is. is)
                (λ k is. (
                  moved_else h.stub_of n.session (length vs) k.session
                      (λ same. apart (sym is.0 ∙ ap h.stub_of same ∙ its.0)) ∙ is.0,
                  is.1,
                ))
                u (h.fits j u e)));
          }

  pub blanks : (id : ℕ) (v : Known N) → Splits Holds id v v spent
  blanks id v s h at =
      let F = Fits h.own h.rows h.mark_of h.stub_of in
      record {
        own = h.own;
        rows = h.rows;
        mark_of = h.mark_of;
        stub_of = h.stub_of;
        fits = all_end F
            (set s.views id v) spent (tt, tt, tt) (subst (All F) (sym (set_again s.views id v at)) h.fits);
      }

  -- the same of stubs
  stubs_by : Option (StubClaim N) → (ℕ → ℕ) → ℕ → ℕ → ℕ
  stubs_by None f to = f
  stubs_by (Some n) f to = moved f n.session to

  -- who has taken in another's mark has it, or has its own still
  marks_mine : (rows : List (Row N)) (f : ℕ → ℕ) (id other : ℕ) (mine theirs : Option MarkClaim)
      → IfSome mine (IsMark rows f id) → IfSome theirs (IsMark rows f other)
      → IfSome (either theirs mine) (IsMark rows (marks_by theirs f id) id)
  unfolding marks_by
  marks_mine rows f id other mine None a b = a
  marks_mine rows f id other mine (Some m) a b = (moved_here f m.session id, b.1)

  marks_else : (rows : List (Row N)) (f : ℕ → ℕ) (id other j : ℕ) (theirs : Option MarkClaim)
      → IfSome theirs (IsMark rows f other) → j ≢ other → (m : MarkClaim) → IsMark rows f j m
      → IsMark rows (marks_by theirs f id) j m
  unfolding marks_by
  marks_else rows f id other j None b apart m is = is
  marks_else rows f id other j (Some k) b apart m is =
      (moved_else f k.session id m.session (λ same. apart (sym is.0 ∙ ap f same ∙ b.0)) ∙ is.0, is.1)

  stubs_mine : (rows : List (Row N)) (f : ℕ → ℕ) (id other : ℕ) (mine theirs : Option (StubClaim N))
      → IfSome mine (IsStub rows f id) → IfSome theirs (IsStub rows f other)
      → IfSome (either theirs mine) (IsStub rows (stubs_by theirs f id) id)
  unfolding stubs_by
  stubs_mine rows f id other mine None a b = a
  stubs_mine rows f id other mine (Some n) a b = (moved_here f n.session id, b.1)

  stubs_else : (rows : List (Row N)) (f : ℕ → ℕ) (id other j : ℕ) (theirs : Option (StubClaim N))
      → IfSome theirs (IsStub rows f other) → j ≢ other → (n : StubClaim N) → IsStub rows f j n
      → IsStub rows (stubs_by theirs f id) j n
  unfolding stubs_by
  stubs_else rows f id other j None b apart n is = is
  stubs_else rows f id other j (Some k) b apart n is =
      (moved_else f k.session id n.session (λ same. apart (sym is.0 ∙ ap f same ∙ b.0)) ∙ is.0, is.1)

  -- a seat takes in what another knows of a session
  pub takes : (id : ℕ) (v : Known N) (other : ℕ) (w : Known N) → Joins Holds id v other w (joined v w) spent
  takes id v other w s h at apart there =
      let mine = h.fits id v at in
      let was : get_elem? s.views other ≡ opt.some w = ⊎_elim (λ x. absurd (apart x.0))
      (λ x. x.1) (at_set s.views id other (joined v w) w there) in
      let theirs = h.fits other w was in
      let marks = marks_by w.mark h.mark_of id in
      let stubs = stubs_by w.stub h.stub_of id in
      let F = Fits h.own h.rows marks stubs in
      record {
        own = h.own;
        rows = h.rows;
        mark_of = marks;
        stub_of = stubs;
        fits =
            all_set F (set s.views id (joined v w)) other spent (tt, tt, tt)
            (λ j u away e. all_set (λ i x. i ≢ other → F i x) s.views id (joined v w)
            (λ _. (
              mine.0,
              marks_mine h.rows h.mark_of id other v.mark w.mark mine.1 theirs.1,
              stubs_mine h.rows h.stub_of id other v.stub w.stub mine.2 theirs.2,
            ))
            (λ i x _ e' not_other. stays h.own h.rows h.rows h.mark_of marks h.stub_of stubs i (λ xs is. is)
            (marks_else h.rows h.mark_of id other i w.mark theirs.1 not_other)
            (stubs_else h.rows h.stub_of id other i w.stub theirs.2 not_other) x (h.fits i x e'))
            j u e away);
      }

  -- what the rule says of a seat
  learned : (own : ℕ) (rows : List (Row N)) (mark_of stub_of : ℕ → ℕ) (id : ℕ) (v : Known N)
      → Fits own rows mark_of stub_of id v → Learns v
  learned own rows mark_of stub_of id v f =
      IfSome_then v.rows f.0 (λ xs is. (
        IfSome_then v.mark f.1 (λ m k. ap (λ l. pieces_at l m.session) is.1 ∙ k.1),
        IfSome_then v.stub f.2 (λ n k. ap (λ l. outbox_at l n.session) is.1 ∙ k.1),
      ))

  pub looks : (slots id : ℕ) (me : Known N × List (ℕ × Unit {0}))
      → Allows Holds slots id me 0 (λ n. n) (λ found w. Learns me.0 × (w ≡ me))
  looks slots id me s h len at small = (
    me.0,
    keeps,
    tt,
    subst Kept (sym (set_again s.views id me.0 at)) h,
    (learned h.own h.rows h.mark_of h.stub_of id me.0 (h.fits id me.0 at), refl),
  )

  pub clears : (slots id : ℕ) (me : Known N × List (ℕ × Unit {0}))
      → Allows Holds slots id me 0 (λ n. n) (λ found w. Learns me.0 × (w ≡ (only_rows me.0, me.1)))
  clears slots id me s h len at small =
      let mine = h.fits id me.0 at in
      let F = Fits h.own h.rows h.mark_of h.stub_of in (
        only_rows me.0,
        keeps,
        tt,
        record {
          own = h.own;
          rows = h.rows;
          mark_of = h.mark_of;
          stub_of = h.stub_of;
          fits = all_set F s.views id (only_rows me.0) (mine.0, tt, tt) (λ j u _ e. h.fits j u e);
        },
        (learned h.own h.rows h.mark_of h.stub_of id me.0 mine, refl),
      )

  -- one more piece is done of the session whose mark was taken in, and the mark goes to a new seat
  advances : (id : ℕ) (xs : List (Row N)) (m : MarkClaim) (p : Piece)
      → (let v : Known N = record { rows = Some xs; mark = Some m; stub = None } in
      Splits Holds id v (advancing (Some p) v) (advanced (Some p) v))
  advances id xs m p s h at =
      let v : Known N = record { rows = Some xs; mark = Some m; stub = None } in
      let mine = h.fits id v at in
      let now = with_piece xs m.session p in
      let right = advanced (Some p) v in
      let vs = set s.views id (keeper now) in
      let marks = moved h.mark_of m.session (length vs) in
      let F = Fits h.own now marks h.stub_of in
      let has : pieces_at xs m.session ≡ Some m.pieces = ap (λ l. pieces_at l m.session) mine.0.1 ∙ mine.1.1 in
      record {
        own = h.own;
        rows = now;
        mark_of = marks;
        stub_of = h.stub_of;
        fits =
            all_end F vs right
            (tt, (moved_here h.mark_of m.session (length vs), piece_here xs m.session p m.pieces has), tt)
            (all_set F s.views id (keeper now) ((mine.0.0, refl), tt, tt)
            (λ j u apart e. stays h.own h.rows now h.mark_of marks h.stub_of h.stub_of j
            (λ ys is. absurd (apart (is.0 ∙ sym mine.0.0)))
            (λ k is.
            let other : k.session ≢ m.session = λ same. apart (sym is.0 ∙ ap h.mark_of same ∙ mine.1.0) in (
              moved_else h.mark_of m.session (length vs) k.session other ∙ is.0,
              piece_else xs m.session p k.session other ∙ ap (λ l. pieces_at l k.session) mine.0.1 ∙ is.1,
            ))
            (λ n is. (is.0, piece_outbox xs m.session p n.session ∙ ap (λ l. outbox_at l n.session) mine.0.1 ∙ is.1))
            u (h.fits j u e)));
      }

  pub advances_as : (id : ℕ) (v : Known N) (xs : List (Row N)) (m : MarkClaim) (o : Option Piece) (p : Piece)
      → v ≡ record { rows = Some xs; mark = Some m; stub = None } → o ≡ Some p
      → Splits Holds id v (advancing o v) (advanced o v)
  advances_as id v xs m o p is piece = subst
      (λ (q : Option Piece). Splits Holds id v (advancing q v) (advanced q v)) (sym piece)
      (subst (λ (u : Known N). Splits Holds id u (advancing (Some p) u) (advanced (Some p) u)) (sym is)
      (advances id xs m p))

  -- ---- what the steps of a call come to

  pub let_in_own : (v : Known N) (xs : List (Row N)) (o : Option (Row N)) (r : Row N) → v ≡ keeper xs → o ≡ Some r
      → without_stub (admitting o v) ≡ keeper (r ∷ xs)
  let_in_own v xs o r is entry = rw (entry, is) refl

  pub let_in_mark : (v : Known N) (xs : List (Row N)) (o : Option (Row N)) (r : Row N) → v ≡ keeper xs → o ≡ Some r
      → admitted o v ≡ only_mark (Some (record { session = r.session; pieces = r.pieces }))
  let_in_mark v xs o r is entry = rw (entry, is) refl

  pub let_in_stub : (v : Known N) (xs : List (Row N)) (o : Option (Row N)) (r : Row N) → v ≡ keeper xs → o ≡ Some r
      → only_stub (admitting o v).stub ≡ only_stub (Some (record { session = r.session; outbox = r.outbox }))
  let_in_stub v xs o r is entry = rw (entry, is) refl

  pub with_mark_in : (v w : Known N) (xs : List (Row N)) (m : MarkClaim) → v ≡ keeper xs → w ≡ only_mark (Some m)
      → joined v w ≡ record { rows = Some xs; mark = Some m; stub = None }
  with_mark_in v w xs m is that = rw (is, that) refl

  pub turned_own : (v : Known N) (xs : List (Row N)) (m : MarkClaim) (o : Option Piece) (p : Piece)
      → v ≡ record { rows = Some xs; mark = Some m; stub = None } → o ≡ Some p
      → advancing o v ≡ keeper (with_piece xs m.session p)
  turned_own v xs m o p is piece = rw (piece, is) refl

  pub turned_mark : (v : Known N) (xs : List (Row N)) (m : MarkClaim) (o : Option Piece) (p : Piece)
      → v ≡ record { rows = Some xs; mark = Some m; stub = None } → o ≡ Some p
      → advanced o v ≡ only_mark (Some (record { session = m.session; pieces = m.pieces ++ p ∷ [] }))
  turned_mark v xs m o p is piece = rw (piece, is) refl

  pub with_both_in : (v w u : Known N) (xs : List (Row N)) (m : MarkClaim) (n : Option (StubClaim N))
      → v ≡ keeper xs → w ≡ only_mark (Some m) → u ≡ only_stub n → joined (joined v w) u
      ≡ record { rows = Some xs; mark = Some m; stub = n }
  with_both_in v w u xs m None is that other = rw (is, that, other) refl
  with_both_in v w u xs m (Some n) is that other = rw (is, that, other) refl
