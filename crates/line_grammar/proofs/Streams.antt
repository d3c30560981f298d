-- What the lines of a stream, and what stands after its last line end, become when more octets come.
use Rattle.std.proofs.Common.{◌≡◌, ℕ, Bool, true, false, ◌||◌, cond, List, [], ◌∷◌, ◌++◌, length, refl, ap, sym, ◌∙◌}
use Rattle.std.proofs.Common.{inl, inr, arith, append-nil, append_assoc, ◌+◌, ◌-◌, ◌<◌, ◌≤◌, suc, take, drop, get_or}
use Rattle.std.specs.Prelude.{Some, None, Option}
use Rattle.std.specs.List.{flat_map, list_any, position, position_or_len}
use Rattle.std.proofs.lemmas.List.{take_rest, take_all, take-append-le, length-take}
use Rattle.std.proofs.lemmas.List.Sums.{split_at_first, passes_at_first}
use Rattle.line_grammar.specs.declared.splitter.Piece.{Piece}
use Rattle.line_grammar.specs.declared.splitter.Piece.TheVariants.{Line, TooLong}
use Rattle.line_grammar.proofs.Lengths.{kept_with-kept_of}
use Rattle.line_grammar.proofs.Spaces.{position_some, position_none}
use Rattle.std.proofs.lemmas.Bool.{cases_Bool, or_parts, or_right, or_cases}
use Rattle.std.proofs.lemmas.List.Concat.{flat_map-append}
use Rattle.line_grammar.specs.Lines.{is_line_end, ended_lines, open_line, is_too_long}
use Rattle.line_grammar.specs.Lines.{piece_of, lines, left_by, kept_of, Feeds}
use Rattle.line_grammar.specs.Steps.{kept_with, ended_piece, EndsLine}

-- ---- octets without a line end

ended-none : (h : List ℕ) → list_any is_line_end h ≡ false → ended_lines h ≡ []
ended-none [] n = refl
ended-none (b ∷ bs) n =
    let none = or_parts (is_line_end b) (list_any is_line_end bs) n in
    rw (none.0, ended-none bs none.1) refl

pub unfinished-none : (h : List ℕ) → list_any is_line_end h ≡ false → open_line h ≡ h
unfinished-none [] n = refl
unfinished-none (b ∷ bs) n =
    let none = or_parts (is_line_end b) (list_any is_line_end bs) n in
    rw (n, unfinished-none bs none.1) refl

pub ended-append : (s h : List ℕ) → list_any is_line_end h ≡ false → ended_lines (s ++ h) ≡ ended_lines s
ended-append [] h n = ended-none h n
ended-append (b ∷ bs) h n = rw (ended-append bs h n) refl

any-append_none : (s h : List ℕ) → list_any is_line_end h ≡ false → list_any is_line_end (s ++ h)
    ≡ list_any is_line_end s
any-append_none [] h n = n
any-append_none (b ∷ bs) h n = ap (λ c. is_line_end b || c) (any-append_none bs h n)

pub unfinished-append : (s h : List ℕ) → list_any is_line_end h ≡ false → open_line (s ++ h) ≡ open_line s ++ h
unfinished-append [] h n = unfinished-none h n
unfinished-append (b ∷ bs) h n =
    rw (any-append_none bs h n, unfinished-append bs h n)
    (elim (is_line_end b || list_any is_line_end bs) as (λ c. cond c (open_line bs ++ h) (b ∷ (open_line bs ++ h))
    ≡ cond c (open_line bs) (b ∷ open_line bs) ++ h) [ true ↦ refl | false ↦ refl ])

-- ---- octets with a line end after h

any_end : (h t : List ℕ) (e : ℕ) → is_line_end e ≡ true → list_any is_line_end (h ++ e ∷ t) ≡ true
any_end [] t e is = rw is refl
any_end (b ∷ bs) t e is = or_right (is_line_end b) _ (any_end bs t e is)

any_end_after : (s x : List ℕ) → list_any is_line_end x ≡ true → list_any is_line_end (s ++ x) ≡ true
any_end_after [] x is = is
any_end_after (b ∷ bs) x is = or_right (is_line_end b) _ (any_end_after bs x is)

any_end_before : (s x : List ℕ) → list_any is_line_end s ≡ true → list_any is_line_end (s ++ x) ≡ true
any_end_before [] x is = absurd (cc)
any_end_before (b ∷ bs) x is =
    elim (or_cases (is_line_end b) (list_any is_line_end bs) is) [
      | inl first ↦ rw first refl
      | inr more ↦ or_right (is_line_end b) _ (any_end_before bs x more)
    ]

pub unfinished-end : (h t : List ℕ) (e : ℕ) → is_line_end e ≡ true → open_line (h ++ e ∷ t) ≡ open_line t
unfinished-end [] t e is = rw is refl
unfinished-end (b ∷ bs) t e is = rw (or_right (is_line_end b) _ (any_end bs t e is)) (unfinished-end bs t e is)

pub unfinished-append_end : (s h t : List ℕ) (e : ℕ) → is_line_end e ≡ true → open_line (s ++ (h ++ e ∷ t))
    ≡ open_line t
unfinished-append_end s h t e is = ap open_line (sym (append_assoc s h (e ∷ t))) ∙ unfinished-end (s ++ h) t e is

ended-end : (h t : List ℕ) (e : ℕ) → list_any is_line_end h ≡ false → is_line_end e ≡ true
    → ended_lines (h ++ e ∷ t) ≡ h ∷ ended_lines t
ended-end [] t e n is = rw is refl
ended-end (b ∷ bs) t e n is =
    let none = or_parts (is_line_end b) (list_any is_line_end bs) n in
    rw (none.0, ended-end bs t e none.1 is) refl

some_ended : (h : List ℕ) → list_any is_line_end h ≡ true → (line : List ℕ) × (more : List (List ℕ))
    × (ended_lines h ≡ line ∷ more)
some_ended [] a = cc
some_ended (b ∷ bs) a =
    elim (cases_Bool (is_line_end b)) [
      | inl is ↦ ([], ended_lines bs, rw is refl)
      | inr not ↦
          let rest = some_ended bs (rw not at a) in
          (b ∷ rest.0, rest.1, rw (not, rest.2) refl)
    ]

pub ended-append_end : (s h t : List ℕ) (e : ℕ) → list_any is_line_end h ≡ false → is_line_end e ≡ true
    → ended_lines (s ++ (h ++ e ∷ t)) ≡ ended_lines s ++ (open_line s ++ h) ∷ ended_lines t
ended-append_end [] h t e n is = ended-end h t e n is
ended-append_end (b ∷ bs) h t e n is =
    elim (cases_Bool (is_line_end b)) [
      | inl end ↦ rw (end, ended-append_end bs h t e n is) refl
      | inr not ↦ rw (not, ended-append_end bs h t e n is)
          (elim (cases_Bool (list_any is_line_end bs)) [
            | inl some ↦ let first = some_ended bs some in rw (some, first.2) refl
            | inr none ↦ rw (none, ended-none bs none) refl
          ])
    ]

-- ---- the lines

pub lines-append : (s h : List ℕ) → list_any is_line_end h ≡ false → lines (s ++ h) ≡ lines s
lines-append s h n = ap (flat_map piece_of) (ended-append s h n)

pub lines-append_end : (s h t : List ℕ) (e : ℕ) → list_any is_line_end h ≡ false → is_line_end e ≡ true
    → lines (s ++ (h ++ e ∷ t)) ≡ lines s ++ (piece_of (open_line s ++ h) ++ lines t)
lines-append_end s h t e n is = ap (flat_map piece_of) (ended-append_end s h t e n is)
    ∙ flat_map-append piece_of (ended_lines s) _

pub ended_piece-kept_of : (line : List ℕ) → ended_piece (kept_of line) ≡ piece_of line
ended_piece-kept_of [] = refl
ended_piece-kept_of (b ∷ bs) =
    elim (is_too_long (b ∷ bs)) as (λ c. ended_piece (cond c None (Some (b ∷ bs)))
    ≡ cond c TooLong (Line (b ∷ bs)) ∷ []) [ true ↦ refl | false ↦ refl ]

-- octets with no line end come
pub fed_within : (stream octets : List ℕ) (kept new : Option (List ℕ)) (out : List Piece)
    → list_any is_line_end octets ≡ false → kept ≡ left_by stream → new ≡ kept_with kept octets
    → Feeds stream octets new out out
fed_within stream octets kept new out none was is =
    record {
      added = [];
      keeps = is ∙ ap (λ k. kept_with k octets) was ∙ kept_with-kept_of (open_line stream) octets
          ∙ ap kept_of (sym (unfinished-append stream octets none));
      grows = sym (append-nil out);
      adds = lines-append stream octets none ∙ sym (append-nil (lines stream));
    }

-- octets come where no line is unfinished
unfinished-fresh : (s octets : List ℕ) → open_line s ≡ [] → open_line (s ++ octets) ≡ open_line octets
unfinished-fresh [] octets none = refl
unfinished-fresh (b ∷ bs) octets none =
    elim (cases_Bool (is_line_end b || list_any is_line_end bs)) [
      | inl some ↦ rw (any_end_before (b ∷ bs) octets some) (unfinished-fresh bs octets (rw some at none))
      | inr isnt ↦ let no : b ∷ open_line bs ≡ [] = rw isnt at none in absurd (cc)
    ]

ended-fresh : (s octets : List ℕ) → open_line s ≡ [] → ended_lines (s ++ octets) ≡ ended_lines s ++ ended_lines octets
ended-fresh [] octets none = refl
ended-fresh (b ∷ bs) octets none =
    elim (cases_Bool (is_line_end b || list_any is_line_end bs)) [
      | inl some ↦
          let rest = ended-fresh bs octets (rw some at none) in
          elim (cases_Bool (is_line_end b)) [
            | inl end ↦ rw (end, rest) refl
            | inr not ↦ let first = some_ended bs (rw not at some) in rw (not, rest, first.2) refl
          ]
      | inr isnt ↦ let no : b ∷ open_line bs ≡ [] = rw isnt at none in absurd (cc)
    ]

nothing_kept : (line : List ℕ) → kept_of line ≡ Some [] → line ≡ []
nothing_kept [] e = refl
nothing_kept (b ∷ bs) e =
    elim (cases_Bool (is_too_long (b ∷ bs))) [
      | inl is ↦ let no : None ≡ Some [] = rw is at e in absurd (cc)
      | inr not ↦ let no : Some (b ∷ bs) ≡ Some [] = rw not at e in absurd (cc)
    ]

pub fed_fresh : (stream octets : List ℕ) (kept next : Option (List ℕ)) (old new : List Piece) → kept ≡ Some []
    → kept ≡ left_by stream → next ≡ left_by octets → new ≡ old ++ lines octets → Feeds stream octets next old new
fed_fresh stream octets kept next old new is was left grown =
    let fresh = nothing_kept (open_line stream) (sym was ∙ is) in
    record {
      added = lines octets;
      keeps = left ∙ ap kept_of (sym (unfinished-fresh stream octets fresh));
      grows = grown;
      adds = ap (flat_map piece_of) (ended-fresh stream octets fresh)
          ∙ flat_map-append piece_of (ended_lines stream) _;
    }

-- octets with a line end come: the piece of the line that goes on, then the lines of the rest
pub fed_over : (stream octets front rest : List ℕ) (kept ended_kept next : Option (List ℕ)) (piece : List Piece)
    (old new : List Piece) → EndsLine octets front rest → kept ≡ left_by stream
    → ended_kept ≡ kept_with kept front → piece ≡ ended_piece ended_kept → next ≡ left_by rest
    → new ≡ old ++ (piece ++ lines rest) → Feeds stream octets next old new
fed_over stream octets front rest kept ended_kept next piece old new ends was is made left grown =
    let whole : stream ++ octets ≡ stream ++ (front ++ ends.line_end ∷ rest) = ap (λ x. stream ++ x) ends.whole in
    let first : piece ≡ piece_of (open_line stream ++ front) = made
    ∙ ap ended_piece (is ∙ ap (λ k. kept_with k front) was ∙ kept_with-kept_of (open_line stream) front)
    ∙ ended_piece-kept_of (open_line stream ++ front) in
    record {
      added = piece ++ lines rest;
      keeps = left ∙ ap kept_of
          (sym (ap open_line whole ∙ unfinished-append_end stream front rest ends.line_end ends.is_end));
      grows = grown;
      adds = ap lines whole ∙ lines-append_end stream front rest ends.line_end ends.none_before ends.is_end ∙ ap
          (λ x. lines stream ++ (x ++ lines rest)) (sym first);
    }

-- the lines of a stream from one line end on
pub lines-end : (front rest : List ℕ) (e : ℕ) → list_any is_line_end front ≡ false → is_line_end e ≡ true
    → lines (front ++ e ∷ rest) ≡ piece_of front ++ lines rest
lines-end front rest e none is = lines-append_end [] front rest e none is

-- ---- what an answer of `position` says

pub none_before_first : (p : ℕ → Bool) (xs : List ℕ) → list_any p (take (position_or_len p xs) xs) ≡ false
none_before_first p [] = refl
none_before_first p (b ∷ bs) =
    elim (cases_Bool (p b)) [
      | inl is ↦ rw is refl
      | inr fails ↦
          let more : 1 + position_or_len p bs ≡ suc (position_or_len p bs) = omega arith in
          let step : position_or_len p (b ∷ bs) ≡ suc (position_or_len p bs) = rw fails more in
          rw step (rw fails (none_before_first p bs))
    ]

pub ends_at : (xs : List ℕ) (i : ℕ) → position is_line_end xs ≡ Some i
    → EndsLine xs (take i xs) (take (length xs - (i + 1)) (drop (i + 1) xs))
ends_at xs i e =
    let at_i = position_some is_line_end xs i e in
    let more : position_or_len is_line_end xs < length xs = omega (arith, at_i.0, at_i.1) in
    let rest : take (length xs - (i + 1)) (drop (i + 1) xs) ≡ drop (position_or_len is_line_end xs + 1) xs =
    take_rest xs (i + 1) ∙ ap (λ (n : ℕ). drop (n + 1) xs) (sym at_i.0) in
    record {
      line_end = get_or xs (position_or_len is_line_end xs) 0;
      whole = rw (rest, ← at_i.0) (split_at_first is_line_end xs 0 more);
      is_end = passes_at_first is_line_end xs 0 more;
      none_before = rw (← at_i.0) (none_before_first is_line_end xs);
    }

pub ends_nowhere : (xs : List ℕ) → position is_line_end xs ≡ None → list_any is_line_end xs ≡ false
ends_nowhere xs e =
    let len : length xs ≤ position_or_len is_line_end xs = omega (arith, position_none is_line_end xs e) in
    rw (← take_all (position_or_len is_line_end xs) xs len) (none_before_first is_line_end xs)

pub ruleset line_ends = (ends_at, ends_nowhere)

-- what stood at the front stays there where more comes
pub stays_with : (front xs added ys : List Piece) → take (length front) xs ≡ front → ys ≡ xs ++ added
    → take (length front) ys ≡ front
stays_with front xs added ys stood is =
    let short : length front ≤ length xs =
    omega (arith, length-take (length front) xs, ap length stood) in
    ap (take (length front)) is ∙ take-append-le (length front) xs added short ∙ stood

pub lines-none : (xs : List ℕ) → list_any is_line_end xs ≡ false → lines xs ≡ []
lines-none xs none = ap (flat_map piece_of) (ended-none xs none)
