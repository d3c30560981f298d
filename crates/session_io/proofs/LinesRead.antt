-- Lines are done as they are read.
use Rattle.std.proofs.Common.{◌≡◌, ℕ, Bool, true, false, cond, List, [], ◌∷◌, ◌++◌, take, drop, Option}
use Rattle.std.proofs.Common.{refl, ap, sym, ◌∙◌, append_assoc, append-nil, ◌<◌, ◌+◌, length, subst, Some, None}
use Rattle.std.proofs.KnownBytes.{Consumes-nil}
use Rattle.std.proofs.lemmas.List.{take-append-drop, take_more, drop_more}
use Rattle.std.specs.Prelude.{Result, Ok, Err, OnOk, IfSome}
use Rattle.std.specs.Io.KnownBytes.{Consumes}
use Rattle.std.specs.List.{flat_map}
use Rattle.line_grammar.specs.declared.splitter.Piece.{Piece}
use Rattle.line_grammar.specs.Lines.{is_line_end, longer, ended_lines, piece_of, lines, left_by}
use Rattle.receive_buffer.specs.Taking.{TakesIn, Taken}
use Rattle.session_io.specs.Doing.{DoesRead}
use Rattle.session_io.specs.Filling.{DoesPieces, Fills, IsFront}

-- of the lines that an intake has, so many are done
pub does_pieces : (was now : Taken) (old new : List Piece) (all : Bool) (n : ℕ) → new ≡ old ++ take n was.pieces
    → (all ≡ true → now.pieces ≡ drop n was.pieces) → now.kept ≡ was.kept → DoesPieces was now old new all
does_pieces was now old new all n grown leaves keeps = record {
  front = record {
    done = take n was.pieces;
    left = drop n was.pieces;
    parts = sym (take-append-drop n was.pieces);
    grown = grown;
  };
  leaves = leaves;
  keeps = keeps;
}

-- nothing is read, and none is done
pub does_none : (was : Taken) (old : List Piece) → DoesPieces was was old old true
does_none was old = does_pieces was was old old true 0 (sym (append-nil old)) (λ e. refl) refl

-- nothing is read
pub fills_nothing : (a : Option (List ℕ)) (was : Taken) → Fills a a was was
fills_nothing a was = record {
  octets = [];
  read = Consumes-nil a;
  feeds = λ stream is. record {
    added = [];
    keeps = is ∙ ap left_by (sym (append-nil stream));
    grows = sym (append-nil was.pieces);
    adds = ap lines (append-nil stream) ∙ sym (append-nil (lines stream));
  };
}

-- no lines were left, and what was read ends these
pub fills_in : (a b : Option (List ℕ)) (was now : Taken) → was.pieces ≡ []
    → TakesIn a b was.kept now.kept now.pieces → Fills a b was now
fills_in a b was now none takes = record {
  octets = takes.octets;
  read = takes.read;
  feeds = λ stream is. let f = takes.feeds stream is in record {
    added = f.added;
    keeps = f.keeps;
    grows = f.grows ∙ ap (λ (l : List Piece). l ++ f.added) (sym none);
    adds = f.adds;
  };
}

-- of the lines that an intake has after a read the first are done
pub does_read : (a b : Option (List ℕ)) (was mid now : Taken) (old new : List Piece) (all : Bool)
    → Fills a b was mid → DoesPieces mid now old new all → DoesRead a b was now old new all
does_read a b was mid now old new all fills does = record {
  octets = fills.octets;
  read = fills.read;
  next = λ stream is. let f = fills.feeds stream is in record {
    pieces = f.added;
    adds = f.adds;
    front = record {
      done = does.front.done;
      left = does.front.left;
      parts = sym f.grows ∙ does.front.parts;
      grown = does.front.grown;
    };
    leaves = does.leaves;
    keeps = λ e. does.keeps ∙ f.keeps;
  };
}

-- ---- octets come that aren't split

-- lines that go on: those that ended before stay at the front
longer_more : (b : ℕ) (xs ys : List (List ℕ)) → (zs : List (List ℕ)) × (longer b (xs ++ ys) ≡ longer b xs ++ zs)
longer_more b [] ys = (longer b ys, refl)
longer_more b (x ∷ xs) ys = (ys, refl)

ended_more : (xs ys : List ℕ) → (zs : List (List ℕ)) × (ended_lines (xs ++ ys) ≡ ended_lines xs ++ zs)
ended_more [] ys = (ended_lines ys, refl)
ended_more (b ∷ bs) ys = at (is_line_end b) (ended_more bs ys)
  where
    at : (e : Bool) → ((zs : List (List ℕ)) × (ended_lines (bs ++ ys) ≡ ended_lines bs ++ zs)) → (zs : List (List ℕ))
        × (cond e
        ([] ∷ ended_lines (bs ++ ys)) (longer b (ended_lines (bs ++ ys)))
        ≡ cond e ([] ∷ ended_lines bs) (longer b (ended_lines bs)) ++ zs)
    at true more = (more.0, ap (λ l. [] ∷ l) more.1)
    at false more = let l = longer_more b (ended_lines bs) more.0 in (l.0, ap (longer b) more.1 ∙ l.1)

pieces_more : (xs ys : List (List ℕ)) → flat_map piece_of (xs ++ ys) ≡ flat_map piece_of xs ++ flat_map piece_of ys
pieces_more [] ys = refl
pieces_more (x ∷ xs) ys = ap (λ l. piece_of x ++ l) (pieces_more xs ys)
    ∙ sym (append_assoc (piece_of x) (flat_map piece_of xs) (flat_map piece_of ys))

lines_more : (xs ys : List ℕ) → (zs : List Piece) × (lines (xs ++ ys) ≡ lines xs ++ zs)
lines_more xs ys = let more = ended_more xs ys in
    (flat_map piece_of more.0, ap (flat_map piece_of) more.1 ∙ pieces_more (ended_lines xs) more.0)

-- no lines were left, and none came, or they were lost
pub reads_none : (a b : Option (List ℕ)) (was now : Taken) (old : List Piece) (all : Bool) → was.pieces ≡ []
    → now.pieces ≡ [] → (all ≡ true → TakesIn a b was.kept now.kept []) → ((octets : List ℕ) × Consumes a b octets)
    → DoesRead a b was now old old all
reads_none a b was now old true none none_now takes read =
    let mid : Taken = record { kept = now.kept; pieces = [] } in
    does_read a b was mid now old old true (fills_in a b was mid none (takes refl))
    (record {
      front = record { done = []; left = []; parts = refl; grown = sym (append-nil old) };
      leaves = λ e. none_now;
      keeps = refl;
    })
reads_none a b was now old false none none_now takes read = record {
  octets = read.0;
  read = read.1;
  next = λ stream is. let more = lines_more stream read.0 in record {
    pieces = more.0;
    adds = more.1;
    front = record { done = []; left = more.0; parts = ap (λ l. l ++ more.0) none; grown = sym (append-nil old) };
    leaves = λ e. absurd (let f : false ≡ true = e in cc);
    keeps = λ e. absurd (let f : false ≡ true = e in cc);
  };
}

-- what is so of an answer that is no error
pub unless_err : {A E : Type 0} (r : Result A E) (P : Type 0) → ((e : E) → r ≡ Err e → ⊥) → OnOk r P → P
unless_err (Ok x) P not p = p
unless_err (Err e) P not p = absurd (not e refl)

-- ---- the line that comes next

-- of lines of which so many are done the first that is left comes next, and then one more is done
pub next_line : (all : List Piece) (n : ℕ) (piece : Piece) (left : List Piece) → n < length all
    → drop n all ≡ piece ∷ left → (take (n + 1) all ≡ take n all ++ piece ∷ []) × (left ≡ drop (n + 1) all)
next_line all n piece left more next =
    let parts = sym next ∙ drop_more all n piece more in
    (take_more all n piece more ∙ ap (λ l. take n all ++ l) (sym (ap (take 1) parts)), ap (drop 1) parts)

-- what was read of lines goes on to be the first of them as one is taken
pub next_ahead : (old new : List Piece) (line : Option Piece) (all left : List Piece) (piece : Piece) → IsFront old all
    → all ≡ piece ∷ left → IfSome line (λ l. old ≡ l ∷ new) → (line ≡ None → new ≡ []) → IsFront new left
next_ahead old new (Some l) all left piece front parts some none =
    let read = subst (λ o. IsFront o (piece ∷ left)) some (subst (λ a. IsFront old a) parts front) in ap (drop 1) read
next_ahead old new None all left piece front parts some none =
    subst (λ n. IsFront n left) (sym (none refl)) refl
