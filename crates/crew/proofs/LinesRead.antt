-- Lines are done as they are read.
use Rattle.std.proofs.Common.{◌≡◌, ℕ, Bool, true, false, List, [], ◌++◌, take, drop, Option}
use Rattle.std.proofs.Common.{refl, ap, sym, ◌∙◌, append_assoc, append-nil, ◌⊎◌, inl, inr}
use Rattle.std.proofs.KnownBytes.{Consumes-nil, Consumes-trans}
use Rattle.std.proofs.lemmas.List.{take-append-drop}
use Rattle.line_grammar.specs.declared.splitter.Piece.{Piece}
use Rattle.line_grammar.specs.Lines.{lines, left_by}
use Rattle.session_io.specs.declared.reading.Next.{Next}
use Rattle.session_io.specs.declared.reading.Next.TheVariants.{More, Short, Nothing, Left}
use Rattle.session_io.specs.Taking.{Taken}
use Rattle.session_io.specs.Doing.{DoesFront, DoesRead, is_left, is_over}
use Rattle.crew.specs.Doing.{DoesLines}
use Rattle.crew.specs.Taking.{HasDone}

-- what is done of pieces of which so many were done
pub front_of : (old new pieces : List Piece) (n : ℕ) → new ≡ old ++ take n pieces → DoesFront old new pieces
front_of old new pieces n grown = record {
  done = take n pieces;
  left = drop n pieces;
  parts = sym (take-append-drop n pieces);
  grown = grown;
}

-- nothing is read yet
pub begins : (known : Option (List ℕ)) (done : List Piece) → HasDone known known done done (left_by [])
begins known done = record { octets = []; read = Consumes-nil known; done = sym (append-nil done); kept = refl }

-- octets come by a read of an intake that has no lines left, and all their lines are done
pub goes_on : (a b c : Option (List ℕ)) (old mid new : List Piece) (was now : Taken) → HasDone a b old mid was.kept
    → was.pieces ≡ [] → now.pieces ≡ [] → DoesRead b c was now mid new true → HasDone a c old new now.kept
goes_on a b c old mid new was now done none none_left read =
    let n = read.next done.octets done.kept in
    let all : n.pieces ≡ n.front.done = ap (λ l. l ++ n.pieces) (sym none) ∙ n.front.parts ∙ ap
    (λ l. n.front.done ++ l) (sym (n.leaves refl) ∙ none_left) ∙ append-nil n.front.done in
    record {
      octets = done.octets ++ read.octets;
      read = Consumes-trans a b c done.octets read.octets done.read read.read;
      done =
          n.front.grown ∙ ap (λ l. l ++ n.front.done) done.done ∙ append_assoc old (lines done.octets) n.front.done
          ∙ ap (λ l. old ++ l) (ap (λ l. lines done.octets ++ l) (sym all) ∙ sym n.adds);
      kept = n.keeps refl;
    }

-- all lines are done
pub ends_whole : (a b : Option (List ℕ)) (old new : List Piece) (kept : Option (List ℕ)) (all : Bool)
    → HasDone a b old new kept → DoesLines a b old new all
ends_whole a b old new kept all done = record {
  octets = done.octets;
  read = done.read;
  front = record {
    done = lines done.octets;
    left = [];
    parts = sym (append-nil (lines done.octets));
    grown = done.done;
  };
  whole = λ e. done.done;
}

-- octets come by a read of an intake that has no lines left, and the first of their lines are done
pub ends_by : (a b c : Option (List ℕ)) (old mid new : List Piece) (was now : Taken) (all : Bool)
    → HasDone a b old mid was.kept → was.pieces ≡ [] → (all ≡ true → now.pieces ≡ [])
    → DoesRead b c was now mid new all → DoesLines a c old new all
ends_by a b c old mid new was now true done none none_left read = ends_whole a c old new now.kept true
    (goes_on a b c old mid new was now done none (none_left refl) read)
ends_by a b c old mid new was now false done none none_left read =
    let n = read.next done.octets done.kept in
    record {
      octets = done.octets ++ read.octets;
      read = Consumes-trans a b c done.octets read.octets done.read read.read;
      front = record {
        done = lines done.octets ++ n.front.done;
        left = n.front.left;
        parts =
            n.adds ∙ ap (λ l. lines done.octets ++ l) (ap (λ l. l ++ n.pieces) (sym none) ∙ n.front.parts)
            ∙ sym (append_assoc (lines done.octets) n.front.done n.front.left);
        grown = n.front.grown ∙ ap (λ l. l ++ n.front.done) done.done
            ∙ append_assoc old (lines done.octets) n.front.done;
      };
      whole = λ e. absurd (let f : false ≡ true = e in cc);
    }

-- reading goes on
pub not_over : (n : Next) → (n ≡ More) ⊎ ((n ≡ Short) ⊎ ((n ≡ Nothing) ⊎ (n ≡ Left))) → is_over n ≡ false
not_over n (inl e) = ap is_over e
not_over n (inr (inl e)) = ap is_over e
not_over n (inr (inr (inl e))) = ap is_over e
not_over n (inr (inr (inr e))) = ap is_over e

-- no lines are left where much isn't found to wait
pub not_left : (n : Next) → (is_left n ≡ true → ⊥) → is_left n ≡ false
not_left n never = at (is_left n) never
  where
    at : (b : Bool) → (b ≡ true → ⊥) → b ≡ false
    at true never = absurd (never refl)
    at false never = refl
