-- What waits, after each step by which it goes out.
use Rattle.std.proofs.Common.{◌≡◌, ℕ, Bool, List, [], ◌∷◌, ◌++◌, Option, drop, refl, sym}
use Rattle.std.proofs.Common.{ap, ◌∙◌, subst, append_assoc, append-nil}
use Rattle.std.proofs.KnownBytes.{Appends-nil}
use Rattle.tungstenite.specs.Content.{Content}
use Rattle.tungstenite.specs.Socket.{Socket, Flushed}
use Rattle.websocket_front.specs.declared.subprotocol.Subprotocol.{Subprotocol}
use Rattle.websocket_front.specs.declared.counted_socket.Causes.{Causes}
use Rattle.websocket_front.specs.Lines.{lines}
use Rattle.websocket_front.specs.Frames.{message, frame_of, frame, frames}
use Rattle.websocket_front.specs.Fronted.{Fronted, waiting, GoesOut, Gains, IsFramed}
use Rattle.websocket_front.proofs.Lines.{lines_none}

-- a text that is put where nothing was left
pub waits_with : (p : Subprotocol) (output rest text : List ℕ) → rest ≡ []
    → (output ++ frames p (lines rest)) ++ frames p (lines text) ≡ output ++ frames p (lines text)
waits_with p output rest text none =
    ap (λ r. (output ++ frames p (lines r)) ++ frames p (lines text)) none
    ∙ ap (λ l. (output ++ frames p l) ++ frames p (lines text)) lines_none
    ∙ ap (λ o. o ++ frames p (lines text)) (append-nil output)

-- nothing waits where the output is empty and no line is left
pub waits_none : (p : Subprotocol) (output rest : List ℕ) → output ≡ [] → rest ≡ []
    → output ++ frames p (lines rest) ≡ []
waits_none p output rest out none =
    ap (λ o. o ++ frames p (lines rest)) out ∙ ap (λ r. frames p (lines r)) none ∙ ap (frames p) lines_none

module _ {S : Type 0} where
  -- what waits where no line is left is the output
  idle : (f : Fronted S) → f.rest ≡ [] → waiting f ≡ f.socket.output
  idle f none = ap (λ r. f.socket.output ++ frames f.subprotocol (lines r)) none ∙ ap
      (λ l. f.socket.output ++ frames f.subprotocol l) lines_none ∙ append-nil f.socket.output

  abbrev pub fronted : Socket S → Causes → Subprotocol → List ℕ → Bool → Fronted S
  fronted s causes p rest is_open =
      record { socket = s; causes = causes; subprotocol = p; rest = rest; is_open = is_open }

  -- a message of the line at the front of what is left is in the output
  pub framed : (contents : S → Option (List ℕ)) (p : Subprotocol) (left text : List ℕ) (old new : Socket S)
      (m : Content) (line : List ℕ) (next : ℕ) → m ≡ message p line → lines left ≡ line ∷ lines (drop next text)
      → Gains contents old new (frame_of m)
      → IsFramed contents p left text old new next
  framed contents p left text old new m line next is parts gained =
      record {
        line = line;
        parts = parts;
        gained = subst
            (λ (c : Content). Gains contents old new (frame_of c)) is gained;
      }

  -- the first line's frame joins the output
  pub goes_framed : (contents : S → Option (List ℕ)) (p : Subprotocol) (old new : Socket S) (left text : List ℕ)
      (causes : Causes) (next : ℕ) (is_open : Bool) → IsFramed contents p left text old new next
      → GoesOut contents old.stream (old.output ++ frames p (lines left))
      (fronted new causes p (drop next text) is_open)
  goes_framed contents p old new left text causes next is_open is =
      let others = frames p (lines (drop next text)) in
      let f = frame p is.line in
      record {
        gone = is.gained.gone;
        appended = is.gained.appended;
        parts =
            ap (λ l. old.output ++ frames p l) is.parts
            ∙ sym (append_assoc old.output f others)
            ∙ ap (λ l. l ++ others) is.gained.parts
            ∙ append_assoc is.gained.gone new.output others;
      }

  -- a frame joins the output, and no line is left
  pub goes_closed : (contents : S → Option (List ℕ)) (p : Subprotocol)
      (old new : Socket S) (causes : Causes) (f : List ℕ) (is_open : Bool) → Gains contents old new f
      → GoesOut contents old.stream (old.output ++ f) (fronted new causes p [] is_open)
  goes_closed contents p old new causes f is_open gained =
      record {
        gone = gained.gone;
        appended = gained.appended;
        parts = gained.parts ∙ ap
            (λ l. gained.gone ++ l) (sym (idle (fronted new causes p [] is_open) refl));
      }

  -- some of the output goes to the stream
  pub goes_flushed : (contents : S → Option (List ℕ)) (p : Subprotocol) (old new : Socket S) (causes : Causes)
      (rest : List ℕ) (is_open : Bool) → Flushed contents old new
      → GoesOut contents old.stream (old.output ++ frames p (lines rest)) (fronted new causes p rest is_open)
  goes_flushed contents p old new causes rest is_open flushed =
      let others = frames p (lines rest) in
      record {
        gone = flushed.0;
        appended = flushed.2;
        parts = ap (λ l. l ++ others) flushed.1 ∙ append_assoc flushed.0 new.output others;
      }

  -- no line was left
  pub goes_emptied : (contents : S → Option (List ℕ)) (p : Subprotocol) (s : Socket S) (causes : Causes)
      (rest : List ℕ) (is_open : Bool) → rest ≡ []
      → GoesOut contents s.stream (s.output ++ frames p (lines rest)) (fronted s causes p [] is_open)
  goes_emptied contents p s causes rest is_open none =
      record {
        gone = [];
        appended = Appends-nil (contents s.stream);
        parts = ap (λ r. s.output ++ frames p (lines r)) none;
      }
