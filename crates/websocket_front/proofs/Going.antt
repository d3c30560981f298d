-- Octets that wait go out, part by part.
use Rattle.std.proofs.Common.{◌≡◌, ℕ, List, [], ◌++◌, Option, refl, sym, ap, ◌∙◌, subst, append_assoc, append-nil}
use Rattle.std.proofs.KnownBytes.{Appends-nil, Appends-trans}
use Rattle.std.specs.Io.KnownBytes.{Appends}
use Rattle.tungstenite.specs.Socket.{Socket}
use Rattle.websocket_front.specs.Fronted.{Fronted, waiting, GoesOut, Gains, IsOut}

module _ {S : Type 0} where
  -- one part and then the next
  pub goes_on : (contents : S → Option (List ℕ)) (a : S) (xs : List ℕ) (f g : Fronted S) → GoesOut contents a xs f
      → GoesOut contents f.socket.stream (waiting f) g → GoesOut contents a xs g
  goes_on contents a xs f g first next = record {
    gone = first.gone ++ next.gone;
    appended = Appends-trans (contents a) (contents f.socket.stream)
        (contents g.socket.stream) first.gone next.gone first.appended next.appended;
    parts = first.parts ∙ ap (λ l. first.gone ++ l) next.parts ∙ sym (append_assoc first.gone next.gone (waiting g));
  }

  -- nothing goes out
  pub goes_nothing : (contents : S → Option (List ℕ)) (f : Fronted S) → GoesOut contents f.socket.stream (waiting f) f
  goes_nothing contents f = record { gone = []; appended = Appends-nil (contents f.socket.stream); parts = refl }

  -- a socket whose output gained this frame, of which some went out, with what waits after it
  pub goes_gained : (contents : S → Option (List ℕ)) (old new : Socket S) (f g : List ℕ)
      → Gains contents old new f → (gone : List ℕ) × Appends (contents old.stream) (contents new.stream) gone
      × (old.output ++ (f ++ g) ≡ gone ++ (new.output ++ g))
  goes_gained contents old new f g gained = (
    gained.gone,
    gained.appended,
    sym (append_assoc old.output f g) ∙ ap (λ l. l ++ g) gained.parts ∙ append_assoc gained.gone new.output g,
  )

  -- all went out where nothing waits
  pub all_out : (contents : S → Option (List ℕ)) (a : S) (xs : List ℕ) (f : Fronted S) → GoesOut contents a xs f
      → waiting f ≡ [] → IsOut contents a xs f
  all_out contents a xs f out none =
      let whole : xs ≡ out.gone = out.parts ∙ ap (λ l. out.gone ++ l) none ∙ append-nil out.gone in
      (subst (Appends (contents a) (contents f.socket.stream)) (sym whole) out.appended, none)
