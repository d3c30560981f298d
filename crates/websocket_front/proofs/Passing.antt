-- Readings that gave a ping or a pong, and then one more.
use Rattle.std.proofs.Common.{inl, inr, ℕ, List, [], ◌∷◌, ◌++◌, Option, Some, Ok, refl, subst}
use Rattle.tungstenite.specs.Socket.{Socket, Reads}
use Rattle.tungstenite.specs.declared.message.Message.{Message}
use Rattle.websocket_front.specs.declared.front.Got.{Got}
use Rattle.websocket_front.specs.declared.front.Got.TheVariants.{Payload, Nothing, Closed}
use Rattle.websocket_front.specs.declared.front.FrontFault.{FrontFault}
use Rattle.websocket_front.specs.Reading.{IsControl, Passes, Gives, GivesOne, Fails, FailsOnce}

module _ {S : Type 0} where
  -- one reading more that gave a ping or a pong
  pub passes_more : (remaining : S → Option (List ℕ)) (old mid new : Socket S) (ss : List (Socket S))
      → Passes remaining old ss mid → ((m : Message) × IsControl m × Reads remaining mid new (Ok m))
      → Passes remaining old (ss ++ new ∷ []) new
  passes_more remaining old mid new [] passes one =
      (subst (λ s. (m : Message) × IsControl m × Reads remaining s new (Ok m)) passes one, refl)
  passes_more remaining old mid new (s ∷ ss) passes one = (passes.0, passes_more remaining s mid new ss passes.1 one)

  -- what one reading gave after some of these
  pub gives_after : (remaining : S → Option (List ℕ)) (old mid new : Socket S) (ss : List (Socket S)) (got : Got)
      → Passes remaining old ss mid → GivesOne remaining mid new (Some got) → Gives remaining old new got
  gives_after remaining old mid new ss (Payload v) passes gives = (gives.0, gives.1, (ss, mid, passes, gives.2))
  gives_after remaining old mid new ss Nothing passes gives = (gives.0, gives.1, (ss, mid, passes, gives.2))
  gives_after remaining old mid new ss Closed passes gives = (gives.0, gives.1, gives.2, (ss, mid, passes, gives.3))

  -- how one failed after some of these
  pub fails_after : (remaining : S → Option (List ℕ)) (old mid : Socket S) (ss : List (Socket S)) (f : FrontFault)
      → Passes remaining old ss mid → FailsOnce remaining mid f → Fails remaining old f
  fails_after remaining old mid ss f passes (inl memory) = inl memory
  fails_after remaining old mid ss f passes (inr failed) = inr
      (failed.0, failed.1, (ss, mid, passes, failed.2), failed.3)
