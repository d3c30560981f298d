-- When the tokens of a session may be given up, and what that tells: this project's own.
use Rattle.std.specs.Prelude.{◌≡◌, ℕ, true, false, List, [], ◌∷◌, ◌++◌, length, drop, Some}
use Rattle.line_grammar.specs.declared.splitter.Piece.{Piece}
use Rattle.chronicle.specs.History.{Rec, said_by, accepted, gone}
use Rattle.deliveries.specs.declared.item.Item.{Item}
use Rattle.deliveries.specs.Items.{deliveries}
use Rattle.deliveries.specs.Owed.{owed}
use Rattle.deliveries.specs.Base.{owed_from, accepted_from}
use Rattle.book.specs.Turn as batons
use Rattle.ledger.specs.Ledger.{Shown, Turn, IsKnown, box_at, base_of, kept_of}
use Rattle.ledger.specs.declared.refusals.ReapRefusal.{ReapRefusal}
use Rattle.ledger.specs.declared.refusals.ReapRefusal.TheVariants as reaping

-- whose line is next and which, as a book is told of it
abbrev pub turn_of : batons.BatonView → Turn
turn_of b = record { session = b.session; next = b.next }

-- the pieces that the newest record accepts of a session
abbrev pub newest_said : List Rec → ℕ → List Piece
newest_said [] t = []
newest_said (r ∷ h) t = said_by r.kind t

-- the tokens are of one session, which is there and gone
pub record MayReap {O : Type 0} (m : Shown O) (baton stub : ℕ) : Type 0 where
  pub idle : m.busy ≡ false
  pub known : IsKnown m baton
  pub one : stub ≡ baton
  pub gone : gone m.history baton ≡ true

-- the pieces done with a baton are those that the history accepts; without those that the base counts they are what
-- the records that are kept accept from there
pub record AreAllAccepted {O : Type 0} (m : Shown O) (s : ℕ) (pieces : List Piece) : Type 0 where
  pub all : pieces ≡ accepted m.history s
  pub since : drop ((base_of m).accepted s) pieces ≡ accepted_from (base_of m) (kept_of m) s

-- the first of the refusals whose cause holds
abbrev pub IsReapRefusal : {O : Type 0} → Shown O → ℕ → ℕ → ReapRefusal → Type 0
IsReapRefusal m baton stub reaping.Busy = m.busy ≡ true
IsReapRefusal m baton stub reaping.Stranger = (m.busy ≡ false) × (IsKnown m baton × (stub ≡ baton) → ⊥)
IsReapRefusal m baton stub reaping.NotGone = (m.busy ≡ false) × IsKnown m baton × (stub ≡ baton)
    × (gone m.history baton ≡ false)

-- what a taker took of a session's outbox, then so many items that are left there, is what the history owes the
-- session; without those that the base counts it is what the records that are kept owe from there
pub record IsAllOwed {O W : Type 0} (sent : O → List Item) (taken : O → W → List Item) (m : Shown O) (s : ℕ)
    (taker : W) (count : ℕ) : Type 0 where
  pub outbox : O
  pub here : box_at m.outboxes s ≡ Some outbox
  pub left : List Item
  pub rest : sent outbox ≡ taken outbox taker ++ left
  pub owed : deliveries (taken outbox taker ++ left) ≡ owed m.settings m.history s
  pub since : drop ((base_of m).owed s) (deliveries (taken outbox taker ++ left))
      ≡ owed_from m.settings (base_of m) (kept_of m) s
  pub count_is : count ≡ length left
