-- What a session was owed and had accepted, in all and since the records that were dropped.
use Rattle.std.proofs.Common.{arith, ◌≡◌, ◌≤◌, ℕ, false, List, ◌++◌, length, drop, Result}
use Rattle.std.proofs.Common.{Ok, Err, sym, ap, ◌∙◌, subst, append-nil}
use Rattle.std.specs.Prelude.{OnOk, OnErr}
use Rattle.line_grammar.specs.declared.splitter.Piece.{Piece}
use Rattle.chronicle.specs.History.{accepted}
use Rattle.deliveries.specs.declared.item.Item.{Item}
use Rattle.deliveries.specs.Items.{deliveries}
use Rattle.deliveries.specs.Owed.{owed}
use Rattle.deliveries.proofs.GoesOn.{owed_kept, accepted_kept}
use Rattle.register.specs.declared.claims.Row.{Row}
use Rattle.ledger.specs.Ledger.{Shown, box_at, sent_by, plan_part, base_of, after_roll, IsKnown, IsLeft, IsSound}
use Rattle.book.specs.Reaping.{IsAllOwed, AreAllAccepted}
use Rattle.book.specs.Tied.{IsTied}
use Rattle.book.proofs.Ties.{rolled_ties}

pub all_owed : {O W : Type 0} (sent : O → List Item) (taken : O → W → List Item) (m : Shown O)
    (s : ℕ) (taker : W) (count : ℕ) → IsSound sent m → m.busy ≡ false → IsKnown m s
    → IsLeft sent taken (box_at m.outboxes s) taker count → IsAllOwed sent taken m s taker count
all_owed sent taken m s taker count i idle known l =
    let few : s ≤ length m.outboxes = let a = known.opened in let b = i.sessions in omega arith in
    let boxed : deliveries (sent l.outbox) ≡ owed m.settings m.history s =
    sym (append-nil (deliveries (sent l.outbox)))
    ∙ sym (ap (λ ps. deliveries (sent l.outbox) ++ plan_part ps s) (i.idle idle)) ∙ sym
    (ap (λ o. deliveries (sent_by sent o) ++ plan_part m.plan s) l.here) ∙ i.owed s known.from_1 few known.here in
    let all : deliveries (taken l.outbox taker ++ l.left)
    ≡ owed m.settings m.history s = sym (ap deliveries l.rest) ∙ boxed in
    record {
      outbox = l.outbox;
      here = l.here;
      left = l.left;
      rest = l.rest;
      owed = all;
      since = ap (drop ((base_of m).owed s)) all ∙ owed_kept m.settings m.history m.limit.dropped s;
      count_is = l.count_is;
    }

pub all_accepted : {O : Type 0} (m : Shown O) (s : ℕ) (pieces : List Piece) → pieces ≡ accepted m.history s
    → AreAllAccepted m s pieces
all_accepted m s pieces all = record {
  all = all;
  since = ap (drop ((base_of m).accepted s)) all
      ∙ accepted_kept m.settings m.history m.limit.dropped s;
}

-- whatever was answered
pub rolls_ties : {O N A E : Type 0} (name : O → N) (m k : Shown O) (rows : List (Row N)) (r : Result A E)
    → OnOk r (k ≡ after_roll m) → OnErr r (k ≡ m) → IsTied name m rows → IsTied name k rows
rolls_ties name m k rows (Ok x) ok err tied = subst (λ b. IsTied name b rows) (sym ok) (rolled_ties name m rows tied)
rolls_ties name m k rows (Err e) ok err tied = subst (λ b. IsTied name b rows) (sym err) tied
