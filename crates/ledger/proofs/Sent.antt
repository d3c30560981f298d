-- What was put into an outbox, over each step.
use Rattle.std.proofs.Common.{◌≡◌, ◌∙◌, ℕ, List, [], ◌∷◌, ◌++◌, length, ap, sym, refl, subst}
use Rattle.std.specs.Prelude.{All}
use Rattle.std.proofs.lemmas.List.{map-append}
use Rattle.std.proofs.lemmas.List.Elements.{All-nil, All-push, All-weaker}
use Rattle.chronicle.specs.History.{Rec}
use Rattle.registration.specs.declared.settings.Settings.{Settings}
use Rattle.deliveries.specs.declared.delivery.Delivery.{Delivery}
use Rattle.deliveries.specs.declared.item.Item.{Item}
use Rattle.deliveries.specs.Growth.{Grows}
use Rattle.deliveries.specs.Items.{Continues, deliveries, front}
use Rattle.deliveries.specs.Owed.{number_of, owed}
use Rattle.deliveries.proofs.Growing.{grows_to_itself, grows_on}
use Rattle.ledger.specs.Ledger.{IsSent}

-- nothing was put
pub sent_none : (g : Settings) (h : List Rec) (t : ℕ) → IsSent g h t []
sent_none g h t = record {
  whose = All-nil (λ (y : Item). y.session ≡ t);
  settings = All-nil (λ (y : Item). y.settings ≡ g);
  grows = All-nil (λ (y : Item). Grows (front y) h);
}

-- the history has grown
pub sent_grown : (g : Settings) (h k : List Rec) (t : ℕ) (xs : List Item) → Grows h k → IsSent g h t xs
    → IsSent g k t xs
sent_grown g h k t xs grown i =
    record {
      whose = i.whose;
      settings = i.settings;
      grows = All-weaker (λ (y : Item). Grows (front y) h)
          (λ (y : Item). Grows (front y) k) (λ y p. grows_on (front y) h k p grown) xs i.grows;
    }

-- one more was put, which knows this history
pub sent_one : (g : Settings) (h : List Rec) (x : Item) (xs : List Item) → x.settings ≡ g → front x ≡ h
    → IsSent g h x.session xs → IsSent g h x.session (xs ++ x ∷ [])
sent_one g h x xs settings here i =
    record {
      whose = All-push (λ (y : Item). y.session ≡ x.session) xs x i.whose refl;
      settings = All-push (λ (y : Item). y.settings ≡ g) xs x i.settings settings;
      grows = All-push (λ (y : Item). Grows (front y) h) xs x i.grows
          (subst (λ (k : List Rec). Grows k h) (sym here) (grows_to_itself h));
    }

-- what it delivers comes after what they do
pub delivered_one : (xs : List Item) (x : Item) → deliveries (xs ++ x ∷ []) ≡ deliveries xs ++ x.delivery ∷ []
delivered_one xs x = map-append (λ (y : Item). y.delivery) xs (x ∷ [])

-- and it may be put there, where with it all is put that the history owes
pub may_continue : (g : Settings) (h : List Rec) (x : Item) (xs : List Item) → x.settings ≡ g → front x ≡ h
    → number_of x.delivery ≡ length h → IsSent g h x.session xs → deliveries xs ++ x.delivery ∷ []
    ≡ owed g h x.session → Continues xs x
may_continue g h x xs settings here newest i all =
    record {
      newest = newest ∙ ap (λ (k : List Rec). length k) (sym here);
      owed = delivered_one xs x ∙ all ∙ ap (λ (s : Settings). owed s h x.session) (sym settings) ∙ ap
          (λ (k : List Rec). owed x.settings k x.session) (sym here);
      whose = i.whose;
      settings = subst (λ (s : Settings). All (λ (y : Item). y.settings ≡ s) xs) (sym settings) i.settings;
      grows = subst (λ (k : List Rec). All (λ (y : Item). Grows (front y) k) xs) (sym here) i.grows;
    }

-- an item is what is seen of it
pub item_is : (x : Item) (d : Delivery) (s : ℕ) (h : List Rec) (g : Settings) → x.delivery ≡ d → x.session ≡ s
    → front x ≡ h → x.settings ≡ g → x ≡ record { delivery = d; session = s; front = h; settings = g }
item_is x d s h g what whose here settings = λ i. record {
  delivery = what i;
  session = whose i;
  front = here i;
  settings = settings i;
}
