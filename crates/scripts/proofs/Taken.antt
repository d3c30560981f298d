-- Items of a session, one after another, and what is printed of them.
use Rattle.std.proofs.Common.{◌≡◌, inl, ℕ, ◌+◌, true, false, List, [], ◌++◌, Option, Some, None, Ok, Err}
use Rattle.std.proofs.Common.{refl, sym, ap, ◌∙◌, append-nil, append_assoc, add-one, subst}
use Rattle.std.specs.Io.KnownBytes.{Appends}
use Rattle.deliveries.specs.declared.delivery.Delivery.{Delivery}
use Rattle.interleave.specs.declared.event.Event.TheVariants as event
use Rattle.interleave.specs.declared.event.Note.TheVariants as note
use Rattle.interleave.specs.State.{State}
use Rattle.interleave.specs.Steps.{IsStep}
use Rattle.scripts.specs.Notes.{host_of, answer_text}
use Rattle.scripts.specs.Steps.{Answer, AreTaken, is_item, IsDrained}

pub appends_nothing : (known : Option (List ℕ)) → Appends known known []
appends_nothing None = tt
appends_nothing (Some xs) = sym (append-nil xs)

pub appends_more : (a b c : Option (List ℕ)) (x y : List ℕ) → Appends a b x → Appends b c y → Appends a c (x ++ y)
appends_more None b c x y p q = tt
appends_more (Some xs) None c x y p q = absurd p
appends_more (Some xs) (Some ys) None x y p q = absurd q
appends_more (Some xs) (Some ys) (Some zs) x y p q = q ∙ ap (λ bs. bs ++ y) p ∙ append_assoc xs x y

item_of : (a : Answer) → is_item a ≡ true → (item : Delivery) × (a ≡ Ok (note.Item item))
item_of (Ok (note.Item item)) is = (item, refl)
item_of (Ok (note.Session s)) is = absurd (cc)
item_of (Ok (note.Read n)) is = absurd (cc)
item_of (Ok note.Picked) is = absurd (cc)
item_of (Ok (note.Record n)) is = absurd (cc)
item_of (Ok (note.Put s)) is = absurd (cc)
item_of (Ok (note.Missed s)) is = absurd (cc)
item_of (Ok (note.Done d)) is = absurd (cc)
item_of (Ok note.Back) is = absurd (cc)
item_of (Ok note.Empty) is = absurd (cc)
item_of (Ok (note.Hung h)) is = absurd (cc)
item_of (Ok (note.Swept n)) is = absurd (cc)
item_of (Ok (note.Ticked n)) is = absurd (cc)
item_of (Ok (note.Left n)) is = absurd (cc)
item_of (Err e) is = absurd (cc)

one_more : (n s : ℕ) (host : List ℕ) (m l k : State) (text : List ℕ) (item : Delivery)
    → AreTaken n s host m text l → IsStep l (event.Take s) (Ok (note.Item item)) k
    → AreTaken (n + 1) s host m (text ++ answer_text s host (Ok (note.Item item))) k
one_more n s host m l k text item taken is = rw add-one (l, item, text, taken, is, refl)

-- so many items were taken and written
abbrev pub Written : ℕ → ℕ → List ℕ → State → State → Option (List ℕ) → Option (List ℕ) → Type 0
Written n s host m l old new = (text : List ℕ) × AreTaken n s host m text l × Appends old new text

pub item_taken : (n s : ℕ) (hosts hosts' : List (List ℕ)) (m l k : State) (a : Answer) (x y z : Option (List ℕ))
    → Written n s (host_of hosts s) m l x y → is_item a ≡ true → IsStep l (event.Take s) a k → Appends y z
    (answer_text s (host_of hosts' s) a) → hosts' ≡ hosts → Written (n + 1) s (host_of hosts s) m k x z
item_taken n s hosts hosts' m l k a x y z taken is step wrote same =
    let item = item_of a is in
    let stepped : IsStep l (event.Take s) (Ok (note.Item item.0)) k = subst
    (λ b. IsStep l (event.Take s) b k) item.1 step in
    let written : Appends y z (answer_text s (host_of hosts s) (Ok (note.Item item.0))) = subst
    (λ b. Appends y z (answer_text s (host_of hosts s) b)) item.1
    (subst (λ hs. Appends y z (answer_text s (host_of hs s) a)) same wrote) in (
      taken.0 ++ answer_text s (host_of hosts s) (Ok (note.Item item.0)),
      one_more n s (host_of hosts s) m l k taken.0 item.0 taken.1 stepped,
      appends_more x y z _ _ taken.2 written,
    )

pub last_taken : (n s : ℕ) (hosts hosts' : List (List ℕ)) (m l k : State) (a : Answer) (x y z : Option (List ℕ))
    → Written n s (host_of hosts s) m l x y → is_item a ≡ false → IsStep l (event.Take s) a k
    → Appends y z (answer_text s (host_of hosts' s) a) → hosts' ≡ hosts → (text : List ℕ)
    × IsDrained s (host_of hosts s) m text k × Appends x z text
last_taken n s hosts hosts' m l k a x y z taken is step wrote same =
    let written : Appends y z (answer_text s (host_of hosts s) a) = subst
    (λ hs. Appends y z (answer_text s (host_of hs s) a)) same wrote in (
      taken.0 ++ answer_text s (host_of hosts s) a,
      (n, inl (l, a, taken.0, taken.1, step, is, refl)),
      appends_more x y z _ _ taken.2 written,
    )
