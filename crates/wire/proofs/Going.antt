-- A text goes out part by part.
use Rattle.std.proofs.Common.{◌≡◌, ℕ, ◌+◌, ◌-◌, List, [], ◌∷◌, ◌++◌, length, take, drop, subst, Option}
use Rattle.std.proofs.Common.{Some, None, refl, ap, sym, ◌∙◌, append_assoc, append-nil}
use Rattle.std.proofs.KnownBytes.{Appends-nil, Appends-trans, Appends-kept}
use Rattle.std.proofs.Math.Seq.{drop-append_seam}
use Rattle.std.proofs.lemmas.List.{take-append-drop, drop-drop, take_rest}
use Rattle.std.specs.Io.KnownBytes.{Appends, Keeps, append_known}
use Rattle.deliveries.specs.declared.item.Item.{Item}
use Rattle.deliveries.specs.Text.{delivery_text}
use Rattle.crossbeam_channel.specs.Claims.{Pass}
use Rattle.outbox.specs.declared.rule.Log.{Log}
use Rattle.wire.specs.Wired.{texts, newest_text, is_last, ends, GoesOut, IsInStep, Wired}

-- one part and then the next
pub goes_on : (a b c : Option (List ℕ)) (xs ys zs : List ℕ) → GoesOut a b xs ys → GoesOut b c ys zs → GoesOut a c xs zs
goes_on a b c xs ys zs first next = record {
  gone = first.gone ++ next.gone;
  appended = Appends-trans a b c _ _ first.appended next.appended;
  parts = first.parts ∙ ap (λ l. first.gone ++ l) next.parts ∙ sym (append_assoc first.gone next.gone zs);
}

-- nothing goes out
pub goes_nothing : (a b : Option (List ℕ)) (xs : List ℕ) → Keeps a b → GoesOut a b xs xs
goes_nothing a b xs kept = record { gone = []; appended = Appends-kept a a b [] (Appends-nil a) kept; parts = refl }

-- the front of what is left
pub goes_front : (a b : Option (List ℕ)) (xs : List ℕ) (n : ℕ) → Appends a b (take n xs) → GoesOut a b xs (drop n xs)
goes_front a b xs n appended = record { gone = take n xs; appended = appended; parts = sym (take-append-drop n xs) }

-- and more of it
pub goes_further : (a b : Option (List ℕ)) (text : List ℕ) (c n : ℕ)
    → Appends a b (take n (take (length text - c) (drop c text))) → GoesOut a b (drop c text) (drop (c + n) text)
goes_further a b text c n appended = record {
  gone = take n (drop c text);
  appended = subst (λ l. Appends a b (take n l)) (take_rest text c) appended;
  parts = sym (take-append-drop n (drop c text)) ∙ ap (λ l. take n (drop c text) ++ l) (drop-drop n c text);
}

-- after octets that were kept back
pub goes_after : (a b c : Option (List ℕ)) (xs : List ℕ) (n : ℕ) → Keeps a b → Appends b c (take n xs)
    → GoesOut a c xs (drop n xs)
goes_after a b c xs n kept appended = goes_on a b c xs xs (drop n xs) (goes_nothing a b xs kept)
    (goes_front b c xs n appended)

-- octets wait, after those that waited
pub goes_waiting : (a told : Option (List ℕ)) (xs ys text : List ℕ) (n : ℕ) → Keeps a (append_known told xs)
    → Appends (Some xs) (Some ys) (take n text) → GoesOut a (append_known told ys) text (drop n text)
goes_waiting a told xs ys text n kept more = goes_after a (append_known told xs) (append_known told ys) text n kept
    (longer told)
  where
    longer : (o : Option (List ℕ)) → Appends (append_known o xs) (append_known o ys) (take n text)
    longer None = tt
    longer (Some zs) = ap (λ l. zs ++ l) more ∙ sym (append_assoc zs xs (take n text))

-- a stream that nothing waits for
pub starts_out : (a b : Option (List ℕ)) (waiting : List ℕ) → b ≡ a → waiting ≡ []
    → GoesOut a (append_known b waiting) [] []
starts_out a b waiting same none = goes_nothing a (append_known b waiting) [] (subst (λ o. Keeps a
    (append_known o waiting)) (sym same) (subst (λ l. Keeps a (append_known a l)) (sym none) (with_none a)))
  where
    with_none : (o : Option (List ℕ)) → Keeps o (append_known o [])
    with_none None = tt
    with_none (Some xs) = append-nil xs

-- the texts of one item more
pub texts_more : (host : List ℕ) (xs : List Item) (x : Item) → texts host (xs ++ x ∷ [])
    ≡ texts host xs ++ delivery_text x.delivery host
texts_more host [] x = append-nil (delivery_text x.delivery host)
texts_more host (y ∷ ys) x = ap (λ l. delivery_text y.delivery host ++ l) (texts_more host ys x)
    ∙ sym (append_assoc (delivery_text y.delivery host) (texts host ys) (delivery_text x.delivery host))

-- an item more is to go out, when all before it went out
pub out_begun : (host : List ℕ) (since : List Item) (x : Item) (a b : Option (List ℕ)) (left : List ℕ)
    → left ≡ [] → GoesOut a b (texts host since) left
    → GoesOut a b (texts host (since ++ x ∷ [])) (delivery_text x.delivery host)
out_begun host since x a b left none out =
    let text = delivery_text x.delivery host in
    record {
      gone = out.gone;
      appended = out.appended;
      parts = texts_more host since x ∙ ap (λ l. l ++ text) (out.parts ∙ ap (λ l. out.gone ++ l) none)
          ∙ append_assoc out.gone [] text;
    }

-- nothing goes out where the octets are as they were
pub goes_none : (a b : Option (List ℕ)) (xs : List ℕ) → b ≡ a → GoesOut a b xs xs
goes_none a b xs same = subst (λ o. GoesOut a o xs xs) (sym same)
    (record { gone = []; appended = Appends-nil a; parts = refl })

-- a whole text waits, after the octets that waited
pub goes_whole : (a b : Option (List ℕ)) (xs ys text : List ℕ) → b ≡ a → ys ≡ xs ++ text
    → GoesOut (append_known a xs) (append_known b ys) text []
goes_whole a b xs ys text same more = subst (λ o. GoesOut (append_known a xs) (append_known o ys) text []) (sym same)
    (record { gone = text; appended = longer a; parts = sym (append-nil text) })
  where
    longer : (o : Option (List ℕ)) → Appends (append_known o xs) (append_known o ys) text
    longer None = tt
    longer (Some zs) = ap (λ l. zs ++ l) more ∙ sym (append_assoc zs xs text)

-- the newest text is that of the item that came last
pub newest_more : (host : List ℕ) (xs : List Item) (x : Item) → newest_text host (xs ++ x ∷ [])
    ≡ delivery_text x.delivery host
newest_more host [] x = refl
newest_more host (y ∷ []) x = refl
newest_more host (y ∷ z ∷ zs) x = newest_more host (z ∷ zs) x

-- nothing is left of a whole text
pub none_left : (xs : List ℕ) → drop (length xs) xs ≡ []
none_left [] = refl
none_left (x ∷ xs) = none_left xs

-- all of a text is its front
pub all_taken : (xs : List ℕ) → take (length xs) xs ≡ xs
all_taken [] = refl
all_taken (x ∷ xs) = ap (λ l. x ∷ l) (all_taken xs)

-- known octets grow, where nothing waits
pub grows_alone : (a b : Option (List ℕ)) (zs : List ℕ) → Appends a b zs
    → Appends (append_known a []) (append_known b []) zs
grows_alone None b zs more = tt
grows_alone (Some xs) None zs more = elim more [ ]
grows_alone (Some xs) (Some ys) zs more = append-nil ys ∙ more ∙ ap (λ l. l ++ zs) (sym (append-nil xs))

-- a text is written at once, after all that waited was
pub goes_alone : (a told new : Option (List ℕ)) (xs text : List ℕ) (n : ℕ) → Keeps a (append_known told xs) → xs ≡ []
    → Appends told new (take n text) → GoesOut a (append_known new xs) text (drop n text)
goes_alone a told new xs text n kept none more = goes_after a (append_known told xs) (append_known new xs) text n kept
    (subst (λ l. Appends (append_known told l) (append_known new l) (take n text)) (sym none)
    (grows_alone told new (take n text) more))

-- a whole text waits, after octets that were kept back
pub goes_kept : (a told new : Option (List ℕ)) (xs ys text : List ℕ) (n : ℕ) → Keeps a (append_known told xs)
    → new ≡ told → ys ≡ xs ++ text → n ≡ length text → GoesOut a (append_known new ys) text (drop n text)
goes_kept a told new xs ys text n kept same more all =
    let front : take n text ≡ text = ap (λ m. take m text) all ∙ all_taken text in
    subst (λ o. GoesOut a (append_known o ys) text (drop n text)) (sym same)
    (goes_waiting a told xs ys text n kept (more ∙ ap (λ l. xs ++ l) (sym front)))

-- what is left is the end of a text, also when more went out
pub tail_on : (a b : Option (List ℕ)) (xs ys text : List ℕ) → GoesOut a b xs ys → (n : ℕ) × (xs ≡ drop n text)
    → (n : ℕ) × (ys ≡ drop n text)
tail_on a b xs ys text out t = (
  t.0 + length out.gone,
  sym (drop-append_seam out.gone ys) ∙ ap (λ l. drop (length out.gone) l) (sym out.parts ∙ t.1)
      ∙ drop-drop (length out.gone) t.0 text,
)

-- an item more was taken, of which this is left
pub one_more : (w : Wired) (now : List Item) (empties : ℕ) (channel : Pass Item Log) (told : Option (List ℕ))
    (waiting rest : List ℕ) (pauses faults : ℕ) (item : Item) (i : IsInStep w) → w.rest ≡ []
    → now ≡ w.taken ++ item ∷ [] → GoesOut w.told told (delivery_text item.delivery w.host) rest
    → ((n : ℕ) × (rest ≡ drop n (delivery_text item.delivery w.host)))
    → IsInStep (record {
      session = w.session;
      taken = now;
      empties = empties;
      channel = channel;
      told = told;
      waiting = waiting;
      rest = rest;
      pauses = pauses;
      faults = faults;
      host = w.host;
      taken_before = w.taken_before;
      told_before = w.told_before;
    })
one_more w now empties channel told waiting rest pauses faults item i none took goes tail =
    let text = delivery_text item.delivery w.host in
    record {
      since = i.since ++ item ∷ [];
      taken = took ∙ ap (λ l. l ++ item ∷ []) i.taken ∙ append_assoc w.taken_before i.since (item ∷ []);
      out = goes_on w.told_before w.told told (texts w.host (i.since ++ item ∷ [])) text rest
          (out_begun w.host i.since item w.told_before w.told w.rest none i.out) goes;
      newest = (tail.0, tail.1 ∙ sym (ap (drop tail.0) (newest_more w.host i.since item)));
    }

-- the newest item is the last of these
pub ends_more : (xs : List Item) (x : Item) → ends (xs ++ x ∷ []) ≡ is_last x.delivery
ends_more [] x = refl
ends_more (y ∷ []) x = refl
ends_more (y ∷ z ∷ zs) x = ends_more (z ∷ zs) x
