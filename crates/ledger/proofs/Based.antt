-- What a ledger keeps of the records that it dropped stays so over each step.
use Rattle.std.proofs.Common.{arith, ◌≡◌, inl, inr, ℕ, suc, ◌-◌, ◌<◌, ◌≤◌, true, false, List, [], ◌∷◌, ◌++◌}
use Rattle.std.proofs.Common.{length, drop, slice_set, cond, Bool, Option, Some, None, refl, sym, ap, ◌∙◌}
use Rattle.std.proofs.Common.{subst}
use Rattle.std.specs.Option.{is_some}
use Rattle.std.proofs.lemmas.List.{get_or_append_left, length-append, length-set}
use Rattle.std.proofs.lemmas.Bool.Decides.{eqb_tells}
use Rattle.chronicle.specs.History.{Rec, sessions}
use Rattle.chronicle.specs.Journal.{miss}
use Rattle.registration.specs.declared.settings.Settings.{Settings}
use Rattle.deliveries.specs.Base.{dropped_part}
use Rattle.ledger.specs.Ledger.{is_here}
use Rattle.ledger.specs.Noted.{Noted, IsBased, Forgets, is_noted}
use Rattle.ledger.proofs.Sound.{box_same, box_other, here_same}

-- a record more leaves those that were dropped
pub dropped_more : (n : ℕ) (r : Rec) (h : List Rec) → n ≤ length h → dropped_part n (r ∷ h) ≡ dropped_part n h
dropped_more n r h few = let e : length (r ∷ h) - n ≡ suc (length h - n) = omega arith in
    ap (λ (i : ℕ). drop i (r ∷ h)) e

-- and so does a session that misses one which wasn't
pub dropped_missed : (n : ℕ) (h : List Rec) (t : ℕ) → n < length h → dropped_part n (miss h t) ≡ dropped_part n h
dropped_missed n [] t few = refl
dropped_missed n (r ∷ h) t few =
    let l : n ≤ length h = omega arith in
    dropped_more n (record { number = r.number; moment = r.moment; kind = r.kind; missed = r.missed ++ t ∷ [] }) h l
    ∙ sym (dropped_more n r h l)

-- of those that there were, the same are there
abbrev pub AreHereStill : {O : Type 0} → List (Option O) → List (Option O) → Type 0
AreHereStill boxes more = (t : ℕ) → 0 < t → t ≤ length boxes → is_here boxes t ≡ is_here more t

-- counts are kept after those of a session were forgotten, if they were before
pub forgets_still : (b c : Option Noted) (s : ℕ) → Forgets b c s → is_some c ≡ is_some b
forgets_still None c s f = ap (λ o. is_some o) f
forgets_still (Some b) None s f = absurd f
forgets_still (Some b) (Some c) s f = refl

module _ {O : Type 0} where
  pub based_on : (b : Option Noted) (h k : List Rec) (n : ℕ) (g : Settings) (boxes more : List (Option O))
      → IsBased b h n g boxes → length h ≤ length k → (n ≤ length h → dropped_part n k ≡ dropped_part n h)
      → length boxes ≤ length more → AreHereStill boxes more → IsBased b k n g more
  based_on None h k n g boxes more i long same many still = i
  based_on (Some b) h k n g boxes more i long same many still =
      let few = i.few in let opened = i.opened in
      record {
        few = omega arith;
        front = i.front ∙ sym (same i.few);
        settings = i.settings;
        opened = omega arith;
        noted = λ t from to. i.noted t from to ∙ still t from (omega arith);
        early = i.early;
      }

  all_still : (boxes : List (Option O)) → AreHereStill boxes boxes
  all_still boxes t from to = refl

  -- a record was appended
  pub based_record : (b : Option Noted) (h : List Rec) (r : Rec) (n : ℕ) (g : Settings) (boxes : List (Option O))
      → IsBased b h n g boxes → IsBased b (r ∷ h) n g boxes
  based_record b h r n g boxes i = based_on b h (r ∷ h) n g boxes boxes i (omega arith) (dropped_more n r h)
      (omega arith) (all_still boxes)

  -- a session missed the newest record
  pub based_missed : (b : Option Noted) (h : List Rec) (t n : ℕ) (g : Settings) (boxes : List (Option O))
      → n < length h → IsBased b h n g boxes → IsBased b (miss h t) n g boxes
  based_missed b h t n g boxes few i = based_on b h (miss h t) n g boxes boxes i
      (let e = length_same h t in omega arith) (λ l. dropped_missed n h t few) (omega arith) (all_still boxes)
    where
      length_same : (h : List Rec) (t : ℕ) → length (miss h t) ≡ length h
      length_same [] t = refl
      length_same (r ∷ h) t = refl

  -- outboxes changed
  pub based_boxes : (b : Option Noted) (h : List Rec) (n : ℕ) (g : Settings) (boxes more : List (Option O))
      → IsBased b h n g boxes → length boxes ≤ length more → AreHereStill boxes more → IsBased b h n g more
  based_boxes b h n g boxes more i many still = based_on b h h n g boxes more i (omega arith) (λ l. refl) many still

  -- a session was opened
  pub opened_still : (boxes : List (Option O)) (box : O) → AreHereStill boxes (boxes ++ Some box ∷ [])
  opened_still boxes box t from to = let l : t - 1 < length boxes = omega arith in
      sym (ap (λ o. is_some o) (get_or_append_left boxes (Some box ∷ []) None (t - 1) l))

  pub opened_many : (boxes : List (Option O)) (box : O) → length boxes ≤ length (boxes ++ Some box ∷ [])
  opened_many boxes box = let e = length-append boxes (Some box ∷ []) in omega arith

  -- an item was put into an outbox, or taken
  pub put_still : (boxes : List (Option O)) (s : ℕ) (v : O) → is_here boxes s ≡ true → 0 < s → s ≤ length boxes
      → AreHereStill boxes (slice_set boxes (s - 1) (Some v))
  put_still boxes s v there from to t above below = here_same boxes s t v there from to above

  pub set_many : (boxes : List (Option O)) (i : ℕ) (o : Option O) → length boxes ≤ length (slice_set boxes i o)
  set_many boxes i o = let e : length (slice_set boxes i o) ≡ length boxes = simp length-set in omega arith

  -- a session was given up, and its counts are forgotten
  pub based_reaped : (b c : Option Noted) (h : List Rec) (n : ℕ) (g : Settings) (boxes : List (Option O)) (s : ℕ)
      → IsBased b h n g boxes → Forgets b c s → 0 < s → s ≤ length boxes
      → IsBased c h n g (slice_set boxes (s - 1) None)
  based_reaped None c h n g boxes s i f from to =
      subst (λ (o : Option Noted). IsBased o h n g (slice_set boxes (s - 1) None)) (sym f) i
  based_reaped (Some b) None h n g boxes s i f from to = absurd f
  based_reaped (Some b) (Some c) h n g boxes s i f from to =
      let new = slice_set boxes (s - 1) None in let len : length new ≡ length boxes = simp length-set in
      let few = i.few in let opened = i.opened in
      let same_front : sessions c.front ≡ sessions b.front = ap sessions f.0 in
      record {
        few = few;
        front = f.0 ∙ i.front;
        settings = f.1 ∙ i.settings;
        opened = omega arith;
        noted = λ t above below. elim (eqb_tells s t) [
          | inl same ↦ f.2 t ∙ ap (λ (x : Bool). cond x false (is_noted b t)) same.0
              ∙ ap (λ o. is_some o) (sym (box_same boxes s None from to)) ∙ ap (is_here new) same.1
          | inr other ↦ f.2 t ∙ ap (λ (x : Bool). cond x false (is_noted b t)) other.0
              ∙ i.noted t above (omega arith) ∙ ap (λ o. is_some o) (sym (box_other boxes s t None from above other.1))
        ];
        early = λ t is. elim (eqb_tells s t) [
          | inl same ↦ absurd (let gone : is_noted c t ≡ false = f.2 t
              ∙ ap (λ (x : Bool). cond x false (is_noted b t)) same.0 in
              let no : false ≡ true = sym gone ∙ is in cc)
          | inr other ↦ let l = i.early t (sym (f.2 t ∙ ap (λ (x : Bool). cond x false (is_noted b t)) other.0)
              ∙ is) in let upper = l.1 in (l.0, (omega arith))
        ];
      }

  -- the same by equal values
  pub based_as : (b : Option Noted) (h k : List Rec) (n m : ℕ) (g more_g : Settings) (boxes more : List (Option O))
      → IsBased b h n g boxes → k ≡ h → m ≡ n → more_g ≡ g → more ≡ boxes → IsBased b k m more_g more
  based_as b h k n m g more_g boxes more i eh en eg eb =
      subst (λ (x : List Rec). IsBased b x m more_g more) (sym eh)
      (subst (λ (x : ℕ). IsBased b h x more_g more) (sym en) (subst (λ (x : Settings). IsBased b h n x more)
      (sym eg) (subst (λ (x : List (Option O)). IsBased b h n g x) (sym eb) i)))
