-- What is kept of when sessions were last heard of stays what the history says over each step.
use Rattle.std.proofs.Common.{arith, ◌≡◌, ◌≢◌, inl, inr, ℕ, ℤ, ◌+◌, ◌-◌, ◌<◌, ◌≤◌, ◌≤ℤ◌, Bool, true, false, not, ◌&&◌}
use Rattle.std.proofs.Common.{◌||◌, ◌==◌, cond, nat_eq, List, [], ◌∷◌, ◌++◌, length, slice_set, Option, Some}
use Rattle.std.proofs.Common.{None, is_some, option_map, refl, sym, ap, ◌∙◌, subst, ne_eqb, eq-eqb}
use Rattle.std.proofs.lemmas.Bool.Decides.{eqb_tells}
use Rattle.std.proofs.lemmas.List.{get_or_push, get_or_append_left, length-append, length-set}
use Rattle.std.proofs.lemmas.Map.{lookup-remove_entry}
use Rattle.std.specs.Cmp.{nat_eq_equiv}
use Rattle.std.specs.Prelude.{IfSome}
use Rattle.std.specs.List.{IsDistinct, list_any}
use Rattle.std.specs.Map.{keys_of, remove_entry}
use Rattle.line_grammar.specs.declared.splitter.Piece.{Piece}
use Rattle.chronicle.specs.declared.record.Kind.{Kind}
use Rattle.chronicle.specs.declared.record.Kind.TheVariants.{Opened, Said, Ticked}
use Rattle.chronicle.specs.History.{Rec, last_moment}
use Rattle.chronicle.specs.Journal.{fresh_record, miss}
use Rattle.chronicle.specs.Idle.{hears_of, is_tick, idle_since, is_silent, was_pinged, is_pinged}
use Rattle.ledger.specs.declared.last_heard.Since.{Since}
use Rattle.ledger.specs.Ledger.{is_here}
use Rattle.ledger.specs.Seats.{IsThere}
use Rattle.ledger.specs.LastHeard.{since_at, Falls, IsSince, AreSince, with_ping, with_pings}
use Rattle.ledger.proofs.Picking.{le_refl, le_trans}
use Rattle.ledger.proofs.Sound.{box_same, box_other, here_same}

-- ---- what is kept, looked up by a session

at_removed : (s : ℕ) (xs : List (ℕ × Since)) (t : ℕ) → s ≢ t → since_at (remove_entry (nat_eq s) xs) t ≡ since_at xs t
at_removed s [] t ne = refl
at_removed s (e ∷ xs) t ne = elim (eqb_tells s e.0) [
  | inl same ↦ rw same.0 (rw (ne_eqb t e.0 (λ is. ne (same.1 ∙ sym is))) refl)
  | inr other ↦ rw other.0 (ap (cond (nat_eq t e.0) (Some e.1)) (at_removed s xs t ne))
]

abbrev pub pinged_if : Bool → Since → Since
pinged_if true x = record { moment = x.moment; pinged = true }
pinged_if false x = x

at_ping : (s : ℕ) (xs : List (ℕ × Since)) (t : ℕ) → since_at (with_ping s xs) t
    ≡ option_map (pinged_if (s == t)) (since_at xs t)
at_ping s [] t = refl
at_ping s (e ∷ xs) t = elim (eqb_tells t e.0) [
  | inl here ↦ elim (eqb_tells s e.0) [
    | inl same ↦ rw same.0 (rw here.0 (ap (λ b. Some (pinged_if b e.1)) (sym (eq-eqb s t (same.1 ∙ sym here.1)))))
    | inr other ↦ rw other.0
        (rw here.0 (ap (λ b. Some (pinged_if b e.1)) (sym (ne_eqb s t (λ is. other.1 (is ∙ here.1))))))
  ]
  | inr away ↦ elim (eqb_tells s e.0) [
    | inl same ↦ rw same.0
        (rw away.0 (unpinged (s == t) (since_at xs t) (ne_eqb s t (λ is. away.1 (sym is ∙ same.1)))))
    | inr other ↦ rw other.0 (rw away.0 (at_ping s xs t))
  ]
]
  where
    unpinged : (b : Bool) (o : Option Since) → b ≡ false → o ≡ option_map (pinged_if b) o
    unpinged b None e = refl
    unpinged b (Some x) e = ap (λ c. Some (pinged_if c x)) (sym e)

-- ---- the order

pub falls_more : (latest later : ℤ) (xs : List (ℕ × Since)) → latest ≤ℤ later → Falls latest xs → Falls later xs
falls_more latest later [] l i = tt
falls_more latest later (x ∷ xs) l i = (le_trans x.1.moment latest later i.0 l, i.1)

falls_removed : (latest : ℤ) (s : ℕ) (xs : List (ℕ × Since)) → Falls latest xs
    → Falls latest (remove_entry (nat_eq s) xs)
falls_removed latest s [] i = tt
falls_removed latest s (x ∷ xs) i = elim (nat_eq s x.0) as
    (λ b. Falls latest (cond b xs (x ∷ remove_entry (nat_eq s) xs))) [
      | true ↦ falls_more x.1.moment latest xs i.0 i.1
      | false ↦ (i.0, falls_removed x.1.moment s xs i.1)
    ]

falls_ping : (latest : ℤ) (s : ℕ) (xs : List (ℕ × Since)) → Falls latest xs → Falls latest (with_ping s xs)
falls_ping latest s [] i = tt
falls_ping latest s (x ∷ xs) i = elim (nat_eq s x.0) as
    (λ b. Falls latest (cond b ((x.0, record { moment = x.1.moment; pinged = true }) ∷ xs) (x ∷ with_ping s xs))) [
      | true ↦ i
      | false ↦ (i.0, falls_ping x.1.moment s xs i.1)
    ]

-- ---- sessions that are pinged

-- a ping takes nobody out
kept_some : (b : Bool) (o : Option Since) → is_some (option_map (pinged_if b) o) ≡ is_some o
kept_some b None = refl
kept_some b (Some x) = refl

pub still_kept : (s : ℕ) (xs : List (ℕ × Since)) (t : ℕ) → is_some (since_at (with_ping s xs) t)
    ≡ is_some (since_at xs t)
still_kept s xs t = ap is_some (at_ping s xs t) ∙ kept_some (s == t) (since_at xs t)

pinged_twice : (a b : Bool) (o : Option Since) → option_map (pinged_if b) (option_map (pinged_if a) o)
    ≡ option_map (pinged_if (a || b)) o
pinged_twice a b None = refl
pinged_twice true true (Some x) = refl
pinged_twice true false (Some x) = refl
pinged_twice false b (Some x) = refl

unpinged_same : (o : Option Since) → o ≡ option_map (pinged_if false) o
unpinged_same None = refl
unpinged_same (Some x) = refl

pub at_pings : (xs : List (ℕ × Since)) (ts : List ℕ) (t : ℕ) → since_at (with_pings xs ts) t
    ≡ option_map (pinged_if (list_any (λ u. u == t) ts)) (since_at xs t)
at_pings xs [] t = unpinged_same (since_at xs t)
at_pings xs (s ∷ ts) t =
    at_pings (with_ping s xs) ts t ∙ ap (option_map (pinged_if (list_any (λ u. u == t) ts))) (at_ping s xs t)
    ∙ pinged_twice (s == t) (list_any (λ u. u == t) ts) (since_at xs t)

falls_pings : (latest : ℤ) (xs : List (ℕ × Since)) (ts : List ℕ) → Falls latest xs → Falls latest (with_pings xs ts)
falls_pings latest xs [] i = i
falls_pings latest xs (s ∷ ts) i = falls_pings latest (with_ping s xs) ts (falls_ping latest s xs i)

-- who was silent and not pinged before is pinged now
pinged_now : (was silent pinged : Bool) → pinged ≡ (silent && not was) → (was || silent) ≡ (pinged || was)
pinged_now true silent pinged e = elim pinged as (λ b. true ≡ (b || true)) [ true ↦ refl | false ↦ refl ]
pinged_now false true pinged e = sym (ap (λ b. b || false) e)
pinged_now false false pinged e = sym (ap (λ b. b || false) e)

pinged_says : (b : Bool) (x : Since) → (b || x.pinged) ≡ (pinged_if b x).pinged
pinged_says true x = refl
pinged_says false x = refl

pinged_moment : (b : Bool) (x : Since) → x.moment ≡ (pinged_if b x).moment
pinged_moment true x = refl
pinged_moment false x = refl

-- ---- what the history says after a record

or-false : (b : Bool) → (b || false) ≡ b
or-false true = refl
or-false false = refl

-- of whom a record doesn't tell that is no tick
untold : (h : List Rec) (k : Kind) (moment : ℤ) (x : Since) (t : ℕ) → hears_of k t ≡ false → is_tick k ≡ false
    → IsSince x h t → IsSince x (fresh_record h moment k ∷ h) t
untold h k moment x t unheard_ no_tick_ i =
    record {
      moment = ap (λ b. cond b (Some moment) (idle_since h t)) unheard_ ∙ i.moment;
      pinged =
          ap (λ b. cond b false (was_pinged h t || (is_tick k && is_silent h t moment))) unheard_
          ∙ ap (λ b. was_pinged h t || (b && is_silent h t moment)) no_tick_ ∙ or-false (was_pinged h t) ∙ i.pinged;
    }

-- whom a record tells of
told_of : (h : List Rec) (k : Kind) (moment : ℤ) (t : ℕ) → hears_of k t ≡ true
    → IsSince (record { moment = moment; pinged = false }) (fresh_record h moment k ∷ h) t
told_of h k moment t heard_ =
    record {
      moment = ap (λ b. cond b (Some moment) (idle_since h t)) heard_;
      pinged = ap (λ b. cond b false (was_pinged h t || (is_tick k && is_silent h t moment))) heard_;
    }

module _ {O : Type 0} where
  -- what is kept of one session is right
  abbrev pub IsRight : List Rec → List (Option O) → ℕ → Option Since → Type 0
  IsRight h boxes t o = IfSome o (λ x. IsThere boxes t × IsSince x h t)

  right_by : (h k : List Rec) (boxes more : List (Option O)) (t : ℕ) (o : Option Since)
      → (IsThere boxes t → IsThere more t) → ((x : Since) → IsSince x h t → IsSince x k t) → IsRight h boxes t o
      → IsRight k more t o
  right_by h k boxes more t None there says i = tt
  right_by h k boxes more t (Some x) there says i = (there i.0, says x i.1)

  -- ---- the same by equal values

  pub since_as : (xs ys : List (ℕ × Since)) (h k : List Rec) (boxes more : List (Option O)) → AreSince xs h boxes
      → ys ≡ xs → k ≡ h → more ≡ boxes → AreSince ys k more
  since_as xs ys h k boxes more i ex eh eb =
      subst (λ (zs : List (ℕ × Since)). AreSince zs k more) (sym ex) (subst (λ (l : List Rec). AreSince xs l more)
      (sym eh) (subst (λ (bs : List (Option O)). AreSince xs h bs) (sym eb) i))

  pub since_none : (xs : List (ℕ × Since)) (h : List Rec) (boxes : List (Option O)) → xs ≡ [] → boxes ≡ []
      → AreSince xs h boxes
  since_none xs h boxes ex eb =
      subst (λ (zs : List (ℕ × Since)). AreSince zs h boxes) (sym ex)
      (record {
        each = λ t. tt;
        all = λ t there. absurd (let a = there.from_1 in let b = there.opened in
            let none : length boxes ≡ 0 = ap length eb in omega arith);
        order = tt;
      })

  -- ---- a record that tells of nobody

  pub since_record : (xs : List (ℕ × Since)) (h : List Rec) (k : Kind) (moment : ℤ) (boxes : List (Option O))
      → AreSince xs h boxes → ((t : ℕ) → hears_of k t ≡ false) → is_tick k ≡ false → last_moment h ≤ℤ moment
      → AreSince xs (fresh_record h moment k ∷ h) boxes
  since_record xs h k moment boxes i unheard_ no_tick_ later =
      record {
        each = λ t. right_by h (fresh_record h moment k ∷ h) boxes boxes t (since_at xs t) (λ there. there)
            (λ x says. untold h k moment x t (unheard_ t) no_tick_ says) (i.each t);
        all = i.all;
        order = falls_more (last_moment h) moment xs later i.order;
      }

  -- a session missed the newest record
  pub since_missed : (xs : List (ℕ × Since)) (h : List Rec) (s : ℕ) (boxes : List (Option O)) → AreSince xs h boxes
      → AreSince xs (miss h s) boxes
  since_missed xs [] s boxes i = i
  since_missed xs (r ∷ h) s boxes i = record {
    each = λ t. right_by (r ∷ h) (miss (r ∷ h) s) boxes boxes t
        (since_at xs t) (λ there. there) (λ x says. record { moment = says.moment; pinged = says.pinged })
        (i.each t);
    all = i.all;
    order = i.order;
  }

  -- ---- outboxes changed, of those that were there

  pub since_put : (xs : List (ℕ × Since)) (h : List Rec) (boxes : List (Option O)) (s : ℕ) (v : O)
      → AreSince xs h boxes → is_here boxes s ≡ true → 0 < s → s ≤ length boxes
      → AreSince xs h (slice_set boxes (s - 1) (Some v))
  since_put xs h boxes s v i here from to =
      let new = slice_set boxes (s - 1) (Some v) in let len : length new ≡ length boxes = simp length-set in
      record {
        each = λ t. right_by h h boxes new t (since_at xs t)
            (λ there. record {
              from_1 = there.from_1;
              opened = (let l = there.opened in omega arith);
              here = sym
                  (here_same boxes s t v here from to there.from_1) ∙ there.here;
            }) (λ x says. says) (i.each t);
        all = λ t there. i.all t (record {
          from_1 = there.from_1;
          opened = (let l = there.opened in omega arith);
          here = here_same boxes s t v here from to there.from_1 ∙ there.here;
        });
        order = i.order;
      }

  -- ---- a line is said

  pub since_said : (xs : List (ℕ × Since)) (h : List Rec) (s n : ℕ) (piece : Piece) (moment : ℤ)
      (boxes : List (Option O)) → AreSince xs h boxes → IsThere boxes s → last_moment h ≤ℤ moment
      → AreSince ((s, record { moment = moment; pinged = false }) ∷ remove_entry (nat_eq s) xs)
      (fresh_record h moment (Said s n piece) ∷ h) boxes
  since_said xs h s n piece moment boxes i there later =
      let k = Said s n piece in
      let new : Since = record { moment = moment; pinged = false } in let ys = (s, new) ∷ remove_entry (nat_eq s) xs in
      record {
        each = λ t. elim (eqb_tells s t) [
          | inl same ↦ subst (λ (u : ℕ). IsRight (fresh_record h moment k ∷ h) boxes u (since_at ys u)) same.1
              (rw (eq-eqb s s refl) (there, told_of h k moment s (eq-eqb s s refl)))
          | inr other ↦
              subst (IsRight (fresh_record h moment k ∷ h) boxes t)
              (sym (ap (λ b. cond b (Some new) (since_at (remove_entry (nat_eq s) xs) t))
              (ne_eqb t s (λ e. other.1 (sym e))) ∙ at_removed s xs t other.1))
              (right_by h (fresh_record h moment k ∷ h) boxes boxes t (since_at xs t) (λ b. b)
              (λ x says. untold h k moment x t other.0 refl says) (i.each t))
        ];
        all = λ t is. elim (eqb_tells t s) [
          | inl same ↦ rw same.0 refl
          | inr other ↦ rw other.0 (ap is_some (at_removed s xs t (λ e. other.1 (sym e))) ∙ i.all t is)
        ];
        order = (le_refl moment, falls_removed moment s xs (falls_more (last_moment h) moment xs later i.order));
      }

  -- ---- a session is opened

  pub since_opened : (xs : List (ℕ × Since)) (h : List Rec) (s : ℕ) (host : List ℕ) (moment : ℤ)
      (boxes : List (Option O)) (box : O) → AreSince xs h boxes → s ≡ length boxes + 1 → last_moment h ≤ℤ moment
      → AreSince ((s, record { moment = moment; pinged = false }) ∷ xs) (fresh_record h moment (Opened s host) ∷ h)
      (boxes ++ Some box ∷ [])
  since_opened xs h s host moment boxes box i next later =
      let k = Opened s host in
      let new : Since = record { moment = moment; pinged = false } in
      let ys = (s, new) ∷ xs in let all = boxes ++ Some box ∷ [] in
      let more : length all ≡ length boxes + 1 = length-append boxes (Some box ∷ []) in
      let here : is_here all s ≡ true = ap is_some
      (get_or_push boxes (Some box) None (s - 1) (let e : length boxes ≡ s - 1 = omega arith in e)) in
      let same : (t : ℕ) → 0 < t → t ≤ length boxes → is_here all t
      ≡ is_here boxes t = λ t from to. ap is_some (get_or_append_left boxes (Some box ∷ []) None (t - 1)
      (let l : t - 1 < length boxes = omega arith in l)) in
      record {
        each = λ t. elim (eqb_tells s t) [
          | inl equal ↦ subst (λ (u : ℕ). IsRight (fresh_record h moment k ∷ h) all u (since_at ys u)) equal.1
              (rw (eq-eqb s s refl) (
                record { from_1 = omega arith; opened = omega arith; here = here },
                told_of h k moment s (eq-eqb s s refl),
              ))
          | inr other ↦
              subst (IsRight (fresh_record h moment k ∷ h) all t)
              (sym (ap (λ b. cond b (Some new) (since_at xs t)) (ne_eqb t s (λ e. other.1 (sym e)))))
              (right_by h (fresh_record h moment k ∷ h) boxes all t (since_at xs t)
              (λ there. record {
                from_1 = there.from_1;
                opened = (let l = there.opened in omega arith);
                here = same t there.from_1 there.opened ∙ there.here;
              })
              (λ x says. untold h k moment x t other.0 refl says) (i.each t))
        ];
        all = λ t is. elim (eqb_tells t s) [
          | inl equal ↦ rw equal.0 refl
          | inr other ↦
              let to : t ≤ length boxes = let l = is.opened in let ne = other.1 in omega arith in
              rw other.0
              (i.all t (record { from_1 = is.from_1; opened = to; here = sym (same t is.from_1 to) ∙ is.here }))
        ];
        order = (le_refl moment, falls_more (last_moment h) moment xs later i.order);
      }

  -- nobody of the next number is kept yet
  pub since_next : (xs : List (ℕ × Since)) (h : List Rec) (boxes : List (Option O)) (t : ℕ) → AreSince xs h boxes
      → length boxes < t → since_at xs t ≡ None
  since_next xs h boxes t i past = by (since_at xs t) (i.each t)
    where
      by : (o : Option Since) → IsRight h boxes t o → o ≡ None
      by None r = refl
      by (Some x) r = absurd (let l = r.0.opened in omega arith)

  -- ---- a session is given up

  pub since_reaped : (xs : List (ℕ × Since)) (h : List Rec) (boxes : List (Option O)) (s : ℕ)
      → AreSince xs h boxes → IsDistinct nat_eq (keys_of xs) → 0 < s → s ≤ length boxes
      → AreSince (remove_entry (nat_eq s) xs) h (slice_set boxes (s - 1) None)
  since_reaped xs h boxes s i once from to =
      let new = slice_set boxes (s - 1) None in let len : length new ≡ length boxes = simp length-set in
      let gone_ : since_at (remove_entry (nat_eq s) xs) s ≡ None = lookup-remove_entry nat_eq_equiv (nat_eq s)
      (λ x y e. ap (λ (n : ℕ). nat_eq n y) (same_number s x e)) s xs once ∙ rw (eq-eqb s s refl) refl in
      record {
        each = λ t. elim (eqb_tells s t) [
          | inl same ↦ subst (λ (u : ℕ). IsRight h new u (since_at (remove_entry (nat_eq s) xs) u)) same.1
              (subst (IsRight h new s) (sym gone_) tt)
          | inr other ↦
              subst (IsRight h new t) (sym (at_removed s xs t other.1))
              (right_by h h boxes new t (since_at xs t)
              (λ there. record {
                from_1 = there.from_1;
                opened = (let l = there.opened in omega arith);
                here = ap is_some (box_other boxes s t None from there.from_1 other.1) ∙ there.here;
              })
              (λ x says. says) (i.each t))
        ];
        all = λ t is. elim (eqb_tells s t) [
          | inl same ↦ absurd (let f : false ≡ true = ap is_some (sym (box_same boxes s None from to))
              ∙ ap (is_here new) same.1 ∙ is.here in cc)
          | inr other ↦
              ap is_some (at_removed s xs t other.1)
              ∙ i.all t (record {
                from_1 = is.from_1;
                opened = (let l = is.opened in omega arith);
                here = ap is_some (sym (box_other boxes s t None from is.from_1 other.1)) ∙ is.here;
              })
        ];
        order = falls_removed (last_moment h) s xs i.order;
      }
    where
      same_number : (s x : ℕ) → nat_eq s x ≡ true → s ≡ x
      same_number s x e = elim (eqb_tells s x) [
        | inl same ↦ same.1
        | inr other ↦ absurd (let f : false ≡ true = sym other.0 ∙ e in cc)
      ]

  -- ---- sessions are pinged

  pub since_ticked : (xs : List (ℕ × Since)) (h : List Rec) (moment : ℤ) (boxes : List (Option O)) (ts : List ℕ)
      → AreSince xs h boxes → last_moment h ≤ℤ moment
      → ((t : ℕ) → IsThere boxes t → list_any (λ u. u == t) ts ≡ is_pinged h t moment)
      → AreSince (with_pings xs ts) (fresh_record h moment Ticked ∷ h) boxes
  since_ticked xs h moment boxes ts i later whom =
      record {
        each = λ t. subst (IsRight (fresh_record h moment Ticked ∷ h) boxes t) (sym (at_pings xs ts t))
            (by t (since_at xs t) (i.each t));
        all = λ t there. ap is_some (at_pings xs ts t) ∙ still (list_any (λ u. u == t) ts) (since_at xs t)
            (i.all t there);
        order = falls_more (last_moment h) moment (with_pings xs ts) later (falls_pings (last_moment h) xs ts i.order);
      }
    where
      still : (b : Bool) (o : Option Since) → is_some o ≡ true → is_some (option_map (pinged_if b) o) ≡ true
      still b None e = e
      still b (Some x) e = refl

      by : (t : ℕ) (o : Option Since) → IsRight h boxes t o → IsRight (fresh_record h moment Ticked ∷ h) boxes t
          (option_map (pinged_if (list_any (λ u. u == t) ts)) o)
      by t None r = tt
      by t (Some x) r =
          let b = list_any (λ u. u == t) ts in (
            r.0,
            record {
              moment = r.1.moment ∙ ap (λ m. Some m) (pinged_moment b x);
              pinged = pinged_now (was_pinged h t) (is_silent h t moment) b (whom t r.0) ∙ ap
                  (λ w. b || w) r.1.pinged ∙ pinged_says b x;
            },
          )
