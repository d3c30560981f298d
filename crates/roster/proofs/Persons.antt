-- What is known of sessions after a fact, and in their tables.
use Rattle.std.proofs.lemmas.Bool.Decides.{eqb_tells, nat_tests}
use Rattle.std.proofs.Common.{◌≡◌, ◌≢◌, inl, inr, ℕ, zero, suc, ◌+◌, Bool, true, false, ◌==◌, ◌||◌, cond}
use Rattle.std.proofs.Common.{nat_le, nat_lt, List, [], ◌∷◌, ◌++◌, length, unwrap_or, Option, Some, None}
use Rattle.std.proofs.Common.{arith, refl, sym, ap, ◌∙◌, subst, ne_eqb, eq-eqb, length-append}
use Rattle.std.specs.Str.{bytes_eq}
use Rattle.std.specs.List.{find}
use Rattle.casemapping.specs.Fold.{name_fold, is_same}
use Rattle.casemapping.proofs.SameNames.{is_same-refl, is_same-true}
use Rattle.channel_state.specs.State.{among}
use Rattle.roster.specs.declared.deed.Deed.{Deed}
use Rattle.roster.specs.declared.deed.Deed.TheVariants.{Opened, NickSet, UserSet, HoldSet, CapsSet}
use Rattle.roster.specs.declared.deed.Deed.TheVariants.{ExchangeSet, LoggedIn, Enrolled, AwaySet}
use Rattle.roster.specs.declared.deed.Deed.TheVariants.{InvisibleSet, ChannelMade, Changed, Ended, Gone}
use Rattle.roster.specs.Legal.{IsOpened, IsFree, IsNext}
use Rattle.roster.specs.LookBack.{numbers, opened_in, nick, is_named, holder}
use Rattle.roster.specs.Tables.{after_deed, is_about, is_plain, is_opening, held_by, is_freed, Frees, IsOf}
use Rattle.roster.specs.Stands.{person, AreHolders}
use Rattle.roster.proofs.Bools.{either}
use Rattle.roster.proofs.Keyed.{same_is}
use Rattle.roster.proofs.Rising.{among-numbers}

-- ---- numbers

pub numbers_push : (k n : ℕ) → numbers k (suc n) ≡ numbers k n ++ (k + n) ∷ []
numbers_push k zero = let e : k ≡ k + 0 = omega arith in ap (λ (j : ℕ). j ∷ []) e
numbers_push k (suc n) = let e : k + 1 + n ≡ k + suc n = omega arith in
    ap (λ xs. k ∷ xs) (numbers_push (k + 1) n ∙ ap (λ (j : ℕ). numbers (k + 1) n ++ j ∷ []) e)

pub length-numbers : (k n : ℕ) → length (numbers k n) ≡ n
length-numbers k zero = refl
length-numbers k (suc n) = ap suc (length-numbers (k + 1) n)

-- ---- a person

-- what is known of a session after a fact
pub person_after : (d : Deed) (fs : List Deed) (s : ℕ) → person (d ∷ fs) s
    ≡ cond (is_about s d) (after_deed d (person fs s)) (person fs s)
person_after (Opened u h) fs s = elim (eqb_tells u s) [ inl same ↦ rw same.0 refl | inr other ↦ rw other.0 refl ]
person_after (NickSet u n) fs s = elim (eqb_tells u s) [ inl same ↦ rw same.0 refl | inr other ↦ rw other.0 refl ]
person_after (UserSet u n r) fs s = elim (eqb_tells u s) [ inl same ↦ rw same.0 refl | inr other ↦ rw other.0 refl ]
person_after (HoldSet u x) fs s = elim (eqb_tells u s) [ inl same ↦ rw same.0 refl | inr other ↦ rw other.0 refl ]
person_after (CapsSet u x) fs s = elim (eqb_tells u s) [ inl same ↦ rw same.0 refl | inr other ↦ rw other.0 refl ]
person_after (ExchangeSet u x) fs s = elim (eqb_tells u s) [ inl same ↦ rw same.0 refl | inr other ↦ rw other.0 refl ]
person_after (LoggedIn u x) fs s = elim (eqb_tells u s) [ inl same ↦ rw same.0 refl | inr other ↦ rw other.0 refl ]
person_after (Enrolled u) fs s = elim (eqb_tells u s) [ inl same ↦ rw same.0 refl | inr other ↦ rw other.0 refl ]
person_after (AwaySet u x) fs s = elim (eqb_tells u s) [ inl same ↦ rw same.0 refl | inr other ↦ rw other.0 refl ]
person_after (InvisibleSet u x) fs s = elim (eqb_tells u s) [ inl same ↦ rw same.0 refl | inr other ↦ rw other.0 refl ]
person_after (ChannelMade u k) fs s = refl
person_after (Changed k x) fs s = refl
person_after (Ended u w x) fs s = elim (eqb_tells u s) [ inl same ↦ rw same.0 refl | inr other ↦ rw other.0 refl ]
person_after (Gone u) fs s = elim (eqb_tells u s) [ inl same ↦ rw same.0 refl | inr other ↦ rw other.0 refl ]

-- the sessions that were opened
pub opened_after : (d : Deed) (fs : List Deed) (n m : ℕ) → opened_in fs ≡ numbers 1 n → IsNext fs d
    → m ≡ n + cond (is_opening d) 1 0 → opened_in (d ∷ fs) ≡ numbers 1 m
opened_after (Opened u h) fs n m e x c =
    let many = ap length e ∙ length-numbers 1 n in
    let last : u ≡ 1 + n = (let y = x in omega arith) in let more : m ≡ suc n = omega arith in
    ap (λ xs. xs ++ u ∷ []) e ∙ ap (λ (j : ℕ). numbers 1 n ++ j ∷ []) last ∙ sym (numbers_push 1 n)
    ∙ ap (numbers 1) (sym more)
opened_after _ fs n m e x c = let same : n ≡ m = omega arith in e ∙ ap (numbers 1) same

-- a fact that tells why a session ended tells it of one that was opened
pub of_next : (d : Deed) (fs : List Deed) (n : ℕ) → opened_in fs ≡ numbers 1 n → IsNext fs d → IsOf n d
of_next (Opened u h) fs n e x = let many = ap length e ∙ length-numbers 1 n in x ∙ ap suc many
of_next (Ended u w z) fs n e x = let many = ap length e ∙ length-numbers 1 n in (x.0, (let to = x.1 in omega arith))
of_next (Gone u) fs n e x = let many = ap length e ∙ length-numbers 1 n in (x.0, (let to = x.1 in omega arith))
of_next _ fs n e x = tt

-- who was opened still is
pub still_opened : (d : Deed) (fs : List Deed) (s : ℕ) → IsOpened fs s → IsOpened (d ∷ fs) s
still_opened (Opened u h) fs s o =
    (o.0, (let e = length-append (opened_in fs) (u ∷ []) in let to = o.1 in omega arith))
still_opened _ fs s o = o

-- a plain fact that opens no session leaves nicknames
pub nick_still : (d : Deed) (fs : List Deed) (s : ℕ) → is_plain d ≡ true → is_opening d ≡ false
    → nick (d ∷ fs) s ≡ nick fs s
nick_still (Opened u h) fs s p o = absurd (let f : true ≡ false = o in cc)
nick_still (NickSet u n) fs s p o = absurd (let f : false ≡ true = p in cc)
nick_still (ChannelMade u k) fs s p o = absurd (let f : false ≡ true = p in cc)
nick_still (Changed k x) fs s p o = absurd (let f : false ≡ true = p in cc)
nick_still (Gone u) fs s p o = absurd (let f : false ≡ true = p in cc)
nick_still _ fs s p o = refl

-- ---- who holds a nickname

find_only : (p : ℕ → Bool) (xs : List ℕ) (s : ℕ) → p s ≡ true → among s xs ≡ true → ((t : ℕ) → p t ≡ true → t ≡ s)
    → find p xs ≡ Some s
find_only p [] s is has only = absurd (let f : false ≡ true = has in cc)
find_only p (x ∷ xs) s is has only = elim (either (p x)) [
  | inl it ↦ ap (λ b. cond b (Some x) (find p xs)) it ∙ ap (λ (k : ℕ). Some k) (only x it)
  | inr miss ↦
      let other : (x == s) ≡ false = ne_eqb x s (λ e. absurd (let f : false ≡ true = sym miss ∙ ap p e ∙ is in cc)) in
      ap (λ b. cond b (Some x) (find p xs)) miss ∙ find_only p xs s is
      (sym (ap (λ b. b || among s xs) other) ∙ has) only
]

find_nobody : (p : ℕ → Bool) (xs : List ℕ) → ((t : ℕ) → p t ≡ false) → find p xs ≡ None
find_nobody p [] none = refl
find_nobody p (x ∷ xs) none = ap (λ b. cond b (Some x) (find p xs)) (none x) ∙ find_nobody p xs none

some_is : (x y : ℕ) → Some x ≡ Some y → x ≡ y
some_is x y e = cc

module _ (hs : List (List ℕ × ℕ)) (fs : List Deed) (i : AreHolders hs fs) where
  -- the index has the session that a look-back finds
  pub holder_is : (n m : ℕ) (k : List ℕ) → m ≡ n → opened_in fs ≡ numbers 1 n → held_by hs (name_fold k) ≡ holder fs k
  holder_is n m k same e = by (held_by hs (name_fold k)) refl
    where
      by : (o : Option ℕ) → held_by hs (name_fold k) ≡ o → o ≡ holder fs k
      by (Some s) at =
          let is = i.named s k at in
          let o = i.opened s k is in let from = o.0 in let to = o.1 in let many = ap length e ∙ length-numbers 1 n in
          let low : nat_le 1 s ≡ true = grind (arith, nat_tests) in
          let high : nat_lt s (1 + n) ≡ true = grind (arith, nat_tests) in
          let has : among s (opened_in fs) ≡ true = ap (among s) e ∙ among-numbers s 1 n ∙ rw (low, high) refl in
          sym (find_only (λ t. is_named (nick fs t) k) (opened_in fs) s is has
          (λ t it. some_is t s (sym (i.found t k it) ∙ at)))
      by None at =
          sym (find_nobody (λ t. is_named (nick fs t) k) (opened_in fs) (λ t. elim (either (is_named (nick fs t) k)) [
            | inl it ↦ absurd (let f : Some t ≡ None = sym (i.found t k it) ∙ at in cc)
            | inr miss ↦ miss
          ]))

  -- nobody else has a nickname that is free
  alone : (n t s : ℕ) (k m : List ℕ) → opened_in fs ≡ numbers 1 n → IsFree fs t k → is_same k m ≡ true
      → held_by hs (name_fold m) ≡ Some s → s ≡ t
  alone n t s k m e free same at = free s (sym (holder_is n n k refl e) ∙ ap (held_by hs) (is_same-true k m same) ∙ at)

  -- who wasn't opened has none
  pub unopened_nick : (s : ℕ) → (IsOpened fs s → ⊥) → nick fs s ≡ None
  unopened_nick s unopened = by (nick fs s) refl
    where
      by : (o : Option (List ℕ)) → nick fs s ≡ o → o ≡ None
      by None e = refl
      by (Some n) e = absurd (unopened (i.opened s n (ap (λ o. is_named o n) e ∙ is_same-refl n)))

  -- a plain fact
  pub holders_plain : (d : Deed) → is_plain d ≡ true → IsNext fs d → AreHolders hs (d ∷ fs)
  holders_plain d p x = elim (either (is_opening d)) [
    | inl new ↦ opening d new x
    | inr old ↦ record {
      found = λ s n e. i.found s n (ap (λ o. is_named o n) (sym (nick_still d fs s p old)) ∙ e);
      named = λ s n e. ap (λ o. is_named o n) (nick_still d fs s p old) ∙ i.named s n e;
      opened = λ s n e. still_opened d fs s
          (i.opened s n (ap (λ o. is_named o n) (sym (nick_still d fs s p old)) ∙ e));
    }
  ]
    where
      unnamed : (u : ℕ) (h : List ℕ) (s : ℕ) (n : List ℕ) → u ≢ s → is_named (nick (Opened u h ∷ fs) s) n
          ≡ is_named (nick fs s) n
      unnamed u h s n ne = ap (λ b. is_named (unwrap_or (cond b (Some None) None) (nick fs s)) n) (ne_eqb u s ne)

      new_one : (u : ℕ) (h : List ℕ) (s : ℕ) (n : List ℕ) → u ≡ s → is_named (nick (Opened u h ∷ fs) s) n ≡ false
      new_one u h s n e = ap (λ b. is_named (unwrap_or (cond b (Some None) None) (nick fs s)) n) (eq-eqb u s e)

      opening : (d : Deed) → is_opening d ≡ true → IsNext fs d → AreHolders hs (d ∷ fs)
      opening (Opened u h) new x = record {
        found = λ s n e. elim (eqb_tells u s) [
          | inl same ↦ absurd (let f : false ≡ true = sym (new_one u h s n same.1) ∙ e in cc)
          | inr other ↦ i.found s n (sym (unnamed u h s n other.1) ∙ e)
        ];
        named = λ s n e. elim (eqb_tells u s) [
          | inl same ↦ absurd (let o = i.opened s n (i.named s n e) in let to = o.1 in let y = x in
              let z = same.1 in omega arith)
          | inr other ↦ unnamed u h s n other.1 ∙ i.named s n e
        ];
        opened = λ s n e. elim (eqb_tells u s) [
          | inl same ↦ absurd (let f : false ≡ true = sym (new_one u h s n same.1) ∙ e in cc)
          | inr other ↦ still_opened (Opened u h) fs s (i.opened s n (sym (unnamed u h s n other.1) ∙ e))
        ];
      }
      opening _ new x = absurd (let f : false ≡ true = new in cc)

  -- ---- a nickname is given back

  module _ (mid : List (List ℕ × ℕ)) (t : ℕ) (f : Frees hs mid (nick fs t)) where
    -- what it was is freed, and nothing else
    freed_is : (m : List ℕ) → is_freed (nick fs t) (name_fold m) ≡ is_named (nick fs t) m
    freed_is m = by (nick fs t)
      where
        by : (o : Option (List ℕ)) → is_freed o (name_fold m) ≡ is_named o m
        by None = refl
        by (Some n) = sym (same_is n m)

    given_back : (m : List ℕ) → held_by mid (name_fold m)
        ≡ cond (is_named (nick fs t) m) None (held_by hs (name_fold m))
    given_back m = f (name_fold m) ∙ ap (λ b. cond b None (held_by hs (name_fold m))) (freed_is m)

    -- others keep theirs
    pub others_found : (s : ℕ) (m : List ℕ) → t ≢ s → is_named (nick fs s) m ≡ true → held_by mid (name_fold m)
        ≡ Some s
    others_found s m ne is = elim (either (is_named (nick fs t) m)) [
      | inl it ↦ absurd (ne (some_is t s (sym (i.found t m it) ∙ i.found s m is)))
      | inr miss ↦ given_back m ∙ ap (λ b. cond b None (held_by hs (name_fold m))) miss ∙ i.found s m is
    ]

    -- whoever is found has it, and is another
    pub others_named : (s : ℕ) (m : List ℕ) → held_by mid (name_fold m) ≡ Some s
        → (is_named (nick fs s) m ≡ true) × (t ≢ s)
    others_named s m at = elim (either (is_named (nick fs t) m)) [
      | inl it ↦ absurd
          (let g : None ≡ Some s = sym (given_back m ∙ ap (λ b. cond b None (held_by hs (name_fold m))) it) ∙ at in cc)
      | inr miss ↦
          let was = sym (given_back m ∙ ap (λ b. cond b None (held_by hs (name_fold m))) miss) ∙ at in
          let is = i.named s m was in
          (is, λ e. absurd (let g : false ≡ true = sym miss ∙ ap (λ (u : ℕ). is_named (nick fs u) m) e ∙ is in cc))
    ]

    pub holders_gone : AreHolders mid (Gone t ∷ fs)
    holders_gone = record {
      found = λ s m e. elim (eqb_tells t s) [
        | inl same ↦ absurd (let g : false
            ≡ true = sym (ap (λ b. is_named (unwrap_or (cond b (Some None) None) (nick fs s)) m) same.0) ∙ e in cc)
        | inr other ↦ others_found s m other.1
            (sym (ap (λ b. is_named (unwrap_or (cond b (Some None) None) (nick fs s)) m) other.0) ∙ e)
      ];
      named = λ s m at. let o = others_named s m at in
          ap (λ b. is_named (unwrap_or (cond b (Some None) None) (nick fs s)) m) (ne_eqb t s o.1) ∙ o.0;
      opened = λ s m e. elim (eqb_tells t s) [
        | inl same ↦ absurd (let g : false
            ≡ true = sym (ap (λ b. is_named (unwrap_or (cond b (Some None) None) (nick fs s)) m) same.0) ∙ e in cc)
        | inr other ↦ i.opened s m
            (sym (ap (λ b. is_named (unwrap_or (cond b (Some None) None) (nick fs s)) m) other.0) ∙ e)
      ];
    }

    -- and another taken
    pub holders_renamed : (now : List (List ℕ × ℕ)) (n : ℕ) (k : List ℕ) → opened_in fs ≡ numbers 1 n → IsOpened fs t
        → IsFree fs t k
        → ((j : List ℕ) → held_by now j ≡ cond (bytes_eq (name_fold k) j) (Some t) (held_by mid j))
        → AreHolders now (NickSet t k ∷ fs)
    holders_renamed now n k e o free took =
        let taken : (m : List ℕ) → held_by now (name_fold m)
        ≡ cond (is_same k m) (Some t) (held_by mid (name_fold m)) =
        λ m. took (name_fold m) ∙ ap (λ b. cond b (Some t) (held_by mid (name_fold m))) (sym (same_is k m)) in
        let own : (s : ℕ) (m : List ℕ) → t ≡ s → is_named (nick (NickSet t k ∷ fs) s) m ≡ is_same k m = λ s m it. ap
        (λ b. is_named (unwrap_or (cond b (Some (Some k)) None) (nick fs s)) m) (eq-eqb t s it) in
        let other : (s : ℕ) (m : List ℕ) → t ≢ s → is_named (nick (NickSet t k ∷ fs) s) m ≡ is_named (nick fs s) m =
        λ s m ne. ap (λ b. is_named (unwrap_or (cond b (Some (Some k)) None) (nick fs s)) m) (ne_eqb t s ne) in
        record {
          found = λ s m is. elim (eqb_tells t s) [
            | inl same ↦ taken m ∙ ap (λ b. cond b (Some t) (held_by mid (name_fold m))) (sym (own s m same.1) ∙ is)
                ∙ ap (λ (u : ℕ). Some u) same.1
            | inr away ↦
                let was = sym (other s m away.1) ∙ is in
                elim (either (is_same k m)) [
                  | inl it ↦ absurd (away.1 (sym (alone n t s k m e free it (i.found s m was))))
                  | inr miss ↦ taken m ∙ ap (λ b. cond b (Some t) (held_by mid (name_fold m))) miss
                      ∙ others_found s m away.1 was
                ]
          ];
          named = λ s m at. elim (either (is_same k m)) [
            | inl it ↦ own s m
                (some_is t s (sym (taken m ∙ ap (λ b. cond b (Some t) (held_by mid (name_fold m))) it) ∙ at)) ∙ it
            | inr miss ↦ let o' = others_named s m
                (sym (taken m ∙ ap (λ b. cond b (Some t) (held_by mid (name_fold m))) miss) ∙ at) in
                other s m o'.1 ∙ o'.0
          ];
          opened = λ s m is. elim (eqb_tells t s) [
            | inl same ↦ subst (IsOpened fs) same.1 o
            | inr away ↦ i.opened s m (sym (other s m away.1) ∙ is)
          ];
        }
