-- The channels that invite a session are noted.
use Rattle.std.proofs.lemmas.Bool.Decides.{eqb_tells}
use Rattle.std.proofs.lemmas.List.Folds.{list_any-append}
use Rattle.std.proofs.lemmas.Map.Views.{any-filter_same}
use Rattle.std.proofs.Common.{◌≡◌, inl, inr, ℕ, Bool, true, false, not, ◌&&◌, ◌||◌, ◌==◌}
use Rattle.std.proofs.Common.{cond, List, [], ◌∷◌, filter, sym, ap, ◌∙◌}
use Rattle.casemapping.specs.Fold.{is_same}
use Rattle.casemapping.proofs.SameNames.{is_same-sym, is_same-left}
use Rattle.channel_state.specs.declared.change.Change.{Change}
use Rattle.channel_state.specs.declared.change.Change.TheVariants.{Joined, RankSet}
use Rattle.channel_state.specs.declared.change.Change.TheVariants.{Invited}
use Rattle.channel_state.specs.declared.change.Rank.TheVariants.{Operator, Voice}
use Rattle.channel_state.specs.State.{State, among, without, is_some_one, nothing, made_by, with_change, after_gone}
use Rattle.channel_state.specs.State.{or_nothing}
use Rattle.roster.specs.declared.deed.Deed.{Deed}
use Rattle.roster.specs.declared.deed.Deed.TheVariants.{ChannelMade, Changed, Gone}
use Rattle.roster.specs.LookBack.{state, without_name, with_last_name}
use Rattle.roster.specs.Lists.{seat_of, seat_notes, deed_notes}
use Rattle.roster.specs.Tables.{state_in, holds_name}
use Rattle.roster.specs.declared.tables.Channel.{Channel}
use Rattle.std.specs.Option.{option_map_or}
use Rattle.roster.proofs.ChannelTable.{channel_of-same}
use Rattle.roster.proofs.Bools.{either, or-true, or-false}
use Rattle.roster.proofs.OnChannels.{among-push, among-without}
use Rattle.roster.proofs.FieldLaws.{was_there}

-- ---- names among others

pub has-last : (c k : List ℕ) (ks : List (List ℕ)) → holds_name c (with_last_name k ks)
    ≡ (holds_name c (without_name k ks) || is_same k c)
has-last c k ks = list_any-append (λ x. is_same x c) (without_name k ks) (k ∷ []) ∙ ap
    (λ b. holds_name c (without_name k ks) || b) (or-false (is_same k c))

pub has-without : (c k : List ℕ) (ks : List (List ℕ)) → holds_name c (without_name k ks)
    ≡ (not (is_same c k) && holds_name c ks)
has-without c k ks = any-filter_same (λ x. is_same x c) (λ x. not (is_same x k)) (not (is_same c k))
    (λ x e. ap not (is_same-left x c k e)) ks

has_new : (c k : List ℕ) (ks : List (List ℕ)) → is_same k c ≡ true → holds_name c (with_last_name k ks) ≡ true
has_new c k ks same = has-last c k ks ∙ ap (λ b. holds_name c (without_name k ks) || b) same
    ∙ or-true (holds_name c (without_name k ks))

has_still : (c k : List ℕ) (ks : List (List ℕ)) → holds_name c ks ≡ true → holds_name c (with_last_name k ks) ≡ true
has_still c k ks e = elim (either (is_same k c)) [
  | inl same ↦ has_new c k ks same
  | inr miss ↦
      has-last c k ks ∙ ap (λ b. b || is_same k c)
      (has-without c k ks ∙ ap (λ b. not b && holds_name c ks) (is_same-sym c k ∙ miss) ∙ e)
]

-- a note stays where its channel still invites the session
pub kept_note : (ks : List Channel) (s : ℕ) (c : List ℕ) (ns : List (List ℕ)) → among s (state_in ks c).invited
    ≡ true → holds_name c ns ≡ true → holds_name c (filter (λ k. among s (state_in ks k).invited) ns) ≡ true
kept_note ks s c ns it e =
    any-filter_same (λ k. is_same k c) (λ k. among s (state_in ks k).invited) true
    (λ k same. ap (λ o. among s (option_map_or (λ (x : Channel). x.held.state) o nothing).invited)
    (channel_of-same ks k c same) ∙ it) ns ∙ e

-- ---- who is invited

invited_once : (k : State) (b : Bool) (s : ℕ) → among s (cond b k nothing).invited ≡ true → among s k.invited ≡ true
invited_once k true s e = e
invited_once k false s e = absurd (let f : false ≡ true = e in cc)

invited_lasting : (k : State) (s : ℕ) → among s (or_nothing k).invited ≡ true → among s k.invited ≡ true
invited_lasting k s e = invited_once k (is_some_one k.members) s e

not_made : (b : Bool) (t s : ℕ) (k : State) → among s (cond b (made_by t) k).invited ≡ true → among s k.invited ≡ true
not_made true t s k e = absurd (let f : false ≡ true = e in cc)
not_made false t s k e = e

noted_new : (x : Change) (s : ℕ) (k : State) (n c : List ℕ) (ns : List (List ℕ)) → is_same n c ≡ true
    → (among s k.invited ≡ true → holds_name c ns ≡ true) → among s (with_change x k).invited ≡ true
    → holds_name c (seat_notes s n (seat_of x) ns) ≡ true
noted_new (Joined t) s k n c ns same h e = h (was_there t s k.invited e)
noted_new (RankSet t Operator on) s k n c ns same h e = h e
noted_new (RankSet t Voice on) s k n c ns same h e = h e
noted_new (Invited t op) s k n c ns same h e = elim (eqb_tells t s) [
  | inl it ↦ ap (λ b. holds_name c (cond b (with_last_name n ns) ns)) it.0 ∙ has_new c n ns same
  | inr other ↦
      let was = was_there t s k.invited (sym (or-false (among s (without t k.invited))) ∙ sym (ap
      (λ b. among s (without t k.invited) || b) other.0) ∙ sym (among-push s t (without t k.invited)) ∙ e) in
      ap (λ b. holds_name c (cond b (with_last_name n ns) ns)) other.0 ∙ h was
]
noted_new _ s k n c ns same h e = h e

noted_still : (x : Change) (s : ℕ) (n c : List ℕ) (ns : List (List ℕ)) → holds_name c ns ≡ true
    → holds_name c (seat_notes s n (seat_of x) ns) ≡ true
noted_still (Invited t op) s n c ns e = elim (t == s) as
    (λ b. holds_name c (cond b (with_last_name n ns) ns) ≡ true) [ true ↦ has_still c n ns e | false ↦ e ]
noted_still _ s n c ns e = e

-- each channel that invites s after a fact is noted then
pub noted_after : (d : Deed) (fs : List Deed) (s : ℕ) (c : List ℕ) (ns : List (List ℕ))
    → (among s (state fs c).invited ≡ true → holds_name c ns ≡ true) → among s (state (d ∷ fs) c).invited ≡ true
    → holds_name c (deed_notes s d ns) ≡ true
noted_after (ChannelMade t k) fs s c ns i e = i (not_made (is_same k c) t s (state fs c) e)
noted_after (Changed k x) fs s c ns i e = elim (either (is_same k c)) [
  | inl same ↦
      let now : among s (or_nothing (with_change x (state fs c))).invited ≡ true = sym
      (ap (λ b. among s (cond b (or_nothing (with_change x (state fs c))) (state fs c)).invited) same) ∙ e in
      noted_new x s (state fs c) k c ns same i (invited_lasting (with_change x (state fs c)) s now)
  | inr other ↦
      let was : among s (state fs c).invited ≡ true = sym
      (ap (λ b. among s (cond b (or_nothing (with_change x (state fs c))) (state fs c)).invited) other) ∙ e in
      noted_still x s k c ns (i was)
]
noted_after (Gone t) fs s c ns i e =
    let kept = invited_lasting (after_gone t (state fs c)) s e in
    elim (eqb_tells t s) [
      | inl same ↦ absurd (let f : false ≡ true = sym (ap (λ b. cond b false (among s (state fs c).invited)) same.0)
          ∙ sym (among-without s t (state fs c).invited) ∙ kept in cc)
      | inr other ↦ ap (λ b. holds_name c (cond b [] ns)) other.0 ∙ i (was_there t s (state fs c).invited kept)
    ]
noted_after _ fs s c ns i e = i e
