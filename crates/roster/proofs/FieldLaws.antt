-- What a channel has is what the newest fact tells of it.
use Rattle.std.proofs.lemmas.List.Folds.{list_any-append}
use Rattle.std.proofs.lemmas.Bool.Decides.{eqb_tells}
use Rattle.std.proofs.Common.{◌≡◌, inl, inr, ℕ, Bool, true, false, not, ◌||◌, ◌==◌, cond, List, [], ◌∷◌, ◌++◌}
use Rattle.std.proofs.Common.{filter, unwrap_or, Option, Some, None, refl, sym, ap, ◌∙◌, subst}
use Rattle.std.specs.List.{list_any}
use Rattle.casemapping.specs.Fold.{is_same}
use Rattle.casemapping.proofs.SameNames.{is_same-left, is_same-sym}
use Rattle.channel_state.specs.declared.change.Change.{Change}
use Rattle.channel_state.specs.declared.change.Change.TheVariants.{Joined, Left, RankSet, FlagSet}
use Rattle.channel_state.specs.declared.change.Change.TheVariants.{BanSet, BanLifted, Invited}
use Rattle.channel_state.specs.declared.change.Rank.TheVariants.{Operator, Voice}
use Rattle.channel_state.specs.declared.modes.Flag.{Flag}
use Rattle.channel_state.specs.declared.modes.Flag.TheVariants.{InviteOnly, Moderated, NoOutside, Secret, TopicLocked}
use Rattle.channel_state.specs.State.{State, among, without, with_last, with_rank, is_some_one, is_set}
use Rattle.channel_state.specs.State.{with_flag, nothing, made_by, with_change, after_gone, or_nothing}
use Rattle.roster.specs.declared.deed.Deed.{Deed}
use Rattle.roster.specs.declared.deed.Deed.TheVariants.{ChannelMade, Changed, Gone}
use Rattle.roster.specs.LookBack.{newest, state, has_member}
use Rattle.roster.specs.Legal.{IsFit, AreLegal}
use Rattle.roster.specs.Told.{tells_of, topic_told, flag_made, flag_told, key_told, limit_told, ban_told}
use Rattle.roster.specs.Told.{gone_told, operator_told, voice_told, invited_told, pardoned_told}
use Rattle.roster.specs.Laws.{MembersAreOnIt, TopicsAreTheLast, FlagsAreTheLast, KeysAreTheLast, LimitsAreTheLast}
use Rattle.roster.specs.Laws.{BansAreTheLast, OperatorsAreTheLast, VoicesAreTheLast, InvitationsAreTheLast}
use Rattle.roster.proofs.Bools.{either, or-true, or-false}
use Rattle.roster.proofs.OnChannels.{among-push, among-without, among-members}
use Rattle.roster.proofs.OnChannels.{members-lasting, state-same, someone-without}

pub members_on : MembersAreOnIt
members_on fs s c = among-members fs s c

-- ---- who has a rank is on the channel, and whom bans don't stop is invited

abbrev pub HaveRanks : State → Type 0
HaveRanks k = (u : ℕ) → (among u k.operators ≡ true → among u k.members ≡ true)
    × (among u k.voices ≡ true → among u k.members ≡ true) × (among u k.pardoned ≡ true → among u k.invited ≡ true)

none_true : {A : Type 0} → false ≡ true → A
none_true e = absurd (let f : false ≡ true = e in cc)

-- whoever is kept was there, and isn't the one that is taken out
kept_of : (t u : ℕ) (ts ms : List ℕ) → (among u ts ≡ true → among u ms ≡ true) → among u (without t ts) ≡ true
    → among u (without t ms) ≡ true
kept_of t u ts ms h e = elim (eqb_tells t u) [
  | inl it ↦ none_true (sym (ap (λ b. cond b false (among u ts)) it.0) ∙ sym (among-without u t ts) ∙ e)
  | inr other ↦
      among-without u t ms ∙ ap (λ b. cond b false (among u ms)) other.0
      ∙ h (sym (ap (λ b. cond b false (among u ts)) other.0) ∙ sym (among-without u t ts) ∙ e)
]

-- whoever is kept was there
pub was_there : (t u : ℕ) (ts : List ℕ) → among u (without t ts) ≡ true → among u ts ≡ true
was_there t u ts e = elim (eqb_tells t u) [
  | inl it ↦ none_true (sym (ap (λ b. cond b false (among u ts)) it.0) ∙ sym (among-without u t ts) ∙ e)
  | inr other ↦ sym (ap (λ b. cond b false (among u ts)) other.0) ∙ sym (among-without u t ts) ∙ e
]

-- whoever was there still is when one is put at the end
still_there : (t u : ℕ) (ms : List ℕ) → among u ms ≡ true → among u (with_last t ms) ≡ true
still_there t u ms e = elim (eqb_tells t u) [
  | inl it ↦ among-push u t (without t ms) ∙ ap (λ b. among u (without t ms) || b) it.0
      ∙ or-true (among u (without t ms))
  | inr other ↦ among-push u t (without t ms) ∙ ap (λ b. among u (without t ms) || b) other.0
      ∙ or-false (among u (without t ms)) ∙ among-without u t ms ∙ ap (λ b. cond b false (among u ms)) other.0 ∙ e
]

-- who is ranked is a member, or was ranked
ranked_of : (t u : ℕ) (on : Bool) (ts ms : List ℕ) → among t ms ≡ true → (among u ts ≡ true → among u ms ≡ true)
    → among u (with_rank t on ts) ≡ true → among u ms ≡ true
ranked_of t u false ts ms it h e = h (was_there t u ts e)
ranked_of t u true ts ms it h e = elim (eqb_tells t u) [
  | inl same ↦ ap (λ (v : ℕ). among v ms) (sym same.1) ∙ it
  | inr other ↦ h (was_there t u ts (sym (or-false (among u (without t ts)))
      ∙ sym (ap (λ b. among u (without t ts) || b) other.0) ∙ sym (among-push u t (without t ts)) ∙ e))
]

-- who is invited stays so, and whoever is pardoned then is among them
pardoned_of : (t u : ℕ) (on : Bool) (ps is : List ℕ) → (among u ps ≡ true → among u is ≡ true)
    → among u (with_rank t on ps) ≡ true → among u (with_last t is) ≡ true
pardoned_of t u false ps is h e = still_there t u is (h (was_there t u ps e))
pardoned_of t u true ps is h e = elim (eqb_tells t u) [
  | inl same ↦ among-push u t (without t is) ∙ ap (λ b. among u (without t is) || b) same.0
      ∙ or-true (among u (without t is))
  | inr other ↦ still_there t u is (h (was_there t u ps (sym (or-false (among u (without t ps)))
      ∙ sym (ap (λ b. among u (without t ps) || b) other.0) ∙ sym (among-push u t (without t ps)) ∙ e)))
]

ranks_changed : (x : Change) (k : State) → HaveRanks k → IsFit k x → HaveRanks (with_change x k)
ranks_changed (Joined t) k r f u = (
  λ e. still_there t u k.members ((r u).0 e),
  λ e. still_there t u k.members ((r u).1 e),
  kept_of t u k.pardoned k.invited (r u).2,
)
ranks_changed (Left t) k r f u = (
  kept_of t u k.operators k.members (r u).0,
  kept_of t u k.voices k.members (r u).1,
  (r u).2,
)
ranks_changed (RankSet t Operator on) k r f u = (ranked_of t u on k.operators k.members f (r u).0, (r u).1, (r u).2)
ranks_changed (RankSet t Voice on) k r f u = ((r u).0, ranked_of t u on k.voices k.members f (r u).1, (r u).2)
ranks_changed (Invited t op) k r f u = ((r u).0, (r u).1, pardoned_of t u op k.pardoned k.invited (r u).2)
ranks_changed _ k r f u = r u

ranks_departed : (t : ℕ) (k : State) → HaveRanks k → HaveRanks (after_gone t k)
ranks_departed t k r u = (
  kept_of t u k.operators k.members (r u).0,
  kept_of t u k.voices k.members (r u).1,
  kept_of t u k.pardoned k.invited (r u).2,
)

ranks_nothing : HaveRanks nothing
ranks_nothing u = (none_true, none_true, none_true)

ranks_by : (b : Bool) (k l : State) → HaveRanks k → HaveRanks l → HaveRanks (cond b k l)
ranks_by true k l r q = r
ranks_by false k l r q = q

ranks_lasting : (k : State) → HaveRanks k → HaveRanks (or_nothing k)
ranks_lasting k r = ranks_by (is_some_one k.members) k nothing r ranks_nothing

fit_there : (fs : List Deed) (k c : List ℕ) (x : Change) → is_same k c ≡ true → IsFit (state fs k) x
    → IsFit (state fs c) x
fit_there fs k c x same f = subst (λ (st : State). IsFit st x) (state-same fs k c same) f

ranks_if : (b : Bool) (k l : State) → (b ≡ true → HaveRanks k) → HaveRanks l → HaveRanks (cond b k l)
ranks_if true k l r q = r refl
ranks_if false k l r q = q

pub ranks : (fs : List Deed) (c : List ℕ) → AreLegal fs → HaveRanks (state fs c)
ranks [] c l = ranks_nothing
ranks (ChannelMade t k ∷ fs) c l = ranks_by (is_same k c) (made_by t) (state fs c)
    (λ u. ((λ e. e), none_true, none_true)) (ranks fs c l.1)
ranks (Changed k x ∷ fs) c l = ranks_if (is_same k c) (or_nothing (with_change x (state fs c))) (state fs c)
    (λ same. ranks_lasting (with_change x (state fs c))
    (ranks_changed x (state fs c) (ranks fs c l.1) (fit_there fs k c x same l.0.1))) (ranks fs c l.1)
ranks (Gone t ∷ fs) c l = ranks_lasting (after_gone t (state fs c)) (ranks_departed t (state fs c) (ranks fs c l.1))
ranks (_ ∷ fs) c l = ranks fs c l.1

-- ---- each thing that a channel has

lasts : (k : State) → is_some_one (or_nothing k).members ≡ true → or_nothing k ≡ k
lasts k e = ap (λ b. cond b k nothing) (sym (ap is_some_one (members-lasting k)) ∙ e)

module _ {A : Type 0} (field : State → A) (made : ℕ → A) (told : Change → Option A) (gone : ℕ → Option A) (none : A)
    (at_making : (t : ℕ) → field (made_by t) ≡ made t)
    (at_change : (k : State) (x : Change) → HaveRanks k → IsFit k x → field (with_change x k) ≡ unwrap_or (told x)
    (field k)) (at_going : (k : State) (t : ℕ) → field (after_gone t k) ≡ unwrap_or (gone t) (field k)) where
  last : (fs : List Deed) (c : List ℕ) → AreLegal fs → has_member fs c ≡ true
      → field (state fs c) ≡ newest (tells_of made told gone c) none fs
  last [] c l e = none_true e
  last (ChannelMade t k ∷ fs) c l e =
      let before = newest (tells_of made told gone c) none fs in
      elim (either (is_same k c)) [
        | inl same ↦ ap (λ b. field (cond b (made_by t) (state fs c))) same ∙ at_making t
            ∙ sym (ap (λ b. unwrap_or (cond b (Some (made t)) None) before) same)
        | inr other ↦
            ap (λ b. field (cond b (made_by t) (state fs c))) other
            ∙ last fs c l.1 (sym (ap (λ b. is_some_one (cond b (made_by t) (state fs c)).members) other) ∙ e)
            ∙ sym (ap (λ b. unwrap_or (cond b (Some (made t)) None) before) other)
      ]
  last (Changed k x ∷ fs) c l e =
      let before = newest (tells_of made told gone c) none fs in let was = state fs c in let now = with_change x was in
      elim (either (is_same k c)) [
        | inl same ↦
            let there : has_member fs c ≡ true = ap (λ (st : State). is_some_one st.members)
            (sym (state-same fs k c same)) ∙ l.0.0 in
            let lives : or_nothing now
            ≡ now = lasts now (sym (ap (λ b. is_some_one (cond b (or_nothing now) was).members) same) ∙ e) in
            ap (λ b. field (cond b (or_nothing now) was)) same ∙ ap field lives
            ∙ at_change was x (ranks fs c l.1) (fit_there fs k c x same l.0.1)
            ∙ ap (unwrap_or (told x)) (last fs c l.1 there)
            ∙ sym (ap (λ b. unwrap_or (cond b (told x) None) before) same)
        | inr other ↦
            ap (λ b. field (cond b (or_nothing now) was)) other
            ∙ last fs c l.1 (sym (ap (λ b. is_some_one (cond b (or_nothing now) was).members) other) ∙ e)
            ∙ sym (ap (λ b. unwrap_or (cond b (told x) None) before) other)
      ]
  last (Gone t ∷ fs) c l e =
      let was = state fs c in let now = after_gone t was in
      let some : is_some_one now.members ≡ true = sym (ap is_some_one (members-lasting now)) ∙ e in
      let there : has_member fs c ≡ true = elim (either (has_member fs c)) [
        | inl is ↦ is
        | inr was_not ↦ none_true (sym (someone-without t was.members was_not) ∙ some)
      ] in
      ap field (lasts now e) ∙ at_going was t ∙ ap (unwrap_or (gone t)) (last fs c l.1 there)
  last (_ ∷ fs) c l e = last fs c l.1 e

-- ---- topic, flags, key and limit

topic_step : (k : State) (x : Change) → HaveRanks k → IsFit k x → (with_change x k).topic
    ≡ unwrap_or (topic_told x) k.topic
topic_step k (RankSet t Operator on) r x = refl
topic_step k (RankSet t Voice on) r x = refl
topic_step k _ r x = refl

pub topics : TopicsAreTheLast
topics = last (λ k. k.topic) (λ t. None) topic_told (λ t. None) None (λ t. refl) topic_step (λ k t. refl)

flag_step : (f : Flag) (k : State) (x : Change) → HaveRanks k → IsFit k x → is_set f (with_change x k).modes
    ≡ unwrap_or (flag_told f x) (is_set f k.modes)
flag_step InviteOnly k (FlagSet InviteOnly on) r x = refl
flag_step InviteOnly k (FlagSet Moderated on) r x = refl
flag_step InviteOnly k (FlagSet NoOutside on) r x = refl
flag_step InviteOnly k (FlagSet Secret on) r x = refl
flag_step InviteOnly k (FlagSet TopicLocked on) r x = refl
flag_step Moderated k (FlagSet InviteOnly on) r x = refl
flag_step Moderated k (FlagSet Moderated on) r x = refl
flag_step Moderated k (FlagSet NoOutside on) r x = refl
flag_step Moderated k (FlagSet Secret on) r x = refl
flag_step Moderated k (FlagSet TopicLocked on) r x = refl
flag_step NoOutside k (FlagSet InviteOnly on) r x = refl
flag_step NoOutside k (FlagSet Moderated on) r x = refl
flag_step NoOutside k (FlagSet NoOutside on) r x = refl
flag_step NoOutside k (FlagSet Secret on) r x = refl
flag_step NoOutside k (FlagSet TopicLocked on) r x = refl
flag_step Secret k (FlagSet InviteOnly on) r x = refl
flag_step Secret k (FlagSet Moderated on) r x = refl
flag_step Secret k (FlagSet NoOutside on) r x = refl
flag_step Secret k (FlagSet Secret on) r x = refl
flag_step Secret k (FlagSet TopicLocked on) r x = refl
flag_step TopicLocked k (FlagSet InviteOnly on) r x = refl
flag_step TopicLocked k (FlagSet Moderated on) r x = refl
flag_step TopicLocked k (FlagSet NoOutside on) r x = refl
flag_step TopicLocked k (FlagSet Secret on) r x = refl
flag_step TopicLocked k (FlagSet TopicLocked on) r x = refl
flag_step InviteOnly k (RankSet t Operator on) r x = refl
flag_step InviteOnly k (RankSet t Voice on) r x = refl
flag_step Moderated k (RankSet t Operator on) r x = refl
flag_step Moderated k (RankSet t Voice on) r x = refl
flag_step NoOutside k (RankSet t Operator on) r x = refl
flag_step NoOutside k (RankSet t Voice on) r x = refl
flag_step Secret k (RankSet t Operator on) r x = refl
flag_step Secret k (RankSet t Voice on) r x = refl
flag_step TopicLocked k (RankSet t Operator on) r x = refl
flag_step TopicLocked k (RankSet t Voice on) r x = refl
flag_step InviteOnly k _ r x = refl
flag_step Moderated k _ r x = refl
flag_step NoOutside k _ r x = refl
flag_step Secret k _ r x = refl
flag_step TopicLocked k _ r x = refl

flag_at_making : (f : Flag) (t : ℕ) → is_set f (made_by t).modes ≡ flag_made f
flag_at_making InviteOnly t = refl
flag_at_making Moderated t = refl
flag_at_making NoOutside t = refl
flag_at_making Secret t = refl
flag_at_making TopicLocked t = refl

pub flags : FlagsAreTheLast
flags f = last (λ k. is_set f k.modes) (λ t. flag_made f) (flag_told f)
    (λ t. None) false (flag_at_making f) (flag_step f) (λ k t. refl)

key_flag : (f : Flag) (on : Bool) (k : State) → (with_flag f on k.modes).key ≡ k.modes.key
key_flag InviteOnly on k = refl
key_flag Moderated on k = refl
key_flag NoOutside on k = refl
key_flag Secret on k = refl
key_flag TopicLocked on k = refl

limit_flag : (f : Flag) (on : Bool) (k : State) → (with_flag f on k.modes).limit ≡ k.modes.limit
limit_flag InviteOnly on k = refl
limit_flag Moderated on k = refl
limit_flag NoOutside on k = refl
limit_flag Secret on k = refl
limit_flag TopicLocked on k = refl

key_step : (k : State) (x : Change) → HaveRanks k → IsFit k x → (with_change x k).modes.key
    ≡ unwrap_or (key_told x) k.modes.key
key_step k (RankSet t Operator on) r x = refl
key_step k (RankSet t Voice on) r x = refl
key_step k (FlagSet g on) r x = key_flag g on k
key_step k _ r x = refl

pub keys : KeysAreTheLast
keys = last (λ k. k.modes.key) (λ t. None) key_told (λ t. None) None (λ t. refl) key_step (λ k t. refl)

limit_step : (k : State) (x : Change) → HaveRanks k → IsFit k x → (with_change x k).modes.limit
    ≡ unwrap_or (limit_told x) k.modes.limit
limit_step k (RankSet t Operator on) r x = refl
limit_step k (RankSet t Voice on) r x = refl
limit_step k (FlagSet g on) r x = limit_flag g on k
limit_step k _ r x = refl

pub limits : LimitsAreTheLast
limits = last (λ k. k.modes.limit) (λ t. None) limit_told (λ t. None) None (λ t. refl) limit_step (λ k t. refl)

-- ---- bans

abbrev banned : List ℕ → List (List ℕ) → Bool
banned m bs = list_any (λ b. is_same b m) bs

abbrev unlifted : List ℕ → List (List ℕ) → List (List ℕ)
unlifted l bs = filter (λ b. not (is_same b l)) bs

banned_set : (m b : List ℕ) (bs : List (List ℕ)) → banned m (bs ++ b ∷ [])
    ≡ unwrap_or (cond (is_same b m) (Some true) None) (banned m bs)
banned_set m b bs = list_any-append (λ x. is_same x m) bs (b ∷ []) ∙ elim (is_same b m) as
    (λ y. (banned m bs || (y || false)) ≡ unwrap_or (cond y (Some true) None) (banned m bs)) [
      | true ↦ or-true (banned m bs)
      | false ↦ or-false (banned m bs)
    ]

banned_lifted : (m l : List ℕ) (bs : List (List ℕ)) → banned m (unlifted l bs) ≡ cond (is_same l m) false (banned m bs)
banned_lifted m l [] = elim (is_same l m) as (λ y. false ≡ cond y false false) [ true ↦ refl | false ↦ refl ]
banned_lifted m l (b ∷ bs) =
    let ih = banned_lifted m l bs in
    elim (either (is_same b l)) [
      | inl gone ↦
          ap (λ y. banned m (cond (not y) (b ∷ unlifted l bs) (unlifted l bs))) gone ∙ ih
          ∙ elim (either (is_same l m)) [
            | inl it ↦ ap (λ y. cond y false (banned m bs)) it
                ∙ sym (ap (λ y. cond y false (is_same b m || banned m bs)) it)
            | inr miss ↦
                let away : is_same b m ≡ false = is_same-left b l m gone ∙ miss in
                sym (ap (λ y. cond (is_same l m) false (y || banned m bs)) away)
          ]
      | inr kept ↦
          ap (λ y. banned m (cond (not y) (b ∷ unlifted l bs) (unlifted l bs))) kept
          ∙ ap (λ y. is_same b m || y) ih
          ∙ elim (either (is_same l m)) [
            | inl it ↦
                let away : is_same b m ≡ false = is_same-sym b m ∙ sym (is_same-left l m b it)
                ∙ is_same-sym l b ∙ kept in
                ap (λ y. y || cond (is_same l m) false (banned m bs)) away ∙ ap (λ y. cond y false (banned m bs)) it
                ∙ sym (ap (λ y. cond y false (is_same b m || banned m bs)) it)
            | inr miss ↦ ap (λ y. is_same b m || cond y false (banned m bs)) miss
                ∙ sym (ap (λ y. cond y false (is_same b m || banned m bs)) miss)
          ]
    ]

lifted_told : (y p : Bool) → cond y false p ≡ unwrap_or (cond y (Some false) None) p
lifted_told true p = refl
lifted_told false p = refl

ban_step : (m : List ℕ) (k : State) (x : Change) → HaveRanks k → IsFit k x → banned m (with_change x k).bans
    ≡ unwrap_or (ban_told m x) (banned m k.bans)
ban_step m k (RankSet t Operator on) r x = refl
ban_step m k (RankSet t Voice on) r x = refl
ban_step m k (BanSet b) r x = banned_set m b k.bans
ban_step m k (BanLifted b) r x = banned_lifted m b k.bans ∙ lifted_told (is_same b m) (banned m k.bans)
ban_step m k _ r x = refl

pub bans_last : BansAreTheLast
bans_last m = last (λ k. banned m k.bans) (λ t. false) (ban_told m) (λ t. None) false (λ t. refl) (ban_step m)
    (λ k t. refl)

-- ---- operators and voices

left_told : (s t : ℕ) (ts : List ℕ) → among s (without t ts) ≡ unwrap_or (cond (t == s) (Some false) None) (among s ts)
left_told s t ts = among-without s t ts ∙ lifted_told (t == s) (among s ts)

put_told : (s t : ℕ) (ts : List ℕ) → among s (with_last t ts) ≡ unwrap_or (cond (t == s) (Some true) None) (among s ts)
put_told s t ts = elim (eqb_tells t s) [
  | inl it ↦ among-push s t (without t ts) ∙ ap (λ b. among s (without t ts) || b) it.0
      ∙ or-true (among s (without t ts)) ∙ sym (ap (λ b. unwrap_or (cond b (Some true) None) (among s ts)) it.0)
  | inr other ↦
      among-push s t (without t ts) ∙ ap (λ b. among s (without t ts) || b) other.0
      ∙ or-false (among s (without t ts)) ∙ among-without s t ts
      ∙ ap (λ b. cond b false (among s ts)) other.0
      ∙ sym (ap (λ b. unwrap_or (cond b (Some true) None) (among s ts)) other.0)
]

ranked_told : (s t : ℕ) (on : Bool) (ts : List ℕ) → among s (with_rank t on ts)
    ≡ unwrap_or (cond (t == s) (Some on) None) (among s ts)
ranked_told s t true ts = put_told s t ts
ranked_told s t false ts = left_told s t ts

-- who joins has no rank yet
joined_told : (s t : ℕ) (ts ms : List ℕ) → (among s ts ≡ true → among s ms ≡ true) → among t ms ≡ false
    → among s ts ≡ unwrap_or (cond (t == s) (Some false) None) (among s ts)
joined_told s t ts ms h out = elim (eqb_tells t s) [
  | inl it ↦
      let unranked : among s ts ≡ false = elim (either (among s ts)) [
        | inl is ↦ none_true (sym out ∙ ap (λ (v : ℕ). among v ms) it.1 ∙ h is)
        | inr is_not ↦ is_not
      ] in
      unranked ∙ sym (ap (λ b. unwrap_or (cond b (Some false) None) (among s ts)) it.0)
  | inr other ↦ sym (ap (λ b. unwrap_or (cond b (Some false) None) (among s ts)) other.0)
]

operator_step : (s : ℕ) (k : State) (x : Change) → HaveRanks k → IsFit k x → among s (with_change x k).operators
    ≡ unwrap_or (operator_told s x) (among s k.operators)
operator_step s k (Joined t) r x = joined_told s t k.operators k.members (r s).0 x
operator_step s k (Left t) r x = left_told s t k.operators
operator_step s k (RankSet t Operator on) r x = ranked_told s t on k.operators
operator_step s k (RankSet t Voice on) r x = refl
operator_step s k _ r x = refl

pub operators : OperatorsAreTheLast
operators s = last (λ k. among s k.operators) (λ t. t == s) (operator_told s) (gone_told s) false
    (λ t. or-false (t == s)) (operator_step s) (λ k t. left_told s t k.operators)

voice_step : (s : ℕ) (k : State) (x : Change) → HaveRanks k → IsFit k x → among s (with_change x k).voices
    ≡ unwrap_or (voice_told s x) (among s k.voices)
voice_step s k (Joined t) r x = joined_told s t k.voices k.members (r s).1 x
voice_step s k (Left t) r x = left_told s t k.voices
voice_step s k (RankSet t Operator on) r x = refl
voice_step s k (RankSet t Voice on) r x = ranked_told s t on k.voices
voice_step s k _ r x = refl

pub voices : VoicesAreTheLast
voices s = last (λ k. among s k.voices) (λ t. false) (voice_told s) (gone_told s) false (λ t. refl) (voice_step s)
    (λ k t. left_told s t k.voices)

-- ---- invitations

invited_step : (s : ℕ) (k : State) (x : Change) → HaveRanks k → IsFit k x → among s (with_change x k).invited
    ≡ unwrap_or (invited_told s x) (among s k.invited)
invited_step s k (Joined t) r x = left_told s t k.invited
invited_step s k (RankSet t Operator on) r x = refl
invited_step s k (RankSet t Voice on) r x = refl
invited_step s k (Invited t op) r x = put_told s t k.invited
invited_step s k _ r x = refl

pardoned_step : (s : ℕ) (k : State) (x : Change) → HaveRanks k → IsFit k x → among s (with_change x k).pardoned
    ≡ unwrap_or (pardoned_told s x) (among s k.pardoned)
pardoned_step s k (Joined t) r x = left_told s t k.pardoned
pardoned_step s k (RankSet t Operator on) r x = refl
pardoned_step s k (RankSet t Voice on) r x = refl
pardoned_step s k (Invited t op) r x = ranked_told s t op k.pardoned
pardoned_step s k _ r x = refl

pub invitations : InvitationsAreTheLast
invitations s fs c l e = (
  last (λ k. among s k.invited) (λ t. false) (invited_told s) (gone_told s) false (λ t. refl) (invited_step s)
      (λ k t. left_told s t k.invited) fs c l e,
  last (λ k. among s k.pardoned) (λ t. false) (pardoned_told s) (gone_told s) false (λ t. refl) (pardoned_step s)
      (λ k t. left_told s t k.pardoned) fs c l e,
)
