-- What holds of every roster is kept by each deed.
use Rattle.std.proofs.Common.{◌≡◌, inl, inr, ℕ, suc, ◌+◌, ◌-◌, ◌<◌, ◌≤◌, Bool, true, false, ◌==◌}
use Rattle.std.proofs.Common.{cond, List, [], ◌∷◌, ◌++◌, length, drop, slice_get, count_by}
use Rattle.std.proofs.Common.{unwrap_or, Some, None, arith, refl, sym, ap, ◌∙◌, subst}
use Rattle.std.specs.List.{flat_map}
use Rattle.std.specs.Str.{bytes_eq}
use Rattle.casemapping.specs.Fold.{name_fold, is_same}
use Rattle.casemapping.proofs.SameNames.{is_same-sym}
use Rattle.channel_state.specs.declared.change.Change.{Change}
use Rattle.channel_state.specs.Held.{ChannelView}
use Rattle.channel_state.specs.State.{after_gone}
use Rattle.chronicle.specs.declared.why.Why.{Why}
use Rattle.roster.specs.declared.deed.Deed.{Deed}
use Rattle.roster.specs.declared.deed.Deed.TheVariants.{NickSet}
use Rattle.roster.specs.declared.deed.Deed.TheVariants.{ChannelMade, Changed, Ended, Gone}
use Rattle.roster.specs.declared.tables.Person.{Person}
use Rattle.roster.specs.declared.tables.Card.{Card}
use Rattle.roster.specs.declared.tables.Channel.{Channel}
use Rattle.roster.specs.LookBack.{opened_in, nick, why, tells_why, state}
use Rattle.roster.specs.Legal.{IsOpened, IsNext, AreNext}
use Rattle.roster.specs.Table.{Table}
use Rattle.roster.specs.Tables.{nobody, after_deed, is_about, is_plain, is_tame, is_opening, person_at, why_at}
use Rattle.roster.specs.Tables.{held_by, Frees, IsOf, room_in, with_held, Changes, Makes, holds_name}
use Rattle.roster.specs.Lists.{keyed_name, BeginWith}
use Rattle.roster.specs.Stands.{person, Alike, changes, is_making, HaveSeats, AreSpare}
use Rattle.roster.specs.Stands.{AreHolders, LeavesThose, HoldPeople, HasRoom, IsKept}
use Rattle.roster.proofs.Bools.{either}
use Rattle.roster.proofs.ChannelTable.{seats-populated}
use Rattle.roster.proofs.Going.{channels_left}
use Rattle.roster.proofs.MadeRoom.{changes-cons, makings-cons, seats_none, seats_less}
use Rattle.roster.proofs.MadeRoom.{changes_few, seats-push, spare_less}
use Rattle.roster.proofs.Persons.{person_after, opened_after, of_next, length-numbers}
use Rattle.roster.proofs.Persons.{holders_plain, holders_gone, holders_renamed}
use Rattle.roster.proofs.SameTables.{channels_alike}
use Rattle.roster.proofs.ChannelSteps.{channels_plain, channels_changed, channels_made}

pub opened_count : (es : List (ℕ × Card)) (ws : List Why) (hs : List (List ℕ × ℕ)) (fs : List Deed)
    → HoldPeople es ws hs fs → length (opened_in fs) ≡ length ws
opened_count es ws hs fs i = ap length i.opened ∙ length-numbers 1 (length ws)

-- ---- seats

pub seat_free : (x : Change) (n : List ℕ) (ds : List Deed) (ks : List Channel) → HaveSeats (Changed n x ∷ ds) ks
    → 0 < room_in ks n
seat_free x n ds [] h = omega arith
seat_free x n ds (k ∷ ks) h = elim (either (is_same k.name n)) [
  | inl same ↦ rw same (let a = h.0 in let e = changes-cons k.name (Changed n x) ds ∙ ap
      (λ b. cond b 1 0 + changes k.name ds) (is_same-sym n k.name ∙ same) in omega arith)
  | inr other ↦ rw other (seat_free x n ds ks h.1)
]

seats_taken : (x : Change) (n : List ℕ) (ds : List Deed) (ks : List Channel) (m : ChannelView)
    → HaveSeats (Changed n x ∷ ds) ks → room_in ks n ≤ m.room + 1 → HaveSeats ds (with_held ks n m)
seats_taken x n ds [] m h l = tt
seats_taken x n ds (k ∷ ks) m h l = elim (either (is_same k.name n)) [
  | inl same ↦
      let l' : k.held.room ≤ m.room + 1 = rw same at l in
      rw same (
        (let a = h.0 in let e = changes-cons k.name (Changed n x) ds ∙ ap (λ b. cond b 1 0
            + changes k.name ds) (is_same-sym n k.name ∙ same) in omega arith),
        seats_less (Changed n x) ds ks h.1,
      )
  | inr other ↦
      let l' : room_in ks n ≤ m.room + 1 = rw other at l in
      let first = seats_less (Changed n x) ds (k ∷ ks) h in
      rw other (first.0, seats_taken x n ds ks m h.1 l')
]

-- ---- the deed that is next

pub ready_first : (ds : List Deed) (d : Deed) → slice_get ds 0 ≡ Some d → ds ≡ d ∷ drop 1 ds
ready_first [] d e = absurd (let f : None ≡ Some d = e in cc)
ready_first (x ∷ ds) d e = let f : Some x ≡ Some d = e in let g : x ≡ d = cc in ap (λ y. y ∷ ds) g

module _ (d e : Deed) (is : d ≡ e) (fs ds : List Deed) (es : Table (ℕ × Card)) (ws : Table Why)
    (hs : Table (List ℕ × ℕ)) (ks : Table Channel) (spare : List ChannelView) (folds : List (List ℕ)) where
  -- what holds before it, by its variant
  pub before : slice_get ds 0 ≡ Some d → IsKept es ws hs ks spare folds fs ds
      → IsKept es ws hs ks spare folds fs (e ∷ drop 1 ds)
  before first i = subst (IsKept es ws hs ks spare folds fs) (ready_first ds d first ∙ ap (λ x. x ∷ drop 1 ds) is) i

  -- and after it
  pub done : (gs rs : List Deed) → gs ≡ d ∷ fs → rs ≡ drop 1 ds
      → IsKept es ws hs ks spare folds (e ∷ fs) (drop 1 ds) → IsKept es ws hs ks spare folds gs rs
  done gs rs eg er i = subst (λ (xs : List Deed). IsKept es ws hs ks spare folds xs rs)
      (sym (eg ∙ ap (λ x. x ∷ fs) is)) (subst (IsKept es ws hs ks spare folds (e ∷ fs)) (sym er) i)

-- ---- the tables of sessions

plain_tame : (d : Deed) → is_plain d ≡ true → is_tame d ≡ true
plain_tame (NickSet u n) p = absurd (let f : false ≡ true = p in cc)
plain_tame (ChannelMade u k) p = absurd (let f : false ≡ true = p in cc)
plain_tame (Changed k x) p = absurd (let f : false ≡ true = p in cc)
plain_tame (Gone u) p = absurd (let f : false ≡ true = p in cc)
plain_tame _ p = refl

plain_unmade : (d : Deed) → is_plain d ≡ true → is_making d ≡ false
plain_unmade (NickSet u n) p = absurd (let f : false ≡ true = p in cc)
plain_unmade (ChannelMade u k) p = absurd (let f : false ≡ true = p in cc)
plain_unmade (Changed k x) p = absurd (let f : false ≡ true = p in cc)
plain_unmade (Gone u) p = absurd (let f : false ≡ true = p in cc)
plain_unmade _ p = refl

plain_unkeyed : (d : Deed) → is_plain d ≡ true → keyed_name d ≡ []
plain_unkeyed (NickSet u n) p = absurd (let f : false ≡ true = p in cc)
plain_unkeyed (ChannelMade u k) p = absurd (let f : false ≡ true = p in cc)
plain_unkeyed (Changed k x) p = absurd (let f : false ≡ true = p in cc)
plain_unkeyed (Gone u) p = absurd (let f : false ≡ true = p in cc)
plain_unkeyed _ p = refl

module _ (es : List (ℕ × Card)) (ws : List Why) (hs : List (List ℕ × ℕ)) (fs : List Deed)
    (i : HoldPeople es ws hs fs) where
  -- what is known of each after a fact
  people_told : (d : Deed) (qs : List (ℕ × Card))
      → ((t : ℕ) → person_at qs t ≡ cond (is_about t d) (after_deed d (person_at es t)) (person_at es t)) → (s : ℕ)
      → person_at qs s ≡ person (d ∷ fs) s
  people_told d qs h s = h s ∙ ap (λ (p : Person). cond (is_about s d) (after_deed d p) p) (i.people s)
      ∙ sym (person_after d fs s)

  -- why each ended
  whys_told : (d : Deed) (vs : List Why) → ((t : ℕ) → why_at vs t ≡ unwrap_or (tells_why t d) (why_at ws t))
      → (s : ℕ) → why_at vs s ≡ why (d ∷ fs) s
  whys_told d vs h s = h s ∙ ap (unwrap_or (tells_why s d)) (i.whys s)

  pub hold_told : (d : Deed) (qs : List (ℕ × Card)) (vs : List Why) (ls : List (List ℕ × ℕ)) → IsNext fs d
      → ((t : ℕ) → person_at qs t ≡ cond (is_about t d) (after_deed d (person_at es t)) (person_at es t))
      → ((t : ℕ) → why_at vs t ≡ unwrap_or (tells_why t d) (why_at ws t))
      → length vs ≡ length ws + cond (is_opening d) 1 0 → AreHolders ls (d ∷ fs) → HoldPeople qs vs ls (d ∷ fs)
  hold_told d qs vs ls x hp hw n hh = record {
    people = people_told d qs hp;
    whys = whys_told d vs hw;
    opened = opened_after d fs (length ws) (length vs) i.opened x n;
    holders = hh;
  }

  -- tables that show the same
  pub hold_same : (qs : List (ℕ × Card)) (vs : List Why) (ls : List (List ℕ × ℕ))
      → ((t : ℕ) → person_at qs t ≡ person_at es t) → vs ≡ ws → ls ≡ hs → HoldPeople qs vs ls fs
  hold_same qs vs ls h ew eh =
      subst (λ (xs : List (List ℕ × ℕ)). HoldPeople qs vs xs fs) (sym eh)
      (subst (λ (xs : List Why). HoldPeople qs xs hs fs) (sym ew)
      (record { people = λ s. h s ∙ i.people s; whys = i.whys; opened = i.opened; holders = i.holders }))

  pub of_deed : (d : Deed) → IsNext fs d → IsOf (length ws) d
  of_deed d x = of_next d fs (length ws) i.opened x

-- room for nothing
pub room_none : (es : Table (ℕ × Card)) (ws : Table Why) (hs : Table (List ℕ × ℕ)) (ks : Table Channel)
    (spare : List ChannelView) (folds : List (List ℕ)) → AreSpare 0 spare → HasRoom es ws hs ks spare folds []
room_none es ws hs ks spare folds a = record {
  people = omega arith;
  whys = omega arith;
  nicks = omega arith;
  channels = omega arith;
  seats = seats_none ks.list;
  enough = omega arith;
  empty = a;
  keys = tt;
}

-- ---- each deed

rest_of : (ks fs ms : List (List ℕ)) → ks ≡ [] → BeginWith (ks ++ fs) ms → BeginWith fs ms
rest_of ks fs ms e b = subst (λ (xs : List (List ℕ)). BeginWith (xs ++ fs) ms) e b

module _ (es : Table (ℕ × Card)) (ws : Table Why) (hs : Table (List ℕ × ℕ)) (ks : Table Channel)
    (spare : List ChannelView) (folds : List (List ℕ)) (fs ds : List Deed) where
  -- there is room for it
  pub some_room : (d : Deed) → HasRoom es ws hs ks spare folds (d ∷ ds) → (0 < es.room) × (0 < ws.room)
      × (0 < hs.room) × (0 < ks.room)
  some_room d r = (
    (let a = r.people in omega arith),
    (let a = r.whys in omega arith),
    (let a = r.nicks in omega arith),
    (let a = r.channels in omega arith),
  )

  -- a fact of one session alone
  pub kept_plain : (d : Deed) (qs : Table (ℕ × Card)) (vs : Table Why) → is_plain d ≡ true
      → IsKept es ws hs ks spare folds fs (d ∷ ds)
      → ((t : ℕ) → person_at qs.list t
      ≡ cond (is_about t d) (after_deed d (person_at es.list t)) (person_at es.list t))
      → es.room ≤ qs.room + 1
      → ((t : ℕ) → why_at vs.list t ≡ unwrap_or (tells_why t d) (why_at ws.list t))
      → length vs.list ≡ length ws.list + cond (is_opening d) 1 0 → ws.room - 1 ≤ vs.room
      → IsKept qs vs hs ks spare folds (d ∷ fs) ds
  kept_plain d qs vs p i hp rp hw n rw = record {
    people = hold_told es.list ws.list hs.list fs i.people d qs.list vs.list hs.list i.next.0 hp hw n
        (holders_plain hs.list fs i.people.holders d p i.next.0);
    channels = channels_plain d ks.list fs (plain_tame d p) i.channels;
    legal = (i.next.0, i.legal);
    next = i.next.1;
    room = record {
      people = let a = i.room.people in omega arith;
      whys = let a = i.room.whys in omega arith;
      nicks = let a = i.room.nicks in omega arith;
      channels = let a = i.room.channels in omega arith;
      seats = seats_less d ds ks.list i.room.seats;
      enough = let a = i.room.enough in let e = makings-cons d ds ∙ ap
          (λ b. cond b 1 0 + count_by is_making ds) (plain_unmade d p) in omega arith;
      empty = spare_less (length (d ∷ ds)) (length ds) spare (omega arith) i.room.empty;
      keys = rest_of (keyed_name d) (flat_map keyed_name ds) folds (plain_unkeyed d p) i.room.keys;
    };
  }

  -- a nickname
  pub kept_renamed : (t : ℕ) (n : List ℕ) (qs : Table (ℕ × Card)) (vs : Table Why) (mid ls : Table (List ℕ × ℕ))
      (left : List (List ℕ)) → IsKept es ws hs ks spare folds fs (NickSet t n ∷ ds)
      → ((s : ℕ) → person_at qs.list s ≡ cond (t == s) (record (person_at es.list s) { nick = Some n })
      (person_at es.list s)) → es.room ≤ qs.room + 1
      → ((s : ℕ) → why_at vs.list s ≡ unwrap_or (tells_why s (NickSet t n)) (why_at ws.list s))
      → length vs.list ≡ length ws.list + 0 → ws.room - 1 ≤ vs.room
      → Frees hs.list mid.list (nick fs t) → hs.room ≤ mid.room
      → ((j : List ℕ) → held_by ls.list j ≡ cond (bytes_eq (name_fold n) j) (Some t) (held_by mid.list j))
      → mid.room ≤ ls.room + 1
      → BeginWith (flat_map keyed_name ds) left → IsKept qs vs ls ks spare left (NickSet t n ∷ fs) ds
  kept_renamed t n qs vs mid ls left i hp rp hw c rw hf rf ht rt b = record {
    people = hold_told es.list ws.list hs.list fs i.people (NickSet t n) qs.list vs.list ls.list i.next.0 hp hw c
        (holders_renamed hs.list fs i.people.holders mid.list t hf ls.list
        (length ws.list) n i.people.opened i.next.0.0 i.next.0.1 ht);
    channels = channels_plain (NickSet t n) ks.list fs refl i.channels;
    legal = (i.next.0, i.legal);
    next = i.next.1;
    room = record {
      people = let a = i.room.people in omega arith;
      whys = let a = i.room.whys in omega arith;
      nicks = let a = i.room.nicks in omega arith;
      channels = let a = i.room.channels in omega arith;
      seats = seats_less (NickSet t n) ds ks.list i.room.seats;
      enough = let a = i.room.enough in let e = makings-cons (NickSet t n) ds in omega arith;
      empty = spare_less (length (NickSet t n ∷ ds)) (length ds) spare (omega arith) i.room.empty;
      keys = b;
    };
  }

  -- a session is gone
  pub kept_gone : (t : ℕ) (cs : List (List ℕ)) (qs : Table (ℕ × Card)) (vs : Table Why) (ls : Table (List ℕ × ℕ))
      (ms : Table Channel) → IsKept es ws hs ks spare folds fs (Gone t ∷ ds)
      → ((s : ℕ) → person_at qs.list s ≡ cond (t == s) nobody (person_at es.list s)) → es.room ≤ qs.room
      → ((s : ℕ) → why_at vs.list s ≡ unwrap_or (tells_why s (Gone t)) (why_at ws.list s))
      → length vs.list ≡ length ws.list + 0 → ws.room - 1 ≤ vs.room
      → Frees hs.list ls.list (nick fs t) → hs.room ≤ ls.room → LeavesThose ks.list ms.list cs t
      → ((c : List ℕ) → holds_name c cs ≡ false → after_gone t (state fs c) ≡ state fs c) → ks.room ≤ ms.room
      → IsKept qs vs ls ms spare folds (Gone t ∷ fs) ds
  kept_gone t cs qs vs ls ms i hp rp hw c rw hf rf v cover rk = record {
    people = hold_told es.list ws.list hs.list fs i.people (Gone t) qs.list vs.list ls.list i.next.0 hp hw c
        (holders_gone hs.list fs i.people.holders ls.list t hf);
    channels = channels_left ks.list ms.list fs cs t i.channels v cover;
    legal = (i.next.0, i.legal);
    next = i.next.1;
    room = record {
      people = let a = i.room.people in omega arith;
      whys = let a = i.room.whys in omega arith;
      nicks = let a = i.room.nicks in omega arith;
      channels = let a = i.room.channels in omega arith;
      seats = v.seats ds (seats_less (Gone t) ds ks.list i.room.seats);
      enough = let a = i.room.enough in let e = makings-cons (Gone t) ds in omega arith;
      empty = spare_less (length (Gone t ∷ ds)) (length ds) spare (omega arith) i.room.empty;
      keys = i.room.keys;
    };
  }

  -- a channel changed
  pub kept_changed : (n : List ℕ) (x : Change) (qs : Table (ℕ × Card)) (vs : Table Why) (ms : Table Channel)
      (left : List (List ℕ)) → IsKept es ws hs ks spare folds fs (Changed n x ∷ ds)
      → ((s : ℕ) → person_at qs.list s ≡ person_at es.list s) → qs.room ≡ es.room
      → ((s : ℕ) → why_at vs.list s ≡ unwrap_or (tells_why s (Changed n x)) (why_at ws.list s))
      → length vs.list ≡ length ws.list + 0 → ws.room - 1 ≤ vs.room
      → Changes ks.list ms.list n x → ks.room ≤ ms.room → BeginWith (flat_map keyed_name ds) left
      → IsKept qs vs hs ms spare left (Changed n x ∷ fs) ds
  kept_changed n x qs vs ms left i hp rp hw c rw v rk b = record {
    people = hold_told es.list ws.list hs.list fs i.people (Changed n x) qs.list vs.list hs.list i.next.0 hp hw c
        (record {
          found = i.people.holders.found;
          named = i.people.holders.named;
          opened = i.people.holders.opened;
        });
    channels = channels_changed ks.list fs i.channels ms.list n x i.next.0.0 v;
    legal = (i.next.0, i.legal);
    next = i.next.1;
    room = record {
      people = let a = i.room.people in omega arith;
      whys = let a = i.room.whys in omega arith;
      nicks = let a = i.room.nicks in omega arith;
      channels = let a = i.room.channels in omega arith;
      seats = subst (HaveSeats ds) (sym v.ended) (seats-populated ds v.between (subst (HaveSeats ds)
          (sym v.reholds.changed) (seats_taken x n ds ks.list v.reholds.held i.room.seats v.reholds.room)));
      enough = let a = i.room.enough in let e = makings-cons (Changed n x) ds in omega arith;
      empty = spare_less (length (Changed n x ∷ ds)) (length ds) spare (omega arith) i.room.empty;
      keys = b;
    };
  }

  -- a channel was made
  pub kept_made : (t : ℕ) (n : List ℕ) (qs : Table (ℕ × Card)) (vs : Table Why) (ms : Table Channel)
      (rest : List ChannelView) (left : List (List ℕ)) → IsKept es ws hs ks spare folds fs (ChannelMade t n ∷ ds)
      → ((s : ℕ) → person_at qs.list s ≡ person_at es.list s) → qs.room ≡ es.room
      → ((s : ℕ) → why_at vs.list s ≡ unwrap_or (tells_why s (ChannelMade t n)) (why_at ws.list s))
      → length vs.list ≡ length ws.list + 0 → ws.room - 1 ≤ vs.room
      → ((k : ℕ) → AreSpare (suc k) spare → Makes ks.list ms.list n t k × AreSpare k rest)
      → length rest + 1 ≡ length spare → ks.room ≤ ms.room + 1 → BeginWith (flat_map keyed_name ds) left
      → IsKept qs vs hs ms rest left (ChannelMade t n ∷ fs) ds
  kept_made t n qs vs ms rest left i hp rp hw c rw make fewer rk b =
      let m = make (length ds) i.room.empty in
      record {
        people = hold_told es.list ws.list hs.list fs i.people
            (ChannelMade t n) qs.list vs.list hs.list i.next.0 hp hw c (record {
              found = i.people.holders.found;
              named = i.people.holders.named;
              opened = i.people.holders.opened;
            });
        channels = channels_made ks.list fs i.channels ms.list t (length ds) n i.next.0 m.0;
        legal = (i.next.0, i.legal);
        next = i.next.1;
        room = record {
          people = let a = i.room.people in omega arith;
          whys = let a = i.room.whys in omega arith;
          nicks = let a = i.room.nicks in omega arith;
          channels = let a = i.room.channels in omega arith;
          seats = subst (HaveSeats ds) (sym m.0.added) (seats-push ds ks.list
              (record { name = n; held = m.0.held }) (seats_less (ChannelMade t n) ds ks.list i.room.seats)
              (let few = changes_few n ds in let r = m.0.room in omega arith));
          enough = let h = i.room.enough in let e = makings-cons (ChannelMade t n) ds in omega arith;
          empty = m.1;
          keys = b;
        };
      }

  -- the server ends a session, with no room made
  pub kept_end : (t : ℕ) (w : Why) (qs : Table (ℕ × Card)) (vs : Table Why) → IsKept es ws hs ks spare folds fs ds
      → IsOpened fs t
      → ((s : ℕ) → person_at qs.list s ≡ cond (t == s) (record (person_at es.list s) { parting = [] })
      (person_at es.list s))
      → ((s : ℕ) → why_at vs.list s ≡ cond (t == s) w (why_at ws.list s)) → length vs.list ≡ length ws.list
      → IsKept qs vs hs ks spare folds (Ended t w [] ∷ fs) []
  kept_end t w qs vs i o hp hw c = record {
    people = hold_told es.list ws.list hs.list fs i.people (Ended t w []) qs.list vs.list hs.list o hp
        (λ s. hw s ∙ told (t == s) (why_at ws.list s)) (let e = c in omega arith)
        (holders_plain hs.list fs i.people.holders (Ended t w []) refl o);
    channels = channels_plain (Ended t w []) ks.list fs refl i.channels;
    legal = (o, i.legal);
    next = tt;
    room = record {
      people = omega arith;
      whys = omega arith;
      nicks = omega arith;
      channels = omega arith;
      seats = seats_none ks.list;
      enough = omega arith;
      empty = spare_less (length ds) 0 spare (omega arith) i.room.empty;
      keys = tt;
    };
  }
    where
      told : (b : Bool) (v : Why) → cond b w v ≡ unwrap_or (cond b (Some w) None) v
      told true v = refl
      told false v = refl

  -- tables that show the same, with other room
  pub kept_again : (qs : Table (ℕ × Card)) (vs : Table Why) (ls : Table (List ℕ × ℕ)) (ms : Table Channel)
      (rest : List ChannelView) (left : List (List ℕ)) (rs : List Deed) → IsKept es ws hs ks spare folds fs ds
      → ((t : ℕ) → person_at qs.list t ≡ person_at es.list t) → vs.list ≡ ws.list → ls.list ≡ hs.list
      → Alike ks.list ms.list → AreNext fs rs → HasRoom qs vs ls ms rest left rs
      → IsKept qs vs ls ms rest left fs rs
  kept_again qs vs ls ms rest left rs i h ew eh a n r = record {
    people = hold_same es.list ws.list hs.list fs i.people qs.list vs.list ls.list h ew eh;
    channels = channels_alike ks.list ms.list fs a i.channels;
    legal = i.legal;
    next = n;
    room = r;
  }

  -- it is ready for nothing
  pub kept_idle : IsKept es ws hs ks spare folds fs ds → IsKept es ws hs ks spare folds fs []
  kept_idle i = record {
    people = i.people;
    channels = i.channels;
    legal = i.legal;
    next = tt;
    room = record {
      people = omega arith;
      whys = omega arith;
      nicks = omega arith;
      channels = omega arith;
      seats = seats_none ks.list;
      enough = omega arith;
      empty = spare_less (length ds) 0 spare (omega arith) i.room.empty;
      keys = tt;
    };
  }
