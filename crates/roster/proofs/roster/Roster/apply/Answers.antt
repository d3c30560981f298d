use Rattle.std.proofs.Common.{arith, ◌≡◌, ◌<◌, ◌≤◌, ◌+◌, ◌-◌, ◌∷◌, ◌++◌, ℕ, List, true, cond, drop}
use Rattle.std.proofs.Common.{length, slice_get, unwrap_or, Some, refl, sym, ap, ◌∙◌, subst}
use Rattle.std.proofs.lemmas.Grind.{common_steps}
use Rattle.std.specs.VecDeque.{deque_len}
use Rattle.std.specs.List.{flat_map}
use Rattle.casemapping.specs.Fold.{name_fold}
use Rattle.chronicle.specs.declared.why.Why.{Why}
use Rattle.roster.specs.declared.deed.Deed.{Deed}
use Rattle.roster.specs.declared.deed.Deed.TheVariants.{NickSet, ChannelMade, Changed, Gone}
use Rattle.roster.specs.declared.tables.Person.{Person}
use Rattle.roster.specs.Known.{Known}
use Rattle.roster.specs.Table.{Table}
use Rattle.roster.specs.LookBack.{tells_why}
use Rattle.roster.specs.Lists.{made_name, keyed_name, is_taken, BeginWith}
use Rattle.roster.specs.Tables.{is_plain, is_about, is_opening, after_deed, person_at}
use Rattle.roster.specs.Tables.{why_at, Frees, room_in, Changes, holds_name}
use Rattle.roster.proofs.MadeRoom.{spare_less}
use Rattle.roster.proofs.Kept.{before, done, of_deed, seat_free, kept_plain}
use Rattle.roster.proofs.Kept.{kept_renamed, kept_made, kept_changed, kept_gone}
use Rattle.roster.proofs.Going.{leaves_more, covered}
use Rattle.roster.proofs.SeatLists.{seat_room, first_copy, later_copies, reseats, listed_before, listed_after}
use Rattle.roster.proofs.SeatLists.{listed_gone, none_there, listed_done, relists_plain, relists_wide, copies_plain}
use Rattle.roster.proofs.roster.Roster.apply.Goals as goal

pub hear-requires-clause-of : goal.hear-requires-clause-of
hear-requires-clause-of c =
    let r = c.self.inside in
    let fs = r.facts.value in
    let ds = r.ready.value in
    let d = c.args.deed in
    let es = r.people in
    let ws = r.marks in let hs = r.nicks in let ks = r.channels in
    let sp = r.stock.spare.items in let ns = r.stock.copies.items in let fo = r.stock.keys.items in
    let first : slice_get ds 0 ≡ Some d = ap (λ (k : Known). slice_get k.ready 0) c.self.view_is ∙ c.requires in
    let b = before d (d) refl fs ds es ws hs ks sp fo first c.self.invariant.0 in
    let l = listed_before d (d) refl fs ds first es.list ns c.self.invariant.1 in
    of_deed es.list ws.list hs.list fs b.people d b.next.0

pub invariant_of-self : goal.invariant_of-self
invariant_of-self c =
    let r = c.self.inside in
    let fs = r.facts.value in
    let ds = r.ready.value in
    let d = c.args.deed in
    let es = r.people in
    let ws = r.marks in let hs = r.nicks in let ks = r.channels in
    let sp = r.stock.spare.items in let ns = r.stock.copies.items in let fo = r.stock.keys.items in
    let first : slice_get ds 0 ≡ Some d = ap (λ (k : Known). slice_get k.ready 0) c.self.view_is ∙ c.requires in
    let e = c.in-Person.deed in
    let is : d ≡ e = c.in-Person.ensures.0 in let p : is_plain d ≡ true = ap is_plain is ∙ c.in-Person.ensures.1 in
    let b = before d (d) refl fs ds es ws hs ks sp fo first c.self.invariant.0 in
    let l = listed_before d (d) refl fs ds first es.list ns c.self.invariant.1 in
    let vs = c.tell.new.marks in let same = sym c.tell.ensures.marks in
    let heard_why = subst (λ (v : Table Why). (u : ℕ) → why_at v.list u
    ≡ unwrap_or (tells_why u d) (why_at ws.list u)) same c.hear.ensures.whys in
    let many = subst (λ (v : Table Why). length v.list ≡ length ws.list + cond (is_opening d) 1 0) same
    c.hear.ensures.count in
    let free = subst (λ (v : Table Why). ws.room - 1 ≤ v.room) same c.hear.ensures.room in
    let qs = c.tell.new.self in
    let told = subst (λ (x : Deed). (u : ℕ) → person_at qs.list u ≡ cond (is_about u x)
    (after_deed x (person_at es.list u)) (person_at es.list u)) (sym is) c.tell.ensures.people in (
      done d d refl fs ds qs vs hs ks sp fo _ _ c.apply.ensures c.apply-2.ensures
          (kept_plain es ws hs ks sp fo fs (drop 1 ds) d qs vs p b told c.tell.ensures.room heard_why many free),
      listed_after d d refl fs ds first es.list ns qs.list ns _ _ c.self.invariant.0.next
          c.self.invariant.1
          (relists_plain es.list qs.list d p c.tell.ensures.lists)
          (copies_plain d (drop 1 ds) ns p l.copies) c.apply.ensures c.apply-2.ensures,
    )

pub invariant_of-self-in-Nick : goal.invariant_of-self-in-Nick
invariant_of-self-in-Nick c =
    let r = c.self.inside in
    let fs = r.facts.value in
    let ds = r.ready.value in
    let d = c.args.deed in
    let es = r.people in
    let ws = r.marks in let hs = r.nicks in let ks = r.channels in
    let sp = r.stock.spare.items in let ns = r.stock.copies.items in let fo = r.stock.keys.items in
    let first : slice_get ds 0 ≡ Some d = ap (λ (k : Known). slice_get k.ready 0) c.self.view_is ∙ c.requires in
    let t = c.in-Nick.session in let n = c.in-Nick.nick in let e = NickSet t n in let is : d ≡ e = c.in-Nick.ensures in
    let b = before d (NickSet t n) is fs ds es ws hs ks sp fo first c.self.invariant.0 in
    let l = listed_before d (NickSet t n) is fs ds first es.list ns c.self.invariant.1 in
    let vs = c.rename-before.new.marks in let same = sym c.rename-before.ensures.marks in
    let heard_why = subst (λ (v : Table Why). (u : ℕ) → why_at v.list u
    ≡ unwrap_or (tells_why u d) (why_at ws.list u)) same c.hear.ensures.whys in
    let many = subst (λ (v : Table Why). length v.list ≡ length ws.list + cond (is_opening d) 1 0) same
    c.hear.ensures.count in
    let free = subst (λ (v : Table Why). ws.room - 1 ≤ v.room) same c.hear.ensures.room in
    let why = subst (λ (x : Deed). (u : ℕ) → why_at vs.list u ≡ unwrap_or (tells_why u x) (why_at ws.list u)) is
    heard_why in
    let count = many ∙ ap (λ (x : Deed). length ws.list + cond (is_opening x) 1 0) is in
    let qs = c.rename-before.new.self in let mid = c.give_back.new.self in let ls = c.take.new.nicks in
    let freed = subst (Frees hs.list mid.list) (c.rename-before.ensures.nick ∙ ap
    (λ (p : Person). p.nick) (b.people.people t)) c.give_back.ensures.freed in
    let taken = c.take.ensures.taken (name_fold n)
    (first_copy (name_fold n) (flat_map keyed_name (drop 1 ds)) fo b.room.keys) in
    let left = subst (BeginWith (flat_map keyed_name (drop 1 ds))) (sym c.take.ensures.keys)
    (later_copies (name_fold n) (flat_map keyed_name (drop 1 ds)) fo b.room.keys) in (
      done d e is fs ds qs vs ls ks sp c.take.new.keys.items _ _ c.apply.ensures c.apply-2.ensures
          (kept_renamed es ws hs ks sp fo fs (drop 1 ds) t n qs vs mid ls c.take.new.keys.items
          b c.rename-before.ensures.people c.rename-before.ensures.room why count free freed
          c.give_back.ensures.room taken c.take.ensures.room left),
      listed_after d e is fs ds first es.list ns qs.list ns _ _ c.self.invariant.0.next
          c.self.invariant.1
          (relists_wide es.list qs.list e (λ s cs. refl) (λ s ns. refl) c.rename-before.ensures.lists) l.copies
          c.apply.ensures c.apply-2.ensures,
    )

pub make-requires-clause-empty : goal.make-requires-clause-empty
make-requires-clause-empty c =
    let r = c.self.inside in
    let fs = r.facts.value in
    let ds = r.ready.value in
    let d = c.args.deed in
    let es = r.people in
    let ws = r.marks in let hs = r.nicks in let ks = r.channels in
    let sp = r.stock.spare.items in let ns = r.stock.copies.items in let fo = r.stock.keys.items in
    let first : slice_get ds 0 ≡ Some d = ap (λ (k : Known). slice_get k.ready 0) c.self.view_is ∙ c.requires in
    let t = c.in-NewChannel.session in
    let n = c.in-NewChannel.channel in let is : d ≡ ChannelMade t n = c.in-NewChannel.ensures in
    let b = before d (ChannelMade t n) is fs ds es ws hs ks sp fo first c.self.invariant.0 in
    let l = listed_before d (ChannelMade t n) is fs ds first es.list ns c.self.invariant.1 in
    spare_less (length (ChannelMade t n ∷ drop 1 ds)) 1 sp (omega arith) b.room.empty

pub invariant_of-self-in-NewChannel : goal.invariant_of-self-in-NewChannel
invariant_of-self-in-NewChannel c =
    let r = c.self.inside in
    let fs = r.facts.value in
    let ds = r.ready.value in
    let d = c.args.deed in
    let es = r.people in
    let ws = r.marks in let hs = r.nicks in let ks = r.channels in
    let sp = r.stock.spare.items in let ns = r.stock.copies.items in let fo = r.stock.keys.items in
    let first : slice_get ds 0 ≡ Some d = ap (λ (k : Known). slice_get k.ready 0) c.self.view_is ∙ c.requires in
    let t = c.in-NewChannel.session in
    let n = c.in-NewChannel.channel in let e = ChannelMade t n in let is : d ≡ e = c.in-NewChannel.ensures in
    let b = before d (ChannelMade t n) is fs ds es ws hs ks sp fo first c.self.invariant.0 in
    let l = listed_before d (ChannelMade t n) is fs ds first es.list ns c.self.invariant.1 in
    let vs = c.hear.new.self in
    let why = subst (λ (x : Deed). (u : ℕ) → why_at vs.list u ≡ unwrap_or (tells_why u x) (why_at ws.list u)) is
    c.hear.ensures.whys in
    let count = c.hear.ensures.count ∙ ap (λ (x : Deed). length ws.list + cond (is_opening x) 1 0) is in
    let qs = c.join_made.new.people in let ms = c.make.new.channels in
    let left = subst (BeginWith (flat_map keyed_name (drop 1 ds))) (sym c.make.ensures.keys)
    (later_copies (name_fold n) (flat_map keyed_name (drop 1 ds)) fo b.room.keys) in
    let rest = subst (BeginWith (flat_map made_name (drop 1 ds))) (sym c.join_made.ensures.copies)
    (later_copies n (flat_map made_name (drop 1 ds)) ns l.copies) in (
      done d e is fs ds qs vs hs ms c.make.new.spare.items c.make.new.keys.items _ _ c.apply.ensures c.apply-2.ensures
          (kept_made es ws hs ks sp fo fs (drop 1 ds) t n qs vs ms c.make.new.spare.items c.make.new.keys.items b
          c.join_made.ensures.people c.join_made.ensures.room why count c.hear.ensures.room c.make.ensures.made
          c.make.ensures.fewer c.make.ensures.room left),
      listed_after d e is fs ds first es.list ns qs.list c.join_made.new.copies.items _ _
          c.self.invariant.0.next c.self.invariant.1
          (c.join_made.ensures.joined n (first_copy n (flat_map made_name (drop 1 ds)) ns l.copies))
          rest c.apply.ensures c.apply-2.ensures,
    )

pub change-requires-clause-room : goal.change-requires-clause-room
change-requires-clause-room c =
    let r = c.self.inside in
    let fs = r.facts.value in
    let ds = r.ready.value in
    let d = c.args.deed in
    let es = r.people in
    let ws = r.marks in let hs = r.nicks in let ks = r.channels in
    let sp = r.stock.spare.items in let ns = r.stock.copies.items in let fo = r.stock.keys.items in
    let first : slice_get ds 0 ≡ Some d = ap (λ (k : Known). slice_get k.ready 0) c.self.view_is ∙ c.requires in
    let n = c.in-Channel.channel in let x = c.in-Channel.made in let is : d ≡ Changed n x = c.in-Channel.ensures in
    let b = before d (Changed n x) is fs ds es ws hs ks sp fo first c.self.invariant.0 in
    let l = listed_before d (Changed n x) is fs ds first es.list ns c.self.invariant.1 in
    subst (λ (m : List ℕ). 0 < room_in ks.list m) (sym c.as_slice.ensures)
    (seat_free x n (drop 1 ds) ks.list b.room.seats)

pub reseat-requires : goal.reseat-requires
reseat-requires c = λ s it.
    let r = c.self.inside in
    let fs = r.facts.value in
    let ds = r.ready.value in
    let d = c.args.deed in
    let es = r.people in
    let ws = r.marks in let hs = r.nicks in let ks = r.channels in
    let sp = r.stock.spare.items in let ns = r.stock.copies.items in let fo = r.stock.keys.items in
    let first : slice_get ds 0 ≡ Some d = ap (λ (k : Known). slice_get k.ready 0) c.self.view_is ∙ c.requires in
    let n = c.in-Channel.channel in let x = c.in-Channel.made in let is : d ≡ Changed n x = c.in-Channel.ensures in
    let b = before d (Changed n x) is fs ds es ws hs ks sp fo first c.self.invariant.0 in
    let l = listed_before d (Changed n x) is fs ds first es.list ns c.self.invariant.1 in
    seat_room es.list ns fs (drop 1 ds) (Changed n x) s l
    (ap (is_taken s) (sym c.seat_of-seat.ensures) ∙ it)

pub invariant_of-self-in-Channel : goal.invariant_of-self-in-Channel
invariant_of-self-in-Channel c =
    let r = c.self.inside in
    let fs = r.facts.value in
    let ds = r.ready.value in
    let d = c.args.deed in
    let es = r.people in
    let ws = r.marks in let hs = r.nicks in let ks = r.channels in
    let sp = r.stock.spare.items in let ns = r.stock.copies.items in let fo = r.stock.keys.items in
    let first : slice_get ds 0 ≡ Some d = ap (λ (k : Known). slice_get k.ready 0) c.self.view_is ∙ c.requires in
    let n = c.in-Channel.channel in
    let x = c.in-Channel.made in let e = Changed n x in let is : d ≡ e = c.in-Channel.ensures in
    let b = before d (Changed n x) is fs ds es ws hs ks sp fo first c.self.invariant.0 in
    let l = listed_before d (Changed n x) is fs ds first es.list ns c.self.invariant.1 in
    let vs = c.hear.new.self in
    let why = subst (λ (x : Deed). (u : ℕ) → why_at vs.list u ≡ unwrap_or (tells_why u x) (why_at ws.list u)) is
    c.hear.ensures.whys in
    let count = c.hear.ensures.count ∙ ap (λ (x : Deed). length ws.list + cond (is_opening x) 1 0) is in
    let qs = c.reseat.new.people in let ms = c.change.new.channels in
    let changes = subst (λ (m : List ℕ). Changes ks.list ms.list m x) c.as_slice.ensures c.change.ensures.changes in
    let left = subst (BeginWith (flat_map keyed_name (drop 1 ds))) (sym c.change.ensures.keys)
    (later_copies (name_fold n) (flat_map keyed_name (drop 1 ds)) fo b.room.keys) in (
      done d e is fs ds qs vs hs ms sp c.change.new.keys.items _ _ c.apply.ensures c.apply-2.ensures
          (kept_changed es ws hs ks sp fo fs
          (drop 1 ds) n x qs vs ms c.change.new.keys.items b c.reseat.ensures.people c.reseat.ensures.room why
          count c.hear.ensures.room changes c.change.ensures.room left),
      listed_after d e is fs ds first es.list ns qs.list ns _ _ c.self.invariant.0.next
          c.self.invariant.1
          (reseats es.list qs.list n n x c.seat_of-seat.result refl c.seat_of-seat.ensures c.reseat.ensures.lists)
          l.copies c.apply.ensures c.apply-2.ensures,
    )

pub invariant_of-self-in-All : goal.invariant_of-self-in-All
invariant_of-self-in-All c =
    let r = c.self.inside in
    let fs = r.facts.value in
    let ds = r.ready.value in
    let d = c.args.deed in
    let es = r.people in
    let ws = r.marks in let hs = r.nicks in let ks = r.channels in
    let sp = r.stock.spare.items in let ns = r.stock.copies.items in let fo = r.stock.keys.items in
    let first : slice_get ds 0 ≡ Some d = ap (λ (k : Known). slice_get k.ready 0) c.self.view_is ∙ c.requires in
    let t = c.in-All.session in let e = Gone t in let is : d ≡ e = c.in-All.ensures in
    let b = before d (Gone t) is fs ds es ws hs ks sp fo first c.self.invariant.0 in
    let l = listed_before d (Gone t) is fs ds first es.list ns c.self.invariant.1 in
    let vs = c.forget-nick.new.marks in let same = sym c.forget-nick.ensures.marks in
    let heard_why = subst (λ (v : Table Why). (u : ℕ) → why_at v.list u
    ≡ unwrap_or (tells_why u d) (why_at ws.list u)) same c.hear.ensures.whys in
    let many = subst (λ (v : Table Why). length v.list ≡ length ws.list + cond (is_opening d) 1 0) same
    c.hear.ensures.count in
    let free = subst (λ (v : Table Why). ws.room - 1 ≤ v.room) same c.hear.ensures.room in
    let why = subst (λ (x : Deed). (u : ℕ) → why_at vs.list u ≡ unwrap_or (tells_why u x) (why_at ws.list u)) is
    heard_why in
    let count = many ∙ ap (λ (x : Deed). length ws.list + cond (is_opening x) 1 0) is in
    let qs = c.forget-nick.new.self in
    let ls = c.give_back-in-All.new.self in let mid = c.leave_each.new.self in let ms = c.leave_each-in-All.new.self in
    let own = c.names-names.result.now in let notes = c.notes-notes.result.now in
    let left = leaves_more ks.list mid.list ms.list own notes t c.leave_each.ensures.leaves
    c.leave_each-in-All.ensures.leaves in
    let cover = covered fs t own notes b.legal (c.names-names.ensures ∙ l.lists t)
    (λ k it. ap (holds_name k) c.notes-notes.ensures ∙ l.noted t k it) in
    let room : ks.room ≤ ms.room = let first = c.leave_each.ensures.room in
    let later = c.leave_each-in-All.ensures.room in omega arith in
    let freed = subst (Frees hs.list ls.list) (c.forget-nick.ensures.nick ∙ ap
    (λ (p : Person). p.nick) (b.people.people t)) c.give_back-in-All.ensures.freed in (
      done d e is fs ds qs vs ls ms sp fo _ _ c.apply.ensures c.apply-2.ensures
          (kept_gone es ws hs ks sp fo fs (drop 1 ds) t (own ++ notes) qs vs ls ms b c.forget-nick.ensures.people
          c.forget-nick.ensures.room why count free freed c.give_back-in-All.ensures.room left cover room),
      listed_done d e qs.list ns fs ds _ _ is c.apply.ensures c.apply-2.ensures
          (listed_gone es.list qs.list ns fo fs (drop 1 ds) t c.is_empty-is_last.result
          b.next.0 l c.forget-nick.ensures.lists c.forget-nick.ensures.notes c.forget-nick.ensures.rooms
          (λ it. none_there fo (deque_len r.stock.keys) (grind (arith, common_steps))
          (sym c.is_empty-is_last.ensures ∙ it)) b.room.keys),
    )
