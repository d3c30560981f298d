use Rattle.std.proofs.Common.{arith, ◌≡◌, ◌≤◌, ◌++◌, ℕ, List, length, refl, sym, ap, ◌∙◌, subst}
use Rattle.std.proofs.lemmas.Grind.{common_steps}
use Rattle.std.specs.List.{flat_map}
use Rattle.chronicle.specs.declared.why.Why.{Why}
use Rattle.roster.specs.declared.deed.Deed.{Deed}
use Rattle.roster.specs.declared.preallocated.Stock.{Stock}
use Rattle.roster.specs.declared.tables.Card.{Card}
use Rattle.roster.specs.Known.{Known}
use Rattle.roster.specs.Legal.{AreNext}
use Rattle.roster.specs.Lists.{row_of, keyed_name, joinings, Refits, BeginWith, AreListed}
use Rattle.roster.specs.Table.{Table}
use Rattle.roster.specs.Tables.{person_at}
use Rattle.roster.specs.Stands.{IsKept}
use Rattle.roster.proofs.Kept.{kept_idle, kept_again}
use Rattle.roster.proofs.SeatLists.{listed_idle, listed_ready, begin_same}
use Rattle.roster.proofs.SeatLists.{refits_refl, refits_same, refits_more}
use Rattle.roster.proofs.SameTables.{channels_alike}
use Rattle.roster.proofs.Widened.{IsWider, still_ready}
use Rattle.roster.proofs.roster.Roster.prepare.Goals as goal

pub reserve_channels-requires-clause-apart : goal.reserve_channels-requires-clause-apart
reserve_channels-requires-clause-apart c = c.self.invariant.0.channels.apart

pub invariant_of-self : goal.invariant_of-self
invariant_of-self c =
    let r = c.self.inside in let sp = r.stock.spare.items in let fo = r.stock.keys.items in (
      subst (IsKept r.people r.marks r.nicks r.channels sp fo r.facts.value) (sym c.blank.ensures)
          (kept_idle r.people r.marks r.nicks r.channels sp fo r.facts.value r.ready.value c.self.invariant.0),
      subst (AreListed r.people.list r.stock.copies.items r.facts.value) (sym c.blank.ensures)
          (listed_idle r.people.list r.stock.copies.items r.facts.value r.ready.value c.self.invariant.1),
    )

pub invariant_of-self-in_err-reserve_channels : goal.invariant_of-self-in_err-reserve_channels
invariant_of-self-in_err-reserve_channels c =
    let r = c.self.inside in
    let m = c.reserve_channels in
    let fo = r.stock.keys.items in
    let ks = r.channels in
    let ms = m.new.channels in
    let qs = r.people in
    let vs = r.marks in
    let ls = r.nicks in
    let enough : length fo ≤ c.max-changes.result = grind (arith, common_steps) in
    still_ready r.people r.marks r.nicks ks r.stock.spare.items r.stock.copies.items fo r.facts.value r.ready.value
    c.max-changes.result qs vs ls ms c.self.invariant enough m.ensures.alike m.ensures.kept m.ensures.spare
    (λ t. refl) (refits_refl ms.list qs.list) (omega arith) (record { list = refl; room = omega arith })
    (record { list = refl; room = omega arith })

pub invariant_of-self-in_err-reserve_lists : goal.invariant_of-self-in_err-reserve_lists
invariant_of-self-in_err-reserve_lists c =
    let r = c.self.inside in
    let m = c.reserve_channels in
    let fo = r.stock.keys.items in
    let ks = r.channels in
    let ms = m.new.channels in
    let l = c.reserve_lists in
    let qs = l.new.people in
    let vs = l.new.marks in
    let ls = r.nicks in
    let enough : length fo ≤ c.max-changes.result = grind (arith, common_steps) in
    still_ready r.people r.marks r.nicks ks r.stock.spare.items r.stock.copies.items fo r.facts.value r.ready.value
    c.max-changes.result qs vs ls ms c.self.invariant enough m.ensures.alike m.ensures.kept m.ensures.spare
    l.ensures.people l.ensures.kept l.ensures.spare
    (subst (IsWider r.marks) (sym l.ensures.marks) (record { list = refl; room = omega arith }))
    (record { list = refl; room = omega arith })

pub invariant_of-self-in_err-reserve_people : goal.invariant_of-self-in_err-reserve_people
invariant_of-self-in_err-reserve_people c =
    let r = c.self.inside in
    let m = c.reserve_channels in
    let fo = r.stock.keys.items in
    let ks = r.channels in
    let ms = m.new.channels in
    let l = c.reserve_lists in
    let p = c.reserve_people in
    let qs = p.new.people in
    let vs = p.new.marks in
    let ls = p.new.nicks in
    let enough : length fo ≤ c.max-changes.result = grind (arith, common_steps) in
    still_ready r.people r.marks r.nicks ks r.stock.spare.items r.stock.copies.items fo r.facts.value r.ready.value
    c.max-changes.result qs vs ls ms c.self.invariant enough m.ensures.alike m.ensures.kept m.ensures.spare
    (λ t. ap (λ (es : List (ℕ × Card)). person_at es t) p.ensures.people ∙ l.ensures.people t)
    (refits_more ms.list r.people.list l.new.people.list qs.list l.ensures.kept
    (refits_same ms.list l.new.people.list qs.list p.ensures.people))
    (let had = l.ensures.spare in let more = p.ensures.people_kept in omega arith)
    (subst (λ (v : Table Why). IsWider v vs) l.ensures.marks
    (record { list = p.ensures.marks; room = p.ensures.marks_kept }))
    (record { list = p.ensures.nicks; room = p.ensures.nicks_kept })

pub invariant_of-self-in_err-fill : goal.invariant_of-self-in_err-fill
invariant_of-self-in_err-fill c =
    let r = c.self.inside in
    let m = c.reserve_channels in
    let fo = r.stock.keys.items in
    let ks = r.channels in
    let ms = m.new.channels in
    let l = c.reserve_lists in
    let p = c.reserve_people in
    let qs = p.new.people in
    let vs = p.new.marks in
    let ls = p.new.nicks in
    let enough : length fo ≤ c.max-changes.result = grind (arith, common_steps) in
    still_ready r.people r.marks r.nicks ks r.stock.spare.items r.stock.copies.items fo r.facts.value r.ready.value
    c.max-changes.result qs vs ls ms c.self.invariant enough m.ensures.alike m.ensures.kept m.ensures.spare
    (λ t. ap (λ (es : List (ℕ × Card)). person_at es t) p.ensures.people ∙ l.ensures.people t)
    (refits_more ms.list r.people.list l.new.people.list qs.list l.ensures.kept
    (refits_same ms.list l.new.people.list qs.list p.ensures.people))
    (let had = l.ensures.spare in let more = p.ensures.people_kept in omega arith)
    (subst (λ (v : Table Why). IsWider v vs) l.ensures.marks
    (record { list = p.ensures.marks; room = p.ensures.marks_kept }))
    (record { list = p.ensures.nicks; room = p.ensures.nicks_kept })

pub invariant_of-self-2 : goal.invariant_of-self-2
invariant_of-self-2 c =
    let r = c.self.inside in
    let i = c.self.invariant.0 in
    let m = c.reserve_channels in
    let fs = r.facts.value in
    let ds = c.args.deeds.now in
    let ks = r.channels in
    let ms = m.new.channels in
    let qs = c.reserve_people.new.people in
    let vs = c.reserve_people.new.marks in
    let ls = c.reserve_people.new.nicks in
    let made = c.fill.new.self in
    let sp = made.spare.items in
    let ns = made.copies.items in
    let fo = made.keys.items in
    let st = (channels_alike ks.list ms.list fs m.ensures.alike i.channels).states in
    let now : c.append_all.new.list.value ≡ ds = c.append_all.ensures ∙ ap
    (λ (xs : List Deed). xs ++ ds) c.blank-2.ensures in
    let wide : Refits ms.list r.people.list qs.list =
    refits_more ms.list r.people.list c.reserve_lists.new.people.list qs.list c.reserve_lists.ensures.kept
    (refits_same ms.list c.reserve_lists.new.people.list qs.list c.reserve_people.ensures.people) in
    let room : (s : ℕ) → joinings s ds ≤ (row_of qs.list s).room = λ s. subst
    (λ (es : List (ℕ × Card)). joinings s ds ≤ (row_of es s).room) (sym c.reserve_people.ensures.people)
    (c.in_ok-reserve_lists.ensures.room s) in
    subst (λ (k : Stock). IsKept qs vs ls ms k.spare.items k.keys.items fs c.append_all.new.list.value
    × AreListed qs.list k.copies.items fs c.append_all.new.list.value) (sym c.swap.ensures.x_after) (
      subst (IsKept qs vs ls ms sp fo fs) (sym now)
          (kept_again r.people r.marks r.nicks ks r.stock.spare.items r.stock.keys.items fs r.ready.value
          qs vs ls ms sp fo ds i (λ t. ap (λ (es : List (ℕ × Card)). person_at es t)
          c.reserve_people.ensures.people ∙ c.reserve_lists.ensures.people t)
          (c.reserve_people.ensures.marks ∙ ap (λ (v : Table Why). v.list) c.reserve_lists.ensures.marks)
          c.reserve_people.ensures.nicks m.ensures.alike
          (subst (λ (k : Known). AreNext k.facts ds) (sym c.self.view_is) c.requires)
          (record {
            people = c.in_ok-reserve_people.ensures.people_room;
            whys = c.in_ok-reserve_people.ensures.marks_room;
            nicks = c.in_ok-reserve_people.ensures.nicks_room;
            channels = c.in_ok-reserve_channels.ensures.room;
            seats = c.in_ok-reserve_channels.ensures.seats;
            enough = c.in_ok-fill.ensures.enough;
            empty = c.in_ok-fill.ensures.empty;
            keys = subst (BeginWith (flat_map keyed_name ds)) (sym c.in_ok-fill.ensures.keys)
                (begin_same (flat_map keyed_name ds));
          })),
      subst (AreListed qs.list ns fs) (sym now)
          (listed_ready ms.list r.people.list qs.list r.stock.copies.items ns fs r.ready.value ds st
          c.self.invariant.1 wide room c.in_ok-fill.ensures.copies),
    )
