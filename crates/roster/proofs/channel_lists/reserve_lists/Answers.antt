use Rattle.std.proofs.Common.{arith, ◌≤◌, length, refl, ◌∙◌}
use Rattle.roster.proofs.SeatLists.{room_for_none, room_for_more, room_for_all, refits_refl, refits_more}
use Rattle.roster.proofs.channel_lists.reserve_lists.Goals as goal

pub loop-deed-init : goal.loop-deed-init
loop-deed-init c = record {
  marks = refl;
  people = λ t. refl;
  kept = refits_refl c.args.channels.now.list
      c.args.people.now.list;
  spare = omega arith;
  room = room_for_none (length c.args.deeds.now) c.args.people.now.list;
}

pub loop-deed-preserved : goal.loop-deed-preserved
loop-deed-preserved c =
    let rs = c.loop-deed.people.list in let qs = c.reserve_for.new.people.list in let ds = c.args.deeds.now in
    record {
      marks = c.reserve_for.ensures.marks ∙ c.loop-deed.invariant.marks;
      people = λ t. c.reserve_for.ensures.people t ∙ c.loop-deed.invariant.people t;
      kept = refits_more c.args.channels.now.list c.args.people.now.list rs qs c.loop-deed.invariant.kept
          c.reserve_for.ensures.kept;
      spare = let had = c.loop-deed.invariant.spare in let more = c.reserve_for.ensures.spare in omega arith;
      room = room_for_more c.args.channels.now.list
          (length ds) c.loop-deed.deed-index ds c.deed-item.result rs qs c.loop-deed-test.true c.deed-item.is
          c.reserve_for.ensures.kept c.loop-deed.invariant.room c.in_ok-reserve_for.ensures.room;
    }

pub returns-in_err-reserve_for-clause-people : goal.returns-in_err-reserve_for-clause-people
returns-in_err-reserve_for-clause-people c = λ t. c.reserve_for.ensures.people t ∙ c.loop-deed.invariant.people t

pub returns-in_err-reserve_for-clause-kept : goal.returns-in_err-reserve_for-clause-kept
returns-in_err-reserve_for-clause-kept c = refits_more c.args.channels.now.list c.args.people.now.list
    c.loop-deed.people.list c.reserve_for.new.people.list c.loop-deed.invariant.kept c.reserve_for.ensures.kept

pub returns-clause-people : goal.returns-clause-people
returns-clause-people c = c.loop-deed.invariant.people

pub returns-clause-kept : goal.returns-clause-kept
returns-clause-kept c = c.loop-deed.invariant.kept

pub returns-clause-room : goal.returns-clause-room
returns-clause-room c =
    let ds = c.args.deeds.now in let i = c.loop-deed.deed-index in let l : length ds ≤ i = omega arith in
    room_for_all ds i c.loop-deed.people.list l c.loop-deed.invariant.room
