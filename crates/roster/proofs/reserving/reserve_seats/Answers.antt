use Rattle.std.proofs.Common.{arith, ◌≤◌, length, refl, ◌∙◌}
use Rattle.roster.specs.Stands.{changed_name}
use Rattle.roster.proofs.MadeRoom.{alike_refl, alike_more, seats_for_none, seats_for_more, seats_for_all}
use Rattle.roster.proofs.MadeRoom.{keeps_same, keeps_more, keeps_by}
use Rattle.roster.proofs.reserving.reserve_seats.Goals as goal

pub loop-deed-init : goal.loop-deed-init
loop-deed-init c = let ks = c.args.channels.now.list in let n = c.args.changes in record {
  alike = alike_refl ks;
  apart = c.requires.apart;
  kept = keeps_same n ks ks refl;
  seats = seats_for_none n ks;
  room = refl;
}

pub loop-deed-preserved : goal.loop-deed-preserved
loop-deed-preserved c =
    let n = c.args.changes in
    let start = c.args.channels.now.list in
    let ks = c.loop-deed.channels.list in
    let ls = c.reserve_for.new.channels.list in
    let d = c.deed-item.result in let ds = c.args.deeds.now in let i = c.loop-deed.invariant in
    let next = seats_for_more n c.loop-deed.deed-index ds d ks ls c.loop-deed-test.true c.deed-item.is i.apart
    c.in_ok-reserve_for.ensures.reserved i.seats in
    record {
      alike = alike_more start ks ls i.alike c.reserve_for.ensures.alike;
      apart = next.1;
      kept = keeps_more n start ks ls i.kept
          (keeps_by n (changed_name d) ks ls c.in_ok-reserve_for.ensures.reserved);
      seats = next.0;
      room = c.reserve_for.ensures.room ∙ i.room;
    }

pub returns-in_err-reserve_for-clause-alike : goal.returns-in_err-reserve_for-clause-alike
returns-in_err-reserve_for-clause-alike c = alike_more c.args.channels.now.list c.loop-deed.channels.list
    c.reserve_for.new.channels.list c.loop-deed.invariant.alike c.reserve_for.ensures.alike

pub returns-in_err-reserve_for-clause-kept : goal.returns-in_err-reserve_for-clause-kept
returns-in_err-reserve_for-clause-kept c = keeps_more c.args.changes c.args.channels.now.list
    c.loop-deed.channels.list c.reserve_for.new.channels.list c.loop-deed.invariant.kept
    (keeps_same c.args.changes c.loop-deed.channels.list c.reserve_for.new.channels.list
    c.in_err-reserve_for.ensures.err)

pub returns-clause-alike : goal.returns-clause-alike
returns-clause-alike c = c.loop-deed.invariant.alike

pub returns-clause-kept : goal.returns-clause-kept
returns-clause-kept c = c.loop-deed.invariant.kept

pub returns-clause-seats : goal.returns-clause-seats
returns-clause-seats c =
    let ds = c.args.deeds.now in let i = c.loop-deed.deed-index in let l : length ds ≤ i = omega arith in
    seats_for_all c.args.changes ds i c.loop-deed.channels.list c.requires.enough l c.loop-deed.invariant.seats
