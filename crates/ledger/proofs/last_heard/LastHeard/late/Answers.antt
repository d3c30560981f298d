use Rattle.std.proofs.Common.{◌≡◌, ℕ, Bool, true, Option, [], ◌∷◌, ◌++◌, cond, ap, sym, ◌∙◌}
use Rattle.chronicle.specs.Idle.{LATE_AFTER}
use Rattle.ledger.specs.LastHeard.{is_before, is_overdue, lower, lowest}
use Rattle.ledger.specs.Seats.{hears}
use Rattle.ledger.proofs.Picking.{seen_more, seen_enough, late_passes, not_yet_late, lowest_more}
use Rattle.ledger.proofs.last_heard.LastHeard.late.Goals as goal

pub returns-then-not-is_before-clause-late : goal.returns-then-not-is_before-clause-late
returns-then-not-is_before-clause-late c =
    let seats = c.args.seats.now in
    let moment = c.args.moment in
    let order = c.requires in let now = c.args.self.now in let i = c.loop-number.invariant in
    i.2 ∙ ap lowest (seen_enough (is_overdue seats moment) LATE_AFTER moment order.0 now c.loop-number.rest
    c.next_back.new.self i.0 (c.in-Some.number.now, c.in-Some.since.now) (not_yet_late seats moment)
    order.1 i.1 c.in-Some.ensures.steps (sym c.is_before.ensures ∙ c.if-not-is_before.true))

pub loop-number-preserved-then-is_listening : goal.loop-number-preserved-then-is_listening
loop-number-preserved-then-is_listening c =
    let seats = c.args.seats.now in
    let moment = c.args.moment in
    let now = c.args.self.now in
    let number = c.in-Some.number.now in let since = c.in-Some.since.now in let i = c.loop-number.invariant in
    let idle : is_before since LATE_AFTER moment ≡ true = sym c.is_before.ensures ∙ c.if-not-is_before.false in
    let open_ : hears seats number ≡ true = ap (hears seats) (sym c.new-session.ensures)
    ∙ sym c.is_listening.ensures ∙ c.if-is_listening.true in
    let passes : is_overdue seats moment (number, since)
    ≡ true = late_passes seats moment (number, since) idle open_ in
    let more : i.0 ++ number ∷ [] ≡ i.0 ++ cond (is_overdue seats moment (number, since)) (number ∷ []) [] = ap
    (λ (b : Bool). i.0 ++ cond b (number ∷ []) []) (sym passes) in (
      i.0 ++ number ∷ [],
      seen_more (is_overdue seats moment) now c.loop-number.rest c.next_back.new.self i.0 (i.0 ++ number ∷ [])
          (number, since) i.1 c.in-Some.ensures.steps more,
      c.lower-late.ensures ∙ ap (λ (o : Option ℕ). lower o c.new-session.result) i.2
          ∙ ap (lower (lowest i.0)) c.new-session.ensures ∙ sym (lowest_more i.0 number),
    )
