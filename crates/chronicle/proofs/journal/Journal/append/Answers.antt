use Rattle.std.proofs.Common.{arith, ◌≡◌, ℕ, ◌+◌, ◌-◌, ◌<◌, min, subst, length-append}
use Rattle.std.proofs.Common.{◌∷◌, [], ◌++◌, length, reverse, sym, ap, ◌∙◌}
use Rattle.std.proofs.lemmas.Grind.{common_steps}
use Rattle.std.proofs.lemmas.List.{reverse-append}
use Rattle.chronicle.specs.declared.record.Record.{Record}
use Rattle.chronicle.specs.History.{Rec, last_moment}
use Rattle.chronicle.specs.Journal.{fresh_record, room_left, history_of, most}
use Rattle.chronicle.proofs.Look.{newest}
use Rattle.chronicle.proofs.Most.{room_kept, room_low, room_less}
use Rattle.chronicle.proofs.journal.Journal.append.Goals as goal

pub invariant_of-self : goal.invariant_of-self
invariant_of-self c =
    let a = c.self.inside in
    let xs = a.records.items in
    let i = c.self.invariant in let m = most (record { records = a.limit; dropped = a.dropped; is_cut = a.is_cut }) in
    let er : min (a.records.free) (m - (a.dropped + length xs)) ≡ c.args.self.now.room = ap
    (λ j. j.room) c.self.view_is in
    let room : 0 < min (a.records.free) (m - (a.dropped + length xs)) = subst (λ (n : ℕ). 0 < n) (sym er) c.requires in
    let r : Record = record {
      number = c.new-number.result;
      moment = c.args.moment;
      kind = c.args.kind;
      missed = c.replace-missed.result;
    } in
    let all : c.push.new.self.items ≡ xs ++ r ∷ [] = c.push.ensures.items in
    let longer : length c.push.new.self.items ≡ length xs + 1 = ap length all ∙ length-append xs (r ∷ []) in
    let kept = room_kept a.is_cut (a.records.free) a.limit a.dropped (length xs) room in
    let low = room_low a.is_cut (a.records.free) a.limit a.dropped (length xs) room in (
      omega (arith, longer, kept),
      omega (arith, longer, low),
      i.2,
      sym (ap last_moment (ap (λ ys. history_of ys a.past.value) all ∙ newest xs r a.past.value)),
      grind (arith, common_steps),
      grind (arith, common_steps),
    )

pub returns-clause-appended : goal.returns-clause-appended
returns-clause-appended c =
    let a = c.self.inside in let xs = a.records.items in let past = a.past.value in
    let v = c.self.view_is in let m = most (record { records = a.limit; dropped = a.dropped; is_cut = a.is_cut }) in
    let eh : history_of xs past ≡ c.args.self.now.history = ap (λ j. j.history) v in
    let r : Record = record {
      number = c.new-number.result;
      moment = c.args.moment;
      kind = c.args.kind;
      missed = c.replace-missed.result;
    } in
    let all : c.push.new.self.items ≡ xs ++ r ∷ [] = c.push.ensures.items in
    let count : c.new-number.result ≡ length c.args.self.now.history + 1 = grind (arith, common_steps) in
    let er : min (a.records.free) (m - (a.dropped + length xs)) ≡ c.args.self.now.room = ap (λ j. j.room) v in
    let room : 0 < min (a.records.free) (m - (a.dropped + length xs)) = subst (λ (n : ℕ). 0 < n) (sym er) c.requires in
    let longer : a.dropped + length c.push.new.self.items ≡ a.dropped + length xs + 1 = ap
    (λ n. a.dropped + n) (ap length all ∙ length-append xs (r ∷ [])) ∙ omega arith in
    let nobody : c.replace-missed.result.items ≡ [] = grind (arith, common_steps) in
    let F : ℕ → Rec = λ n. record { number = n; moment = c.args.moment; kind = c.args.kind; missed = [] } in
    record {
      history = ap (λ ys. history_of ys past) all ∙ newest xs r past ∙ ap
          (λ ms. record { number = c.new-number.result; moment = c.args.moment; kind = c.args.kind; missed = ms }
          ∷ history_of xs past) nobody
          ∙ ap (λ n. F n ∷ history_of xs past) count ∙ ap
          (λ k. fresh_record c.args.self.now.history c.args.moment c.args.kind ∷ k) eh;
      limit = ap (λ j. j.limit) v;
      room = ap (λ n. min c.push.new.self.free (m - n) + 1) longer ∙ room_less c.push.new.self.free a.records.free m
          (a.dropped + length xs) c.push.ensures.free room ∙ er;
      left = ap (λ ys. room_left (reverse ys)) all ∙ ap room_left (reverse-append xs (r ∷ [])) ∙ ap
          (λ k. k.capacity - length k.items) c.replace-missed.ensures.value ∙ ap (λ j. j.prepared) v;
    }
