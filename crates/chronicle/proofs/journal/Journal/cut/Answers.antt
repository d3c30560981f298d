use Rattle.std.proofs.Common.{arith, ◌≡◌, ℕ, ◌+◌, ◌-◌, ◌≤◌, true, min, length, ap, ◌∙◌, sym, subst}
use Rattle.std.proofs.lemmas.Grind.{common_steps}
use Rattle.chronicle.specs.History.{last_moment}
use Rattle.chronicle.specs.Journal.{most, history_of}
use Rattle.chronicle.proofs.Look.{history_length}
use Rattle.chronicle.proofs.Most.{room_cut}
use Rattle.chronicle.proofs.journal.Journal.cut.Goals as goal

pub overflow_add-self : goal.overflow_add-self
overflow_add-self c = omega arith

pub invariant_of-self : goal.invariant_of-self
invariant_of-self c =
    let a = c.self.inside in let i = c.self.invariant in
    let none : length c.clear.new.self.items ≡ 0 = ap length c.clear.ensures.items in
    let past : c.apply.new.told.value ≡ history_of a.records.items a.past.value = c.apply.ensures in
    let n = history_length a.records.items a.past.value in
    let all : history_of c.clear.new.self.items c.apply.new.told.value ≡ history_of a.records.items a.past.value =
    ap (λ xs. history_of xs c.apply.new.told.value) c.clear.ensures.items ∙ past in (
      grind (arith, common_steps, none),
      grind (arith, common_steps, none, i.1),
      grind (arith, common_steps, ap length past, n, i.2),
      i.3 ∙ ap last_moment (sym all),
      i.4,
      i.5,
    )

pub returns : goal.returns
returns c =
    let a = c.self.inside in let i = c.self.invariant in let v = c.self.view_is in
    let past : c.apply.new.told.value ≡ history_of a.records.items a.past.value = c.apply.ensures in
    let n = history_length a.records.items a.past.value in
    let all : history_of c.clear.new.self.items c.apply.new.told.value ≡ history_of a.records.items a.past.value =
    ap (λ xs. history_of xs c.apply.new.told.value) c.clear.ensures.items ∙ past in
    let new : a.dropped + c.len.result ≡ a.dropped + length a.records.items = grind (arith, common_steps) in
    let none : length c.clear.new.self.items ≡ 0 = ap length c.clear.ensures.items in
    let grown = room_cut a.is_cut a.records.free c.clear.new.self.free a.limit a.dropped (length a.records.items)
    (a.dropped + c.len.result) (length c.clear.new.self.items) c.clear.ensures.free new none in
    let room : min (a.records.free) (most (record { records = a.limit; dropped = a.dropped; is_cut = a.is_cut })
    - (a.dropped + length a.records.items)) ≡ c.args.self.now.room = ap (λ j. j.room) v in
    let dropped : a.dropped + c.len.result ≡ length c.args.self.now.history = new
    ∙ grind (arith, common_steps, n, i.2, ap (λ j. length j.history) v) in
    record {
      history = all ∙ ap (λ j. j.history) v;
      limit = ap (λ (d : ℕ). record { records = a.limit; dropped = d; is_cut = true }) dropped ∙ ap
          (λ (l : ℕ). record { records = l; dropped = length c.args.self.now.history; is_cut = true })
          (ap (λ j. j.limit.records) v);
      room = subst (λ (r : ℕ). r ≤ min (c.clear.new.self.free) (most (record {
        records = a.limit;
        dropped = a.dropped + c.len.result;
        is_cut = true;
      }) - (a.dropped + c.len.result + length c.clear.new.self.items))) room grown;
      prepared = ap (λ j. j.prepared) v;
    }
