use Rattle.std.proofs.Common.{rules, ℕ, ◌==◌, filter, ap, ◌∙◌}
use Rattle.std.proofs.lemmas.Fn.{always_returns_same}
use Rattle.ledger.proofs.Ascending.{stable_numbers}
use Rattle.ledger.proofs.fan_out.by_number.Goals as goal

pub returns : goal.returns
returns c = λ t.
    ap (filter (λ (h : ℕ). h == t)) c.from_vec.ensures
    ∙ stable_numbers _ _ (c.sort_by_key.ensures.stable (λ (x : ℕ). x)
    (always_returns_same _ _ _ (λ a r f h. search rules))) t
    ∙ ap (filter (λ (h : ℕ). h == t)) (c.in_ok-sorted.ensures.items ∙ c.as_slice-2.ensures)
