-- What is done of letters in turn: of one, and then of the rest.
use Rattle.std.proofs.Common.{◌≡◌, ℕ, ◌+◌, ◌<◌, List, ◌++◌, length, get_or, drop, sym, ap, ◌∙◌, append_assoc}
use Rattle.registration.specs.declared.settings.Settings.{Settings}
use Rattle.channel_state.specs.State.{State}
use Rattle.roster.specs.declared.deed.Deed.{Deed}
use Rattle.roster.specs.LookBack.{after}
use Rattle.transactions.specs.Effects.{deeds_of}
use Rattle.transactions.specs.TransactionView.{TransactionView, grown}
use Rattle.transactions.proofs.Replay.{grown_grown}
use Rattle.transactions.proofs.Turns.{dropped}
use Rattle.mode_commands.specs.declared.letters.ModeChange.{ModeChange}
use Rattle.mode_commands.specs.ChannelModes.{does, in_turn}
use Rattle.mode_commands.specs.Steps.{step, after_mode, steps, shown_by, all_shown}

module _ (b : List Deed) (k : State) (xs : List ModeChange) (i : ℕ) (zs : List ModeChange) where
  module _ (g : Settings) (s : ℕ) (c : List ℕ) (d : TransactionView) where
    pub turn_more : (x : ModeChange) → i < length xs → x ≡ get_or xs i x → let y = step b k x in let e = grown d
        (does g s c d.facts y) in grown e (in_turn g s c e.facts (steps b (after_mode y k) (drop (i + 1) xs ++ zs)))
        ≡ grown d (in_turn g s c d.facts (steps b k (drop i xs ++ zs)))
    turn_more x l is = let y = step b k x in grown_grown d (does g s c d.facts y) (in_turn g s c
        (after d.facts (deeds_of (does g s c d.facts y))) (steps b (after_mode y k) (drop (i + 1) xs ++ zs))) ∙ ap
        (λ ys. grown d (in_turn g s c d.facts (steps b k (ys ++ zs)))) (sym (dropped xs i x l is))

  pub shown_more : (before : List ModeChange) (x : ModeChange) → i < length xs → x ≡ get_or xs i x
      → let y = step b k x in (before ++ shown_by y) ++ all_shown (steps b (after_mode y k) (drop (i + 1) xs ++ zs))
      ≡ before ++ all_shown (steps b k (drop i xs ++ zs))
  shown_more before x l is = let y = step b k x in
      append_assoc before (shown_by y) (all_shown (steps b (after_mode y k) (drop (i + 1) xs ++ zs))) ∙ ap
      (λ ys. before ++ all_shown (steps b k (ys ++ zs))) (sym (dropped xs i x l is))
