-- The definitions at work, computed. Sessions 1 to 4 are al, bo, cy and dee.
use Rattle.std.proofs.Common.{◌≡◌, true, false, List, [], ◌∷◌, codes, replicate, Some, None, refl}
use Rattle.casemapping.specs.Fold.{fold_of, is_same}
use Rattle.channel_state.specs.declared.change.Change.TheVariants.{Joined}
use Rattle.numerics.specs.Outgoing.{line}
use Rattle.registration.specs.declared.caps.Caps.{Caps}
use Rattle.registration.specs.declared.caps.Cap.TheVariants.{AwayNotify, ExtendedJoin}
use Rattle.registration.specs.Caps.{none_on, caps_with}
use Rattle.roster.specs.declared.deed.Deed.{Deed}
use Rattle.roster.specs.declared.deed.Deed.TheVariants.{Opened, CapsSet}
use Rattle.roster.specs.declared.deed.Deed.TheVariants.{AwaySet, ChannelMade, Changed}
use Rattle.roster.specs.LookBack.{after}
use Rattle.transactions.specs.Lines.{away_line}
use Rattle.talk_commands.specs.Away.{is_same_text, new_away, away_hearers}

-- a text is cut to 200 octets, and compared as it is kept
texts_are_kept : (new_away [] ≡ None) × (new_away (codes "out") ≡ Some (codes "out")) × (new_away (replicate 201 65)
    ≡ Some (replicate 200 65)) × (is_same_text (new_away (replicate 201 65)) (new_away (replicate 202 65)) ≡ true)
    × (is_same_text (Some (codes "out")) (Some (codes "Out")) ≡ false)
    × (is_same_text None (Some (codes "out")) ≡ false)
texts_are_kept = (refl, refl, refl, refl, refl, refl)

lines_of_away : (away_line (codes "al!a@h1") (Some (codes "out")) ≡ line (codes "al!a@h1") (codes "AWAY")
    (codes "out" ∷ []) true) × (away_line (codes "al!a@h1") None ≡ line (codes "al!a@h1") (codes "AWAY") [] false)
lines_of_away = (refl, refl)

abbrev asks : Caps
asks = caps_with none_on AwayNotify true

-- al and bo share two channels, and cy is on one of them. Bo and dee have asked for away-notify, and al has
abbrev met : List Deed
met = after [] (Opened 1 (codes "h") ∷ Opened 2 (codes "h") ∷ Opened 3 (codes "h") ∷ Opened 4 (codes "h")
    ∷ CapsSet 1 asks ∷ CapsSet 2 asks ∷ CapsSet 3 (caps_with none_on ExtendedJoin true) ∷ CapsSet 4 asks
    ∷ ChannelMade 2 (codes "#a") ∷ ChannelMade 2 (codes "#b") ∷ Changed (codes "#a") (Joined 3)
    ∷ Changed (codes "#a") (Joined 1) ∷ Changed (codes "#b") (Joined 1) ∷ [])

-- a change is shown to bo, once
changes_are_shown : (away_hearers met 1 (Some (codes "out")) ≡ 2 ∷ []) × (away_hearers met 1 None ≡ [])
    × (away_hearers (AwaySet 1 (Some (codes "out")) ∷ met) 1 (Some (codes "out")) ≡ [])
    × (away_hearers (AwaySet 1 (Some (codes "out")) ∷ met) 1 (Some (codes "off")) ≡ 2 ∷ [])
    × (away_hearers (AwaySet 1 (Some (codes "out")) ∷ met) 1 None ≡ 2 ∷ [])
    × (away_hearers met 3 (Some (codes "out")) ≡ 1 ∷ 2 ∷ []) × (away_hearers met 4 (Some (codes "out")) ≡ [])
unfolding is_same fold_of
changes_are_shown = (refl, refl, refl, refl, refl, refl, refl)
