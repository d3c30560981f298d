-- What has to be known of a history to go on from it, whatever records come: this project's own. Who drops records
-- keeps this of them.
use Rattle.std.specs.Prelude.{ℕ, ℤ, ◌+◌, ◌-◌, Bool, false, not, ◌&&◌, ◌||◌, nat_le, cond, List}
use Rattle.std.specs.Prelude.{[], ◌∷◌, ◌++◌, length, take, drop, Option, Some}
use Rattle.line_grammar.specs.declared.splitter.Piece.{Piece}
use Rattle.chronicle.specs.declared.record.Kind.{Kind}
use Rattle.chronicle.specs.History.{Rec, last_moment, opened_by, sessions, accepted, misses, ends, shut, gone}
use Rattle.chronicle.specs.Idle.{PING_AFTER, hears_of, is_tick, idle_since, was_before, was_pinged}
use Rattle.registration.specs.declared.settings.Settings.{Settings}
use Rattle.roster.specs.declared.deed.Deed.{Deed}
use Rattle.roster.specs.LookBack.{after, caps}
use Rattle.labels_batches.specs.Spellings.{spelled_for}
use Rattle.deeds.specs.Deeds.{deeds, facts, text}
use Rattle.deeds.specs.Ping.{ping_line}
use Rattle.deliveries.specs.declared.delivery.Delivery.{Delivery}
use Rattle.deliveries.specs.declared.delivery.Delivery.TheVariants.{Last}
use Rattle.deliveries.specs.Owed.{item, reason, owed}

-- what is known of sessions and channels, in which each look-up is a look-back; how many records and how many
-- sessions there are, which is the number of the newest of each; the newest moment; who is shut and who is gone; and
-- of each session since when it is idle, whether it was pinged since, how many of its pieces were accepted and how
-- many deliveries it is owed
pub record Base : Type 0 where
  pub facts : List Deed
  pub records : ℕ
  pub sessions : ℕ
  pub moment : ℤ
  pub shut : ℕ → Bool
  pub gone : ℕ → Bool
  pub idle_since : ℕ → Option ℤ
  pub was_pinged : ℕ → Bool
  pub accepted : ℕ → ℕ
  pub owed : ℕ → ℕ

-- that of a history
abbrev pub base : Settings → List Rec → Base
base g h =
    record {
      facts = facts g h;
      records = length h;
      sessions = sessions h;
      moment = last_moment h;
      shut = shut h;
      gone = gone h;
      idle_since = idle_since h;
      was_pinged = was_pinged h;
      accepted = λ t. length (accepted h t);
      owed = λ t. length (owed g h t);
    }

-- the first n records of a history, and those after them
abbrev pub dropped_part : ℕ → List Rec → List Rec
dropped_part n h = drop (length h - n) h

abbrev pub kept_part : ℕ → List Rec → List Rec
kept_part n h = take (length h - n) h

-- ---- later records, the newest first, each looked back from to the base and no further

abbrev pub facts_from : Settings → Base → List Rec → List Deed
facts_from g b [] = b.facts
facts_from g b (r ∷ h) = after (facts_from g b h) (deeds g (facts_from g b h) r.kind)

abbrev pub records_from : Base → List Rec → ℕ
records_from b h = length h + b.records

abbrev pub sessions_from : Base → List Rec → ℕ
sessions_from b [] = b.sessions
sessions_from b (r ∷ h) = opened_by r.kind + sessions_from b h

abbrev pub shut_from : Base → List Rec → ℕ → Bool
shut_from b [] t = b.shut t
shut_from b (r ∷ h) t = misses r t || ends r.kind t || shut_from b h t

abbrev pub idle_since_from : Base → List Rec → ℕ → Option ℤ
idle_since_from b [] t = b.idle_since t
idle_since_from b (r ∷ h) t = cond (hears_of r.kind t) (Some r.moment) (idle_since_from b h t)

abbrev pub is_silent_from : Base → List Rec → ℕ → ℤ → Bool
is_silent_from b h t moment = not (shut_from b h t) && was_before (idle_since_from b h t) PING_AFTER moment

abbrev pub was_pinged_from : Base → List Rec → ℕ → Bool
was_pinged_from b [] t = b.was_pinged t
was_pinged_from b (r ∷ h) t = cond (hears_of r.kind t) false
    (was_pinged_from b h t || (is_tick r.kind && is_silent_from b h t r.moment))

abbrev pub is_pinged_from : Base → List Rec → ℕ → ℤ → Bool
is_pinged_from b h t moment = is_silent_from b h t moment && not (was_pinged_from b h t)

-- what a record of this kind and moment after these tells t, as `ticked` and `told` say it of a whole history
abbrev pub ticked_from : Settings → Base → List Rec → Kind → ℤ → ℕ → List ℕ
ticked_from g b h k moment t = cond (is_tick k && is_pinged_from b h t moment)
    (spelled_for (caps (facts_from g b h) t) moment (ping_line g.server)) []

abbrev pub told_from : Settings → Base → List Rec → Kind → ℤ → ℕ → List ℕ
told_from g b h k moment t = ticked_from g b h k moment t ++ cond (nat_le t (sessions_from b h))
    (text g (facts_from g b h) k moment (records_from b h + 1) t) []

abbrev pub delivery_from : Settings → Base → List Rec → Kind → ℤ → ℕ → List Delivery
delivery_from g b h k moment t = cond (ends k t) (Last (records_from b h + 1) (reason k) ∷ [])
    (item (records_from b h + 1) (told_from g b h k moment t))

-- the deliveries of the later records to t
abbrev pub owed_from : Settings → Base → List Rec → ℕ → List Delivery
owed_from g b [] t = []
owed_from g b (r ∷ h) t = owed_from g b h t ++ cond (misses r t || shut_from b h t) []
    (delivery_from g b h r.kind r.moment t)

-- the pieces of t that the later records accept, for which nothing is looked back
abbrev pub accepted_from : Base → List Rec → ℕ → List Piece
accepted_from b h t = accepted h t
