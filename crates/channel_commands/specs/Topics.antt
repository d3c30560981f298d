-- What TOPIC does: RFC 2812, section 3.2.4.
use Rattle.std.specs.Prelude.{ℕ, not, ◌&&◌, List, [], ◌∷◌, take, Option, Some, None, if◌then◌else◌}
use Rattle.channel_state.specs.declared.change.Change.TheVariants.{TopicSet}
use Rattle.channel_state.specs.State.{among}
use Rattle.numerics.specs.declared.numeric.Numeric.TheVariants.{NoSuchChannel, NotOnChannel}
use Rattle.numerics.specs.declared.numeric.Numeric.TheVariants.{ChanOPrivsNeeded, NoTopic, Topic}
use Rattle.registration.specs.declared.settings.Settings.{Settings}
use Rattle.roster.specs.declared.deed.Deed.{Deed}
use Rattle.roster.specs.declared.deed.Deed.TheVariants.{Changed}
use Rattle.transactions.specs.declared.effect.Effect.{Effect}
use Rattle.transactions.specs.declared.effect.Effect.TheVariants.{Establish, Show}
use Rattle.transactions.specs.Seen.{Seen}
use Rattle.transactions.specs.Lines.{prefix}
use Rattle.transactions.specs.Replies.{tells}
use Rattle.channel_commands.specs.Found.{channel_of}
use Rattle.channel_commands.specs.Lines.{topic_line}

-- ---- it is asked for

abbrev pub topic_shown : Settings → List Deed → ℕ → List ℕ → Option (List ℕ) → List Effect
topic_shown g fs s c None = tells g fs s (NoTopic c) ∷ []
topic_shown g fs s c (Some topic) = tells g fs s (Topic c topic) ∷ []

-- ---- it is set

-- a text, cut to 300 octets
unfoldable pub topic_text : List ℕ → List ℕ
topic_text text = take 300 text

-- an empty text clears it
unfoldable pub topic_of : List ℕ → Option (List ℕ)
topic_of [] = None
topic_of (x ∷ xs) = Some (x ∷ xs)

-- all members are shown it
abbrev pub sets_topic : List Deed → ℕ → Seen → List ℕ → List Effect
sets_topic fs s k text = Establish (Changed k.name (TopicSet (topic_of text)))
    ∷ Show k.state.members (topic_line (prefix fs s) k.name text) ∷ []

-- where it is locked operators alone set it
unfoldable pub topic_served : Settings → List Deed → ℕ → Seen → Option (List ℕ) → List Effect
topic_served g fs s k None = topic_shown g fs s k.name k.state.topic
topic_served g fs s k (Some text) =
    if k.state.modes.topic_locked && not (among s k.state.operators) then tells g fs s (ChanOPrivsNeeded k.name) ∷ []
    else sets_topic fs s k (topic_text text)

abbrev pub topics_seen : Settings → List Deed → ℕ → List ℕ → Option (List ℕ) → Option Seen → List Effect
topics_seen g fs s c text None = tells g fs s (NoSuchChannel c) ∷ []
topics_seen g fs s c text (Some k) = if not (among s k.state.members) then tells g fs s (NotOnChannel k.name) ∷ []
    else topic_served g fs s k text

abbrev pub topics : Settings → List Deed → ℕ → List ℕ → Option (List ℕ) → List Effect
topics g fs s c text = topics_seen g fs s c text (channel_of fs c)
