-- The definitions at work, computed. Sessions 1 and 2 are al and bo, and al has made the secret channel #a.
use Rattle.std.proofs.Common.{◌≡◌, ℕ, true, false, List, [], ◌∷◌, ◌++◌, codes, Some, None, refl}
use Rattle.line_grammar.specs.Spelling.{bare_line}
use Rattle.casemapping.specs.Fold.{fold_of, is_same}
use Rattle.numerics.specs.Cut.{cut_lines}
use Rattle.numerics.specs.Numerics.{numeric, row_line}
use Rattle.numerics.specs.Outgoing.{room}
use Rattle.numerics.specs.declared.numeric.Numeric.TheVariants.{EndOfNames, EndOfWho, EndOfWhois, ListEnd, ListReply}
use Rattle.numerics.specs.declared.numeric.Numeric.TheVariants.{NamReply, NoSuchNick, WhoReply, WhoisServer, WhoisUser}
use Rattle.numerics.specs.declared.prefix.Prefix.TheVariants.{Operator}
use Rattle.registration.specs.declared.settings.Settings.{Settings}
use Rattle.channel_state.specs.declared.change.Change.TheVariants.{FlagSet}
use Rattle.channel_state.specs.declared.modes.Flag.TheVariants.{Secret}
use Rattle.roster.specs.declared.deed.Deed.{Deed}
use Rattle.roster.specs.declared.deed.Deed.TheVariants.{Opened, NickSet, UserSet, Enrolled, ChannelMade, Changed}
use Rattle.roster.specs.LookBack.{after, user_named}
use Rattle.query_commands.specs.Visible.{channel_for, members_for}
use Rattle.query_commands.specs.Names.{member_name, names_asked}
use Rattle.query_commands.specs.Listing.{channels_asked, lists_told}
use Rattle.query_commands.specs.Who.{who_asked}
use Rattle.query_commands.specs.Whois.{whois_found}

abbrev user : ℕ → List ℕ → List Deed
user s n = Opened s (codes "h") ∷ NickSet s n ∷ UserSet s n (codes "Re Al") ∷ Enrolled s ∷ []

abbrev secret : List Deed
secret = Changed (codes "#a") (FlagSet Secret true) ∷ ChannelMade 1 (codes "#a")
    ∷ after [] (user 1 (codes "al") ++ user 2 (codes "bo"))

-- bo isn't told that it is there
hidden :
    (g : Settings) → (names_asked g secret 2 (Some (codes "#A" ∷ [])) ≡ EndOfNames (codes "#A") ∷ [])
    × (lists_told secret 2 (channels_asked secret None) ≡ ListEnd ∷ [])
    × (who_asked secret 2 (Some (codes "#A")) ≡ EndOfWho (codes "#A") ∷ [])
unfolding channel_for is_same fold_of
hidden g = (refl, refl, refl)

-- al is
seen_from_inside :
    (g : Settings) → (names_asked (record g { server = codes "s" }) secret 1 (Some (codes "#A" ∷ []))
    ≡ NamReply true (codes "#a") (codes "@al" ∷ []) ∷ EndOfNames (codes "#a") ∷ [])
    × (lists_told secret 1 (channels_asked secret None) ≡ ListReply (codes "#a") 1 [] ∷ ListEnd ∷ [])
    × (who_asked secret 1 (Some (codes "#A")) ≡ WhoReply (record {
      channel = codes "#a";
      user = codes "al";
      host = codes "h";
      nick = codes "al";
      away = false;
      prefix = Some Operator;
      real = codes "Re Al";
    })
    ∷ EndOfWho (codes "#a") ∷ [])
unfolding channel_for members_for member_name is_same fold_of cut_lines room numeric row_line bare_line
seen_from_inside g = (refl, refl, refl)

-- bo isn't told where al is, and nobody is told of a nickname that nobody has
who_they_are :
    (g : Settings) → (let told = whois_found (record g { server = codes "s"; info = codes "i" }) secret 2 in
    (told (codes "AL") (user_named secret (codes "AL"))
    ≡ WhoisUser (codes "al") (codes "al") (codes "h") (codes "Re Al")
    ∷ WhoisServer (codes "al") (codes "i") ∷ EndOfWhois (codes "al") ∷ [])
    × (told (codes "cy") (user_named secret (codes "cy")) ≡ NoSuchNick (codes "cy") ∷ EndOfWhois (codes "cy") ∷ []))
unfolding channel_for is_same fold_of cut_lines room numeric row_line bare_line
who_they_are g = (refl, refl)
