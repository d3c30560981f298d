-- What the server supports: RPL_ISUPPORT, as IRC servers tell it in tokens (in no RFC). The values are this
-- project's own limits.
use Rattle.std.specs.Prelude.{ℕ, List, [], ◌∷◌, codes}

abbrev pub tokens : List (List ℕ)
tokens =
    codes "AWAYLEN=200"
    ∷ codes "CASEMAPPING=rfc1459"
    ∷ codes "CHANLIMIT=#&:20"
    ∷ codes "CHANMODES=b,k,l,imnst"
    ∷ codes "CHANNELLEN=50"
    ∷ codes "CHANTYPES=#&"
    ∷ codes "KICKLEN=200"
    ∷ codes "MAXLIST=b:60"
    ∷ codes "MODES=4"
    ∷ codes "NICKLEN=30"
    ∷ codes "PREFIX=(ov)@+"
    ∷ codes "TOPICLEN=300"
    ∷ []
