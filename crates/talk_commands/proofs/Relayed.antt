-- Where no tags came, none are passed on.
use Rattle.std.proofs.Common.{◌≡◌, ◌==◌, ℕ, true, List, [], length, ap}
use Rattle.std.proofs.lemmas.Bool.{eqb-true}
use Rattle.std.proofs.lemmas.List.{nil_from_length}
use Rattle.message_tags.specs.Tags.{counting_tags, key_shape}
use Rattle.message_tags.specs.ClientOnly.{client_only_data}
use Rattle.talk_commands.specs.Talk.{client_tags}

pub none_relayed : (tags : List ℕ) → (length tags == 0) ≡ true → client_tags tags ≡ []
unfolding counting_tags key_shape client_only_data
none_relayed tags none = ap client_tags (nil_from_length tags (eqb-true (length tags) 0 none))
