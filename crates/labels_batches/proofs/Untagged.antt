-- Tag data of no octets has no label.
use Rattle.std.proofs.Common.{◌≡◌, List, ℕ, [], None, refl, sym, subst}
use Rattle.std.specs.Prelude.{codes, length}
use Rattle.std.proofs.lemmas.List.{nil_from_length}
use Rattle.message_tags.specs.Tags.{counting_tags, key_shape, last_value, tag}
use Rattle.labels_batches.specs.Labels.{as_label}

of_none : as_label (tag [] (codes "label")) ≡ None
unfolding counting_tags key_shape last_value
of_none = refl

pub no_label : (tag_data : List ℕ) → length tag_data ≡ 0 → as_label (tag tag_data (codes "label")) ≡ None
no_label tag_data e =
    subst (λ (ts : List ℕ). as_label (tag ts (codes "label")) ≡ None) (sym (nil_from_length tag_data e)) of_none

pub ruleset labels = (no_label)
