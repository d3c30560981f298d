use Rattle.std.proofs.Common.{◌≡◌, true, take}
use Rattle.std.specs.List.{fold, list_all}
use Rattle.registration.specs.Caps.{after_word, is_known}
use Rattle.registration.proofs.caps.after_request.Given as goal

abbrev pub invariant-loop-word : goal.invariant-loop-word
invariant-loop-word l = record {
  known : list_all is_known (take l.word-index l.words) ≡ true;
  so_far : l.after ≡ fold after_word l.fn.caps (take l.word-index l.words);
}
