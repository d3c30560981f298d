-- A line that is no part of an answer, for receivers of any capabilities: of these only server-time and message-tags
-- tell how it is spelled (IRCv3 server-time, IRCv3 message-tags).
use Rattle.std.specs.Prelude.{◌≡◌, ℕ, ℤ, Bool, true, false, List, [], ◌++◌, codes, cond, Option, None, IfSome}
use Rattle.numerics.specs.declared.outgoing.Out.{Out}
use Rattle.numerics.specs.CivilTime.{time_text}
use Rattle.numerics.specs.Outgoing.{octets}
use Rattle.registration.specs.declared.caps.Caps.{Caps}
use Rattle.labels_batches.specs.Answers.{tagged_as}
use Rattle.labels_batches.specs.Rendered.{with_end, spelled_line, with_tag}

abbrev pub spelled_for : Caps → ℤ → Out → List ℕ
spelled_for caps m l = spelled_line caps m (tagged_as None l)

-- a line at the moment of its record
pub record Spelled : Type 0 where
  pub line : Out
  pub moment : ℤ

-- a line with its moment or without, and with its tags or without
abbrev pub spelled_with : Bool → Bool → ℤ → Out → List ℕ
spelled_with time tags m l =
    let timed = cond time (with_tag [] (codes "time=" ++ time_text m)) [] in
    with_end (cond tags (with_tag timed l.tags) timed) ++ octets l

-- the spellings that are kept are those of the line
pub record AreOf (l : Out) (m : ℤ) (tags plain : List ℕ) (timed tagged both : Option (List ℕ)) : Type 0 where
  pub are_tags : tags ≡ l.tags
  pub is_plain : plain ≡ octets l
  pub is_timed : IfSome timed (λ t. t ≡ spelled_with true false m l)
  pub is_tagged : IfSome tagged (λ t. t ≡ spelled_with false true m l)
  pub is_both : IfSome both (λ t. t ≡ spelled_with true true m l)
