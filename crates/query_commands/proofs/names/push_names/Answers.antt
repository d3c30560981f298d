use Rattle.std.proofs.Common.{◌≡◌, ℕ, Bool, List, ◌+◌, ◌<◌, ◌∷◌, ◌++◌, [], ap, sym, ◌∙◌, length}
use Rattle.std.proofs.Common.{arith, drop, length-append, map}
use Rattle.std.proofs.lemmas.List.{nil_from_length}
use Rattle.numerics.specs.declared.numeric.Numeric.TheVariants.{NamReply}
use Rattle.numerics.specs.Cut.{lines_with}
use Rattle.channel_state.specs.declared.modes.Modes.{Modes}
use Rattle.transactions.specs.Seen.{Seen}
use Rattle.transactions.proofs.Turns.{dropped}
use Rattle.query_commands.specs.Names.{member_name}
use Rattle.query_commands.specs.Telling.{Telling, telling_more}
use Rattle.query_commands.proofs.NameLines.{first_told, nothing_told, told_full, told_more}
use Rattle.query_commands.proofs.names.push_names.Goals as goal
use Rattle.query_commands.proofs.names.push_names.Goals.{then-takes+in_ok-line-2}
use Rattle.query_commands.proofs.names.push_names.Goals.{else-takes+in_ok-next+in_ok-push_names}

pub returns-in_default : goal.returns-in_default
returns-in_default c =
    let k = c.args.listed.now in
    nothing_told c.args.telling.now (NamReply k.state.modes.secret k.name) c.args.room
    (member_name c.args.roster.now.facts k.state) c.args.members.now
    (nil_from_length c.args.members.now c.in_default.ensures.cases)

pub loop-member-init : goal.loop-member-init
loop-member-init c =
    let k = c.args.listed.now in let f = member_name c.args.roster.now.facts k.state in
    let spelled = c.member_name.ensures
    ∙ ap (λ (j : Seen). member_name c.args.roster.now.facts j.state c.in-Some.first.now)
    c.listed.view_is in
    let one = c.in_ok-line.ensures ∙ ap (λ (n : List ℕ). n ∷ []) spelled in
    record {
      told = first_told c.args.telling.now (NamReply k.state.modes.secret k.name) c.args.room f c.in-Some.first.now
          c.args.members.now c.in-Some.rest.now c.in_ok-line.line c.in-Some.ensures.cases.0 one;
      short = omega (arith, ap length one);
    }

pub loop-member-preserved : goal.loop-member-preserved
loop-member-preserved c =
    let k = c.args.listed.now in let f = member_name c.args.roster.now.facts k.state in
    let told = NamReply k.state.modes.secret k.name in
    let room = c.args.room in let most = length c.args.members.now in let line = c.loop-member.line in
    let i = c.loop-member.member-index in let rest = c.in-Some.rest.now in let name = c.member_name-name.result in
    let names = map f (drop (i + 1) rest) in
    let spelled = c.member_name-name.ensures
    ∙ ap (λ (j : Seen). member_name c.args.roster.now.facts j.state c.member-item.result) c.listed.view_is in
    let next : map f (drop i rest) ≡ name ∷ names =
    ap (map f) (dropped rest i c.member-item.result c.loop-member-test.true c.member-item.is)
    ∙ ap (λ (n : List ℕ). n ∷ names) (sym spelled) in
    let short : length line < most = omega (
      arith,
      c.loop-member.invariant.short,
      c.loop-member-test.true,
      c.in-Some.ensures.cases.1,
    ) in
    let before = c.loop-member.telling in let after = c.if-takes.telling in
    let so_far = c.loop-member.invariant.told in
    elim c.if-takes.branch [
      | then-takes+in_ok-line-2 w ↦
          let longer : c.if-takes.line ≡ line ++ name ∷ [] = w.line-is ∙ w.in_ok-line-2.ensures in
          record {
            told = ap (λ (t : Telling). telling_more t (map told (lines_with room most c.if-takes.line names)))
                w.telling-is
                ∙ ap (λ (ls : List (List ℕ)). telling_more before (map told (lines_with room most ls names))) longer
                ∙ told_more before told room most line name names (map f (drop i rest)) next short
                (sym c.takes.ensures ∙ w.if-takes.true) ∙ so_far;
            short = omega (arith, ap length longer, length-append line (name ∷ []), c.loop-member.invariant.short);
          }
      | else-takes+in_ok-next+in_ok-push_names w ↦
          let new : c.if-takes.line ≡ name ∷ [] = w.line-is ∙ w.replace.ensures.after ∙ w.in_ok-next.ensures in
          let secret_is : c.modes.result.now.secret ≡ k.state.modes.secret =
          ap (λ (m : Modes). m.secret) c.modes.ensures ∙ ap (λ (j : Seen). j.state.modes.secret) c.listed.view_is in
          let more : after ≡ telling_more before (told line ∷ []) = w.telling-is ∙ w.in_ok-push_names.ensures
          ∙ ap (λ (b : Bool). telling_more before (NamReply b c.listed.inside.name.now w.replace.result ∷ []))
          secret_is
          ∙ ap (λ (j : Seen). telling_more before (NamReply k.state.modes.secret j.name w.replace.result ∷ []))
          c.listed.view_is ∙ ap (λ (ls : List (List ℕ)). telling_more before (told ls ∷ [])) w.replace.ensures.value in
          record {
            told = ap (λ (t : Telling). telling_more t (map told (lines_with room most c.if-takes.line names))) more
                ∙ ap (λ (ls : List (List ℕ)). telling_more (telling_more before (told line ∷ []))
                (map told (lines_with room most ls names))) new
                ∙ told_full before told room most line name names (map f (drop i rest)) next short
                (sym c.takes.ensures ∙ w.if-takes.false) ∙ so_far;
            short = omega (arith, ap length new);
          }
    ]
