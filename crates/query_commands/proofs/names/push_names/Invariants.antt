use Rattle.std.proofs.Common.{◌≡◌, ◌+◌, ◌≤◌, length, map, drop}
use Rattle.numerics.specs.declared.numeric.Numeric.TheVariants.{NamReply}
use Rattle.numerics.specs.Cut.{lines_with}
use Rattle.query_commands.specs.Names.{member_name, name_lines}
use Rattle.query_commands.specs.Telling.{telling_more}
use Rattle.query_commands.proofs.names.push_names.Given as goal

abbrev pub invariant-loop-member : goal.invariant-loop-member
invariant-loop-member l =
    let k = l.listed in let spelled = member_name l.roster.facts k.state in
    let told = NamReply k.state.modes.secret k.name in
    let names = map spelled (drop l.member-index l.rest) in record {
      told : telling_more l.telling (map told (lines_with l.room (length l.members) l.line names))
          ≡ telling_more l.fn.telling (name_lines k l.room (map spelled l.members));
      short : length l.line ≤ l.member-index + 1;
    }
