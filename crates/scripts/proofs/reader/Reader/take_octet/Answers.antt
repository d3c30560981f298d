use Rattle.std.proofs.lemmas.Grind.{common_steps}
use Rattle.std.proofs.Common.{◌≡◌, ◌∷◌, ◌++◌, [], arith}
use Rattle.scripts.specs.Stages.{head_of}
use Rattle.scripts.proofs.Faults.{at_end_of_line}
use Rattle.scripts.proofs.Printing.{at_line_feed, in_line}
use Rattle.scripts.proofs.reader.Reader.take_octet.Goals as goal

pub returns-then-octet-eq10-clause-fault : goal.returns-then-octet-eq10-clause-fault
returns-then-octet-eq10-clause-fault g c =
    let lf : c.args.octet ≡ 10 = grind (arith, common_steps) in
    at_end_of_line c.end_line.result (head_of c.args.self.now.stage) c.args.self.now.ended
    c.args.self.now.line.items c.args.octet lf c.end_line.ensures.fault

pub returns-then-octet-eq10-clause-printed : goal.returns-then-octet-eq10-clause-printed
returns-then-octet-eq10-clause-printed g c =
    let lf : c.args.octet ≡ 10 = grind (arith, common_steps) in
    at_line_feed c.end_line.result c.args.self.now.stage c.end_line.new.self.stage c.args.self.now.line.items
    c.end_line.new.self.line.items c.args.octet _ _ lf c.end_line.ensures.line c.end_line.ensures.printed

pub returns-clause-printed : goal.returns-clause-printed
returns-clause-printed g c =
    let grown : c.push.new.self.items ≡ c.args.self.now.line.items ++ c.args.octet
    ∷ [] = grind (arith, common_steps) in
    in_line c.args.self.now.stage c.args.self.now.line.items c.push.new.self.items c.args.octet _
    c.if-octet-eq10.false grown
