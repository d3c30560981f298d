use Rattle.std.proofs.lemmas.Grind.{common_steps}
use Rattle.std.proofs.Common.{◌≡◌, ◌<◌, ◌∙◌, take, length, arith}
use Rattle.std.proofs.lemmas.Result.{err_from_is_err_and}
use Rattle.scripts.specs.Lines.{check_ahead}
use Rattle.scripts.specs.Printed.{PrintsAhead}
use Rattle.scripts.proofs.Known.{fault_at, read_more, read_none}
use Rattle.scripts.proofs.Caused.{read_once, still_low, writes_result}
use Rattle.scripts.proofs.Printing.{read_nothing, to_the_end, by_a_block, by_nothing}
use Rattle.scripts.specs.Stages.{head_of}
use Rattle.scripts.proofs.entry.play_lines.Goals as goal
use Rattle.scripts.proofs.entry.play_lines.Goals.{in-Ok+in_ok-feed-in-Ok, in-Err}

pub returns-in_err-feed-in-Ok-clause-fault : goal.returns-in_err-feed-in-Ok-clause-fault
returns-in_err-feed-in-Ok-clause-fault g c =
    let p = err_from_is_err_and c.from_residual.result c.from_residual.ensures.1 in
    rw (p.1, p.2) (λ script is. fault_at (g.R.Read.remaining c.loop.input.inner)
    (g.R.Read.remaining c.read.new.self.inner) (take c.in-Ok.count c.read.new.buf)
    (check_ahead (head_of c.loop.reader.stage) c.loop.reader.ended c.loop.reader.line.items) _ _
    c.in-Ok.ensures.bytes.0 c.in_err-feed-in-Ok.ensures.fault (c.loop.invariant.ahead script is))

pub returns-in-Ok-eq0-clause-printed : goal.returns-in-Ok-eq0-clause-printed
returns-in-Ok-eq0-clause-printed g c =
    let none : c.in-Ok-eq0.field-0 ≡ 0 = grind (arith, common_steps) in
    let some : 0 < length c.read.new.buf = grind (arith, common_steps) in
    to_the_end c.finish.result (g.R.Read.remaining c.args.input.now.inner) (g.R.Read.remaining c.loop.input.inner)
    (g.R.Read.remaining c.read.new.self.inner) _ _ _ (PrintsAhead c.args.reader.now.stage
    c.args.reader.now.line.items) (PrintsAhead c.loop.reader.stage c.loop.reader.line.items)
    (read_nothing c.read.result c.in-Ok-eq0.field-0 _ _ c.read.new.buf c.read.ensures.bytes c.in-Ok-eq0.is none
    some) c.loop.invariant.printed c.finish.ensures.printed

pub loop-preserved : goal.loop-preserved
loop-preserved g c =
    elim c.match-read.branch [
      | in-Ok+in_ok-feed-in-Ok w ↦
          rw (w.reader-is, w.output-is) (record {
            ready = w.in_ok-feed-in-Ok.ensures.ready;
            same = w.in_ok-feed-in-Ok.ensures.same ∙ c.loop.invariant.same;
            reads = read_once _ _ _ c.loop.counter c.read.ensures.reads c.loop.invariant.reads;
            low = still_low c.loop.invariant.low c.read.ensures.grows;
            ended = grind (arith, common_steps, w.in_ok-feed-in-Ok.ensures.ended);
            ahead = λ script is. read_more (g.R.Read.remaining c.loop.input.inner)
                (g.R.Read.remaining c.read.new.self.inner) (take w.in-Ok.count c.read.new.buf)
                (check_ahead (head_of c.loop.reader.stage) c.loop.reader.ended c.loop.reader.line.items)
                (check_ahead (head_of w.feed.new.self.stage) w.feed.new.self.ended w.feed.new.self.line.items) _
                w.in-Ok.ensures.bytes.0 w.in_ok-feed-in-Ok.ensures.ahead (c.loop.invariant.ahead script is);
            printed = by_a_block (g.R.Read.remaining c.args.input.now.inner) (g.R.Read.remaining c.loop.input.inner)
                (g.R.Read.remaining c.read.new.self.inner) (take w.in-Ok.count c.read.new.buf) _ _ _
                (PrintsAhead c.args.reader.now.stage c.args.reader.now.line.items) (PrintsAhead c.loop.reader.stage
                c.loop.reader.line.items) (PrintsAhead w.feed.new.self.stage w.feed.new.self.line.items)
                w.in-Ok.ensures.bytes.0 c.loop.invariant.printed w.in_ok-feed-in-Ok.ensures.printed;
          })
      | in-Err w ↦
          rw (w.reader-is, w.output-is) (record {
            ready = c.loop.invariant.ready;
            same = c.loop.invariant.same;
            reads = read_once _ _ _ c.loop.counter c.read.ensures.reads c.loop.invariant.reads;
            low = still_low c.loop.invariant.low c.read.ensures.grows;
            ended = omega (arith, c.loop.invariant.ended);
            ahead = λ script is. read_none (g.R.Read.remaining c.loop.input.inner)
                (g.R.Read.remaining c.read.new.self.inner)
                (check_ahead (head_of c.loop.reader.stage) c.loop.reader.ended c.loop.reader.line.items) _
                w.in-Err.ensures.bytes (c.loop.invariant.ahead script is);
            printed = by_nothing (g.R.Read.remaining c.args.input.now.inner)
                (g.R.Read.remaining c.loop.input.inner) (g.R.Read.remaining c.read.new.self.inner) _ _
                (PrintsAhead c.args.reader.now.stage c.args.reader.now.line.items) (PrintsAhead c.loop.reader.stage
                c.loop.reader.line.items) w.in-Err.ensures.bytes c.loop.invariant.printed;
          })
    ]

pub returns-in-Ok-eq0-clause-cause : goal.returns-in-Ok-eq0-clause-cause
returns-in-Ok-eq0-clause-cause g c =
    writes_result c.args.input.now c.read.new.self c.args.output.now c.finish.new.output c.loop.output.failures
    c.finish.result c.loop.invariant.same c.finish.ensures.cause
