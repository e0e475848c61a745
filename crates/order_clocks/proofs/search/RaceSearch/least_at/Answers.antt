use Rattle.std.proofs.Common.{sym, ◌∙◌}
use Rattle.std.proofs.lemmas.Bool.{true≢false}
use Rattle.std.proofs.lemmas.Result.{IfOk-weaker}
use Rattle.order_clocks.specs.Clocked.{moves_in}
use Rattle.order_clocks.specs.CourseOf.{course_of}
use Rattle.order_clocks.specs.Tracks.{tracks_of}
use Rattle.order_clocks.proofs.StepRaceLaws.{none_earlier}
use Rattle.order_clocks.proofs.WholeLaws.{moves_size}
use Rattle.order_clocks.proofs.WithinLaws.{IsTold, step_least}
use Rattle.order_clocks.proofs.search.RaceSearch.least_at.Goals as goal

pub returns-then-is_racy-clause-race : goal.returns-then-is_racy-clause-race
returns-then-is_racy-clause-race c = λ b reader read last inside.
    let told : IsTold b (moves_in c.args.replay.now.entries.now) c.args.place c.args.read.now.deed c.args.read.now.rows c.put_events.new.events c.put_waits.new.waits c.args.watch.now.holds = record {
      inside = rw (moves_size c.args.replay.now.entries.now) inside;
      read = read.deed;
      alone = read.alone;
      known = read.known;
      are = c.put_events.ensures;
      held = read.holds;
      size = c.put_waits.ensures.size;
      waited = c.put_waits.ensures.waits;
    } in
    IfOk-weaker c.least_before.result _ _
    (λ least. step_least b (moves_in c.args.replay.now.entries.now) c.args.place c.args.read.now.deed c.args.read.now.rows c.put_events.new.events c.put_waits.new.waits c.args.watch.now.holds c.least_within-within.result least told c.least_within-within.ensures)
    (c.least_before.ensures b c.args.read.now.deed c.args.read.now.rows reader read.known c.put_events.ensures)

pub returns-else-is_racy-clause-race : goal.returns-else-is_racy-clause-race
returns-else-is_racy-clause-race c = λ b reader read last inside.
    let told : IsTold b (moves_in c.args.replay.now.entries.now) c.args.place c.args.read.now.deed c.args.read.now.rows c.put_events.new.events c.put_waits.new.waits c.args.watch.now.holds = record {
      inside = rw (moves_size c.args.replay.now.entries.now) inside;
      read = read.deed;
      alone = read.alone;
      known = read.known;
      are = c.put_events.ensures;
      held = read.holds;
      size = c.put_waits.ensures.size;
      waited = c.put_waits.ensures.waits;
    } in
    step_least b (moves_in c.args.replay.now.entries.now) c.args.place c.args.read.now.deed c.args.read.now.rows c.put_events.new.events c.put_waits.new.waits c.args.watch.now.holds c.least_within-within.result c.least_within-within.result told c.least_within-within.ensures
    (none_earlier (course_of b (moves_in c.args.replay.now.entries.now)) (tracks_of b (moves_in c.args.replay.now.entries.now)) c.args.place c.least_within-within.result
    (λ racy. true≢false (sym ((c.is_racy.ensures (course_of b (moves_in c.args.replay.now.entries.now)) (tracks_of b (moves_in c.args.replay.now.entries.now)) c.args.place read.known.is read.known.tracked read.known.are last).1 racy) ∙ c.if-is_racy.false)))
