use Rattle.std.proofs.Common.{◌∙◌, ap, sym}
use Rattle.std.proofs.lemmas.List.Elements.{All-same}
use Rattle.nc_control_flow.specs.declared.repeats.Control.TheVariants.{Comes}
use Rattle.nc_control_flow.specs.Counted.{RepeatCounts}
use Rattle.nc_control_flow.specs.Flow.{next_at}
use Rattle.nc_control_flow.specs.Parts.{views}
use Rattle.nc_control_flow.specs.Repetitions.{Going, going_after_passes}
use Rattle.nc_control_flow.proofs.Counting.{settled_counts}
use Rattle.nc_control_flow.proofs.Leading.{going_same, leads_on, leads_nearer, leads_to}
use Rattle.nc_control_flow.proofs.flow.Flow.walk.Goals as goal

pub loop-place-init : goal.loop-place-init
loop-place-init c =
    let blocks = views c.args.self.now in
    let to = going_after_passes c.args.control c.args.repeats.now in
    record {
      same = going_same blocks to c.settle-place.result c.settle-place.new.self c.settle-place.ensures.place c.settle-place.ensures.running;
      repeat = All-same (RepeatCounts blocks) c.settle-place.new.self to.running c.settle-place.ensures.running (settled_counts blocks c.args.control c.args.repeats.now c.requires.repeat);
    }

pub loop-place-preserved : goal.loop-place-preserved
loop-place-preserved c =
    let blocks = views c.args.self.now in
    let there = c.plain-there.result in
    let new = c.settle-place-in-loop-place.new.self in
    let moved = c.settle-place-in-loop-place.ensures in
    record {
      same = leads_on blocks c.loop-place.place there c.loop-place.repeats c.plain-there.ensures c.if-there-place.false c.loop-place.invariant.repeat c.settle-place-in-loop-place.result new moved.place moved.running
          ∙ c.loop-place.invariant.same;
      repeat = All-same (RepeatCounts blocks) new (going_after_passes (Comes there) c.loop-place.repeats).running moved.running (settled_counts blocks (Comes there) c.loop-place.repeats c.loop-place.invariant.repeat);
    }

pub loop-place-smaller : goal.loop-place-smaller
loop-place-smaller c =
    leads_nearer (views c.args.self.now) c.loop-place.place c.plain-there.result c.loop-place.repeats c.plain-there.ensures c.if-there-place.false c.settle-place-in-loop-place.result c.settle-place-in-loop-place.new.self
    c.settle-place-in-loop-place.ensures.place c.settle-place-in-loop-place.ensures.running

pub returns-then-there-place-clause-next : goal.returns-then-there-place-clause-next
returns-then-there-place-clause-next c =
    let blocks = views c.args.self.now in
    let rests = leads_to blocks c.loop-place.place c.plain-there.result c.loop-place.repeats c.plain-there.ensures c.if-there-place.true in
    c.at.ensures ∙ ap (λ (g : Going). next_at blocks g.place) (sym rests ∙ c.loop-place.invariant.same)

pub returns-then-there-place-clause-running : goal.returns-then-there-place-clause-running
returns-then-there-place-clause-running c =
    let blocks = views c.args.self.now in
    let rests = leads_to blocks c.loop-place.place c.plain-there.result c.loop-place.repeats c.plain-there.ensures c.if-there-place.true in
    ap (λ (g : Going). g.running) (sym rests ∙ c.loop-place.invariant.same)
