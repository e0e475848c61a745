use Rattle.std.proofs.Common.{ap, sym, subst, ℕ, Result, Ok}
use Rattle.std.specs.Prelude.{filter}
use Rattle.std.proofs.lemmas.List.Elements.{All-same, All-filter}
use Rattle.nc_control_flow.specs.Counted.{RepeatCounts}
use Rattle.nc_control_flow.specs.Flow.{Leads}
use Rattle.nc_control_flow.specs.Parts.{views}
use Rattle.nc_control_flow.specs.Repetitions.{Going, is_within}
use Rattle.nc_control_flow.proofs.Starting.{idle_leads}
use Rattle.nc_control_flow.proofs.flow.Flow.go_over.Goals as goal

pub walk-requires-in-Leap-clause-repeat : goal.walk-requires-in-Leap-clause-repeat
walk-requires-in-Leap-clause-repeat c =
    let counts = RepeatCounts (views c.args.self.now) in
    All-same counts c.leave.new.self (filter (is_within c.in-Leap.place) c.args.repeats.now) c.leave.ensures (All-filter (is_within c.in-Leap.place) counts c.args.repeats.now c.requires.repeat)

pub returns-then-is_idle-clause-leads : goal.returns-then-is_idle-clause-leads
returns-then-is_idle-clause-leads c =
    let blocks = views c.args.self.now in
    let P : Result Going ℕ → Type 0 = λ g. Leads blocks g (Ok c.walk-then-is_idle.result) c.args.repeats.now c.walk-then-is_idle.new.repeats in
    let leads = idle_leads blocks c.args.pc c.args.repeats.now c.args.asked c.in-Start.repetition c.is_full.result c.is_idle.result c.in-Start.is c.requires.starts c.requires.repeat
    c.is_full.ensures.full c.if-is_full.false c.is_idle.ensures c.if-is_idle.true in
    subst P (sym leads) (ap (λ n. Ok n) c.walk-then-is_idle.ensures.next, c.walk-then-is_idle.ensures.running)
