use Rattle.std.proofs.Common.{◌++◌, ◌∷◌, [], List, map, take, ap, subst, ◌∙◌}
use Rattle.protection_zones.specs.Logs.{IsLog}
use Rattle.protection_zones.specs.Notes.{read_going}
use Rattle.zone_stretches.specs.Occurrences.{OccurrenceView}
use Rattle.protection_zones.proofs.LogLaws.{goings_all, goings_next, goings_none}
use Rattle.protection_zones.proofs.logs.add_goings.Goals as goal
use Rattle.sync_types.specs.declared.runs.Go.{Go}

pub loop-go-init : goal.loop-go-init
loop-go-init c = λ job os is. rw (goings_none (read_going c.args.place c.args.deed.now) os c.args.goes.now) is

pub add_event-requires : goal.add_event-requires
add_event-requires c = (c.requires.0, c.requires.1 ++ map (read_going c.args.place c.args.deed.now) (take c.loop-go.go-index c.args.goes.now), c.loop-go.invariant c.requires.0 c.requires.1 c.requires.2)

pub loop-go-preserved : goal.loop-go-preserved
loop-go-preserved c = λ job os is.
    let f : Go → OccurrenceView = read_going c.args.place c.args.deed.now in
    let before : List OccurrenceView = os ++ map f (take c.loop-go.go-index c.args.goes.now) in
    subst (λ (all : List OccurrenceView). IsLog job all c.add_event.new.log)
    (ap (λ (o : OccurrenceView). before ++ o ∷ []) c.going_note.ensures ∙ goings_next f os c.args.goes.now c.loop-go.go-index c.go-item.result c.loop-go-test.true c.go-item.is)
    (c.in_ok-add_event.ensures job before (c.loop-go.invariant job os is))

pub returns : goal.returns
returns c = λ job os is.
    subst (λ (all : List OccurrenceView). IsLog job all c.loop-go.log) (goings_all (read_going c.args.place c.args.deed.now) os c.args.goes.now c.loop-go.go-index c.loop-go-test.false) (c.loop-go.invariant job os is)
