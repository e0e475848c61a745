use Rattle.std.proofs.Common.{◌≡◌, ◌++◌, ◌∷◌, [], List, map, ap, subst, append_assoc, ◌∙◌}
use Rattle.std.proofs.lemmas.Result.{on_ok_weaker}
use Rattle.protection_zones.specs.Logs.{IsLog}
use Rattle.protection_zones.specs.Notes.{read_act, read_going, read_step, shown_note}
use Rattle.sync_types.specs.declared.runs.Go.{Go}
use Rattle.protection_zones.proofs.logs.add_step.Goals as goal
use Rattle.zone_stretches.specs.Occurrences.{OccurrenceView}

pub add_goings-requires : goal.add_goings-requires
add_goings-requires c = (c.requires.0, _, c.in_ok-add_event.ensures c.requires.0 c.requires.1 c.requires.2)

pub returns : goal.returns
returns c = λ job os is.
    let f : Go → OccurrenceView = read_going c.args.place c.args.read.now.deed in
    let act : shown_note c.act_note.result c.step-step.result.now.at ≡ read_act c.args.place c.args.read.now c.args.entry.now.step = c.act_note.ensures ∙ ap (read_act c.args.place c.args.read.now) c.step-step.ensures in
    let all : (os ++ shown_note c.act_note.result c.step-step.result.now.at ∷ []) ++ map f c.goes.result.now ≡ os ++ read_step c.args.place c.args.read.now c.args.entry.now =
    ap (λ (o : OccurrenceView). (os ++ o ∷ []) ++ map f c.goes.result.now) act
    ∙ (ap (λ (goes : List Go). (os ++ read_act c.args.place c.args.read.now c.args.entry.now.step ∷ []) ++ map f goes) c.goes.ensures.goes
    ∙ append_assoc os (read_act c.args.place c.args.read.now c.args.entry.now.step ∷ []) (map f c.args.entry.now.goes)) in
    on_ok_weaker c.add_goings.result (subst (λ (some : List OccurrenceView). IsLog job some c.add_goings.new.log) all)
    (c.add_goings.ensures job _ (c.in_ok-add_event.ensures job os is))
