use Rattle.std.proofs.Common.{refl, subst, sym}
use Rattle.channel_machine.specs.Kept.{Keeps, state_view}
use Rattle.channel_machine.specs.Run.{channel_at_start, edges_in, surroundings_of}
use Rattle.channel_machine.specs.declared.local.State.{State}
use Rattle.channel_machine.proofs.local.Local.start.Goals as goal

pub returns-clause-kept : goal.returns-clause-kept
returns-clause-kept c =
    let surroundings = surroundings_of c.args.job.now c.args.channel c.args.grant.now in
    subst (λ (state : State). Keeps surroundings (channel_at_start surroundings) (state_view state)) (sym c.in_ok-state.ensures.ok) (record {
      levels = c.begin_some.ensures.begun;
      count = refl;
      last = c.header_of.ensures;
      parameters = c.in_ok-new.ensures;
      modal = c.start.ensures;
      frame = c.empty.ensures;
      tool = c.nothing.ensures (edges_in surroundings);
      at = λ axis. refl;
      slots = c.own_axes.ensures.slots;
      axes = c.own_axes.ensures.owned;
      on = refl;
    })
