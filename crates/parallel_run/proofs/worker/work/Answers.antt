use Rattle.std.proofs.Common.{◌≡◌, false, Option, ap, subst, sym, ◌∙◌}
use Rattle.channel_machine.specs.Grants.{grant_fits}
use Rattle.channel_machine.specs.Kept.{StateView}
use Rattle.parallel_run.proofs.Tellings.{acts_on, at_done, at_misfit, closes, closes_shut, granted_room, granted_unshut, is_open, is_shut, starts, stop_room, stop_unshut}
use Rattle.parallel_run.proofs.worker.work.Goals as goal
use Rattle.parallel_run.specs.Workers.{WorkedView}

pub turns-init : goal.turns-init
turns-init g c = record {
  fits = c.wait_start-outcome.ensures.fits;
  channel = c.new-worked.ensures.channel;
  ready = c.new-worked.ensures.ready c.args.own.now.job.now;
  turn = starts c.args.own.now.job.now c.args.own.now.channel c.new-worked.result (g.D.Desk.tells c.args.pass.now) (g.D.Desk.tells c.wait_start-outcome.new.pass) c.wait_start-outcome.result
      (c.new-worked.ensures.worked c.args.own.now.job.now) c.requires.fresh c.wait_start-outcome.ensures.told;
}

pub turns-preserved : goal.turns-preserved
turns-preserved g c = record {
  fits = c.act_and_wait-outcome.ensures.fits;
  channel = c.in-Ok.ensures.noted.channel ∙ c.turns.invariant.channel;
  ready = c.in-Ok.ensures.ready;
  turn = acts_on c.args.own.now.job.now c.args.own.now.channel c.turns.worked c.note.new.self c.in-Granted.grant c.in-Ok.step c.turns.invariant.channel c.in-Ok.ensures.noted
      (g.D.Desk.tells c.args.pass.now) (g.D.Desk.tells c.turns.pass) (g.D.Desk.tells c.act_and_wait-outcome.new.pass) c.turns.outcome c.act_and_wait-outcome.result c.in-Granted.is c.turns.invariant.turn c.act_and_wait-outcome.ensures.told;
}

pub returns-in_default-clause-own : goal.returns-in_default-clause-own
returns-in_default-clause-own g c =
    closes c.args.own.now.job.now c.args.own.now.channel c.turns.worked (g.D.Desk.tells c.args.pass.now) (g.D.Desk.tells c.turns.pass) (g.D.Desk.tells c.close.new.pass) c.turns.outcome c.turns.invariant.turn c.close.ensures.told

pub returns-in_default-clause-shut : goal.returns-in_default-clause-shut
returns-in_default-clause-shut g c = closes_shut (g.D.Desk.tells c.turns.pass) (g.D.Desk.tells c.close.new.pass) c.close.ensures.told

pub returns-in-Done-clause-open : goal.returns-in-Done-clause-open
returns-in-Done-clause-open g c =
    is_open c.args.own.now.job.now c.args.own.now.channel c.turns.worked (g.D.Desk.tells c.args.pass.now) (g.D.Desk.tells c.turns.pass) c.turns.outcome (stop_unshut c.turns.outcome c.in-Done.is) (stop_room c.turns.outcome c.in-Done.is) c.turns.invariant.turn

pub returns-in-Done-clause-ends : goal.returns-in-Done-clause-ends
returns-in-Done-clause-ends g c =
    at_done c.args.own.now.job.now c.args.own.now.channel c.turns.worked (g.D.Desk.tells c.args.pass.now) (g.D.Desk.tells c.turns.pass) c.turns.outcome (stop_unshut c.turns.outcome c.in-Done.is) (stop_room c.turns.outcome c.in-Done.is) c.in-Done.is c.turns.invariant.turn

pub returns-in-Closed-clause-shut : goal.returns-in-Closed-clause-shut
returns-in-Closed-clause-shut g c =
    is_shut c.args.own.now.job.now c.args.own.now.channel c.turns.worked (g.D.Desk.tells c.args.pass.now) (g.D.Desk.tells c.turns.pass) c.turns.outcome c.in-Closed.is c.turns.invariant.turn

pub returns-then-not-grant_fits-clause-open : goal.returns-then-not-grant_fits-clause-open
returns-then-not-grant_fits-clause-open g c =
    is_open c.args.own.now.job.now c.args.own.now.channel c.turns.worked (g.D.Desk.tells c.args.pass.now) (g.D.Desk.tells c.turns.pass) c.turns.outcome
    (granted_unshut c.turns.outcome c.in-Granted.grant c.in-Granted.is) (granted_room c.turns.outcome c.in-Granted.grant c.in-Granted.is) c.turns.invariant.turn

pub returns-then-not-grant_fits-clause-ends : goal.returns-then-not-grant_fits-clause-ends
returns-then-not-grant_fits-clause-ends g c =
    let off : grant_fits c.args.own.now.job.now c.turns.worked.last c.in-Granted.grant ≡ false =
    subst (λ (o : Option StateView). grant_fits c.args.own.now.job.now o c.in-Granted.grant ≡ false) (c.as_ref.ensures.value ∙ ap (λ (w : WorkedView). w.last) c.worked-in-turns.view_is) (sym c.grant_fits.ensures ∙ c.if-not-grant_fits.true) in
    at_misfit c.args.own.now.job.now c.args.own.now.channel c.turns.worked (g.D.Desk.tells c.args.pass.now) (g.D.Desk.tells c.turns.pass) c.turns.outcome c.in-Granted.grant
    (granted_unshut c.turns.outcome c.in-Granted.grant c.in-Granted.is) (granted_room c.turns.outcome c.in-Granted.grant c.in-Granted.is) c.in-Granted.is off c.turns.invariant.turn
