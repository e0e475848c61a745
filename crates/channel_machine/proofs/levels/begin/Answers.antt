use Rattle.std.proofs.Common.{Bool, Some, ap, ◌∙◌, List}
use Rattle.nc_subprograms.specs.declared.Place.{Place}
use Rattle.channel_machine.specs.Levels.{stood}
use Rattle.channel_machine.proofs.Going.{begins_at, begins_not}
use Rattle.channel_machine.proofs.levels.begin.Goals as goal

pub returns-then-start_at : goal.returns-then-start_at
returns-then-start_at c =
    ap (λ (places : List Place). Some (record { here = c.start_at.new.here; returns = places })) c.new.ensures
    ∙ begins_at c.args.skip c.args.job.now.programs c.args.number _ c.start_at.new.here c.start_at.ensures
    (ap (λ (b : Bool). stood b c.start_at.new.here) c.if-start_at.true)

pub returns-else-start_at : goal.returns-else-start_at
returns-else-start_at c =
    begins_not c.args.skip c.args.job.now.programs c.args.number _ c.start_at.ensures (ap (λ (b : Bool). stood b c.start_at.new.here) c.if-start_at.false)
