use Rattle.std.proofs.Common.{◌∙◌, ap, sym}
use Rattle.nc_control_flow.specs.Counted.{going_to_counted}
use Rattle.nc_control_flow.specs.Flow.{next_at}
use Rattle.nc_control_flow.specs.Parts.{views}
use Rattle.nc_control_flow.specs.Repetitions.{Going}
use Rattle.nc_control_flow.proofs.Leading.{first_is}
use Rattle.nc_control_flow.proofs.flow.Flow.first_counted.Goals as goal

pub returns-then-skip : goal.returns-then-skip
returns-then-skip c =
    let blocks = views c.args.self.now in
    rw c.if-skip.true (c.at.ensures ∙ ap (next_at blocks) (c.plain.ensures ∙ ap (λ (g : Going). g.place) (sym (first_is blocks))))

pub returns-else-skip : goal.returns-else-skip
unfolding going_to_counted
returns-else-skip c = rw c.if-skip.false c.at-else-skip.ensures
