use Rattle.std.proofs.Common.{ℕ, Bool, ap, ◌∙◌}
use Rattle.axis_sets.specs.Sets.{members_of}
use Rattle.std.proofs.Math.Path.{fun_ext}
use Rattle.std.specs.List.{list_all}
use Rattle.coord_core.proofs.alarms.are_of_job.Goals as goal

pub returns : goal.returns
returns c = c.is_within.ensures.within ∙ ap (λ (p : ℕ → Bool). list_all p (members_of c.args.named)) (fun_ext c.channels_of.ensures.members)
