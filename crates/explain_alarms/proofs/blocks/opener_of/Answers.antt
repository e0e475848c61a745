use Rattle.std.proofs.Common.{◌∙◌, ℕ, ap}
use Rattle.channel_machine.proofs.Placed.{opening_there}
use Rattle.nc_control_flow.specs.Parts.{statement_at, views}
use Rattle.explain_alarms.proofs.blocks.opener_of.Goals as goal

pub statement_of-requires-clause-here : goal.statement_of-requires-clause-here
statement_of-requires-clause-here c = opening_there c.args.flow.now c.args.pc c.opening.result c.requires.here c.opening.ensures.place

pub returns-clause-says : goal.returns-clause-says
returns-clause-says c = c.statement_of.ensures.says ∙ ap (λ (k : ℕ). statement_at k (views c.args.flow.now)) c.opening.ensures.place
