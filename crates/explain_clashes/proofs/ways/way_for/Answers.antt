use Rattle.explain_clashes.proofs.WayLaws.{some_gives_room}
use Rattle.explain_clashes.proofs.ways.way_for.Goals as goal

pub unreachable-requires : goal.unreachable-requires
unreachable-requires c = some_gives_room c.args.job.now c.args.met.now (λ other below. c.in-None.ensures other below)
