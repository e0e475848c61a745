use Rattle.std.proofs.Common.{rules}
use Rattle.clash_check.proofs.ChunkLaws.{few_by_size}
use Rattle.clash_check.proofs.sharing.chunk_size.Goals as goal

pub returns-clause-few : goal.returns-clause-few
returns-clause-few c = few_by_size c.args.chunks c.args.count c.max.result c.requires (search rules) (search rules)
