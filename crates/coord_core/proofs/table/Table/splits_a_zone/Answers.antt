use Rattle.coord_core.specs.Tables.{board_in}
use Rattle.coord_core.proofs.Acts.{no_split}
use Rattle.coord_core.proofs.table.Table.splits_a_zone.Goals as goal

pub returns-in_default : goal.returns-in_default
returns-in_default c = λ channels. no_split (board_in c.args.self.now channels) c.args.action.now c.in_default.not-Release c.in_default.not-Get
