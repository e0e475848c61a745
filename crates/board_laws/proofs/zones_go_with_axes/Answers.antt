-- Zones go with their axes.
use Rattle.board_laws.proofs.Zones.{zones_first, zones_step}
use Rattle.board_laws.proofs.zones_go_with_axes.Goals as goal

pub returns : goal.returns
returns g = λ start b c step. record { first = λ sound. zones_first start sound; later = λ zones. zones_step b c step zones }
