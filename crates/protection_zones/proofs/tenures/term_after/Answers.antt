use Rattle.std.proofs.Common.{refl}
use Rattle.protection_zones.specs.Exchanges.{shown_exchange}
use Rattle.protection_zones.specs.Notes.{shown_note}
use Rattle.protection_zones.proofs.TenureLaws.{takes_alike, term_told}
use Rattle.protection_zones.proofs.tenures.term_after.Goals as goal

pub returns : goal.returns
unfolding shown_note
returns c =
    term_told c.args.zone.now (shown_exchange c.args.exchange.now) c.args.exchange.now.note.name.go c.owner_after.result c.unwrap_or.result c.row_of.result c.args.exchange.now.note.on c.args.exchange.now.note.name
    (takes_alike c.args.zone.now c.args.exchange.now.note c.args.exchange.now.at c.requires) c.owner_after.ensures c.unwrap_or.ensures c.row_of.ensures refl refl
