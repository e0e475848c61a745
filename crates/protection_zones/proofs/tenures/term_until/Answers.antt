use Rattle.std.proofs.Common.{refl}
use Rattle.protection_zones.specs.Exchanges.{counts_in}
use Rattle.protection_zones.specs.Notes.{shown_note}
use Rattle.protection_zones.proofs.TenureLaws.{ended_told}
use Rattle.protection_zones.proofs.tenures.term_until.Goals as goal

pub returns : goal.returns
unfolding shown_note
returns c =
    ended_told (counts_in c.args.exchange.now.counts) c.args.term.now (shown_note c.args.exchange.now.note c.args.exchange.now.at) c.count_of_owner.result c.args.exchange.now.note.name c.count_of_owner.ensures refl
