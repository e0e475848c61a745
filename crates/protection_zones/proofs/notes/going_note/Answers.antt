use Rattle.protection_zones.proofs.NoteLaws.{going_shown}
use Rattle.protection_zones.proofs.notes.going_note.Goals as goal

pub returns : goal.returns
returns c = going_shown c.args.place c.args.deed.now c.args.go.now c.lowest_of.result c.took_in.result c.lowest_of.ensures c.took_in.ensures
