use Rattle.std.proofs.Common.{◌∙◌, ap, refl, List}
use Rattle.order_clocks.specs.Clocked.{moves_in}
use Rattle.order_clocks.specs.Stops.{IsWhole}
use Rattle.order_clocks.proofs.WholeLaws.{whole_of}
use Rattle.protection_zones.specs.Logs.{IsLog}
use Rattle.zone_stretches.specs.Occurrences.{OccurrenceView, occurrences_of}
use Rattle.zone_stretches.specs.Stretches.{StretchView, StretchesView, all_stretches}
use Rattle.protection_zones.proofs.times.stretches_of.Goals as goal
use Rattle.sync_types.specs.Boards.{first_board}

pub log_of-requires-clause-whole : goal.log_of-requires-clause-whole
log_of-requires-clause-whole c = (first_board c.requires.whole.0, rw (c.entries.ensures, c.ends.ensures) (whole_of c.requires.whole.0 c.args.run.now c.requires.whole.1))

pub returns : goal.returns
unfolding all_stretches
returns c = λ start comes.
    let whole : IsWhole (first_board start) c.entries.result.now c.ends.result.now = rw (c.entries.ensures, c.ends.ensures) (whole_of start c.args.run.now comes) in
    let os : List OccurrenceView = occurrences_of (first_board start) (moves_in c.args.run.now.entries) in
    let log : IsLog c.args.job.now os c.in_ok-log.log = rw c.entries.ensures at (c.in_ok-log.ensures (first_board start) whole) in
    ap (λ (zones : List (List StretchView)). let shown : StretchesView = record { zones = zones } in shown)
    (c.told.ensures ∙ (c.in_ok-zones.ensures os log ∙ rw c.items.ensures refl))
