use Rattle.std.proofs.Common.{◌∙◌}
use Rattle.protection_zones.specs.Exchanges.{counts_in}
use Rattle.protection_zones.specs.Notes.{shown_note}
use Rattle.protection_zones.proofs.LogLaws.{next_count}
use Rattle.protection_zones.proofs.logs.add_event.Goals as goal

pub add_outset-requires-clause-size : goal.add_outset-requires-clause-size
add_outset-requires-clause-size c = c.requires.2.size

pub add_outset-requires-clause-begun : goal.add_outset-requires-clause-begun
add_outset-requires-clause-begun c = (c.requires.0, c.requires.1, c.requires.2.outsets)

pub returns : goal.returns
unfolding shown_note
returns c = λ job os is.
    let next = c.in_ok-next.ensures.number job os is.outsets in
    record {
      size = c.add_outset.ensures.size;
      outsets = c.in_ok-next.ensures.outsets job os is.outsets;
      exchanges = c.in_ok-add_exchange.ensures os is.counts next is.exchanges;
      counts = λ d. c.set_count.ensures d ∙ next_count os (shown_note c.args.note.now c.args.at.now) (counts_in c.args.log.now.counts) c.in_ok-next.next d next is.counts;
    }
