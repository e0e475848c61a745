use Rattle.std.proofs.Common.{map}
use Rattle.protection_zones.specs.Exchanges.{shown_exchange}
use Rattle.protection_zones.proofs.ExchangeLaws.{exchange_added, passed}
use Rattle.protection_zones.proofs.exchanges.add_exchange.Goals as goal

pub returns-then-is_empty : goal.returns-then-is_empty
returns-then-is_empty c = λ os counts next are.
    passed os c.args.note.now c.args.at.now (map shown_exchange c.args.exchanges.now.items) (c.is_empty.ensures.empty.0 c.if-is_empty.true) are

pub returns : goal.returns
returns c = λ os counts next are.
    rw c.in_ok-push.ensures.items
    (exchange_added os c.args.exchanges.now.items (record { note = c.args.note.now; at = c.args.at.now; counts = c.args.counts.now; next = c.args.next }) counts next are)
